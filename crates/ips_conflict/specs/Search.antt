-- What is looked for among actions of one key. Only the search for the first clash uses it.
use Rattle.std.specs.Prelude.{◌≡◌, ◌≢◌, ℕ, ◌<◌, true, false, List, Option, Some, None, slice_get, length, if◌then◌else◌, codes}
use Rattle.std.specs.declared.cmp.Ordering.TheVariants.{Less, Greater}
use Rattle.std.specs.Ordering.{is_lt}
use Rattle.ips_text.specs.Ancestry.{is_below}
use Rattle.ips_action.specs.declared.kind.ActionKind.TheVariants.{Hardlink}
use Rattle.ips_conflict.specs.declared.placed.Placed.{Placed}
use Rattle.ips_conflict.specs.declared.placed.Sort.{Sort}
use Rattle.ips_conflict.specs.declared.clashing.Rule.{Rule}
use Rattle.ips_conflict.specs.declared.clashing.Rule.TheVariants as rule
use Rattle.ips_conflict.specs.declared.clashing.Clash.{Clash}
use Rattle.ips_conflict.specs.declared.clashing.Found.{Found}
use Rattle.ips_conflict.specs.declared.earliest.Test.{Test}
use Rattle.ips_conflict.specs.declared.earliest.Test.TheVariants.{Any, Linked, After, Against, Obstacle, Lost, Under}
use Rattle.ips_conflict.specs.Key.{Key, sort_of, value_of, is_dir, is_link}
use Rattle.ips_conflict.specs.Verdict.{HasPlace, breaks, rule_rank}
use Rattle.ips_conflict.specs.Order.{place_cmp}
use Rattle.ips_conflict.specs.Clash.{LeadsToFile, Conflict, IsConflict, pair_cmp, conflict_cmp, told}

-- The second action stands behind the first, and breaks the rule with it.
pub record BreaksBehind (placed : List Placed) (rule : Rule) (i j : ℕ) : Type 0 where
  pub a : Placed
  pub b : Placed
  pub a_here : slice_get placed i ≡ Some a
  pub b_here : slice_get placed j ≡ Some b
  pub behind : place_cmp placed i j ≡ Less
  pub broken : breaks rule a.action b.action ≡ true

-- The action at a place passes the test.
abbrev pub Passes : List Placed → Test → ℕ → Placed → Type 0
Passes placed Any j p = Unit {0}
Passes placed Linked j p = is_link p.action.kind ≡ true
Passes placed (After i) j p = place_cmp placed i j ≡ Less
Passes placed (Against i rule) j p = BreaksBehind placed rule i j
Passes placed Obstacle j p = is_dir p.action.kind ≡ false
Passes placed Lost j p = (p.action.kind ≡ Hardlink) × (LeadsToFile placed p.action → ⊥)
Passes placed (Under path) j p = is_below path.now (value_of (codes "path") p.action) ≡ true

-- An action whose keys are of this sort stands at the place, and passes the test.
pub record MeetsTest (placed : List Placed) (sort : Sort) (test : Test) (j : ℕ) : Type 0 where
  pub p : Placed
  pub here : slice_get placed j ≡ Some p
  pub of_sort : sort_of p.action.kind ≡ Some sort
  pub passes : Passes placed test j p

-- Among which actions of a key two are looked for that break a rule: links alone may differ in their mediators.
abbrev pub domain_of : Rule → Test
domain_of rule.Mediator = Linked
domain_of rule.Kinds = Any
domain_of rule.Attributes = Any
domain_of rule.Deliverers = Any
domain_of rule.Below = Any
domain_of rule.Target = Any

-- The places that a test names are there.
abbrev pub IsTest : List Placed → Test → Type 0
IsTest placed Any = Unit {0}
IsTest placed Linked = Unit {0}
IsTest placed (After i) = i < length placed
IsTest placed (Against i rule) = HasPlace placed i
IsTest placed Obstacle = Unit {0}
IsTest placed Lost = Unit {0}
IsTest placed (Under path) = Unit {0}

-- The earliest place of those in question, where there is one.
abbrev pub IsEarliest : List Placed → (ℕ → Type 0) → Option ℕ → Type 0
IsEarliest placed P None = (j : ℕ) → P j → ⊥
IsEarliest placed P (Some i) = P i × ((j : ℕ) → P j → place_cmp placed i j ≢ Greater)

-- No clash over the key is by a rule of a lower rank.
abbrev pub NoneBelow : List Placed → Key → ℕ → Type 0
NoneBelow placed key rank = (d : Conflict) → IsConflict placed d → d.key ≡ key → rule_rank d.rule < rank → ⊥

-- A clash over this key by this rule.
abbrev pub conflict : Key → Rule → ℕ → Option ℕ → Conflict
conflict key rule first second = record { key = key; rule = rule; first = first; second = second }

-- The first clash over the key by the rule, where there is one.
abbrev pub IsFirstBy : List Placed → Key → Rule → Option (ℕ × Option ℕ) → Type 0
IsFirstBy placed key rule None = (d : Conflict) → IsConflict placed d → d.key ≡ key → d.rule ≡ rule → ⊥
IsFirstBy placed key rule (Some pair) = IsConflict placed (conflict key rule pair.0 pair.1) × ((d : Conflict) → IsConflict placed d → d.key ≡ key → d.rule ≡ rule → pair_cmp placed (conflict key rule pair.0 pair.1) d ≢ Greater)

-- What was found over the key by rules of lower ranks: the first clash by the first rule that has one.
abbrev pub IsFirstBelow : List Placed → Key → ℕ → Option Found → Type 0
IsFirstBelow placed key rank None = NoneBelow placed key rank
IsFirstBelow placed key rank (Some found) = NoneBelow placed key (rule_rank found.rule) × IsFirstBy placed key found.rule (Some (found.first, found.second))

-- The first clash over the key, where there is one.
abbrev pub IsFirstOver : List Placed → Key → Option Found → Type 0
IsFirstOver placed key None = (d : Conflict) → IsConflict placed d → d.key ≡ key → ⊥
IsFirstOver placed key (Some found) =
    IsConflict placed (conflict key found.rule found.first found.second)
    × ((d : Conflict) → IsConflict placed d → d.key ≡ key → conflict_cmp placed (conflict key found.rule found.first found.second) d ≢ Greater)

-- The first clash over the keys of this text as it is told, where there is one.
abbrev pub IsFirstOfText : List Placed → List ℕ → Option Clash → Type 0
IsFirstOfText placed text None = (d : Conflict) → IsConflict placed d → d.key.text ≡ text → ⊥
IsFirstOfText placed text (Some clash) =
    (c : Conflict) × (c.key.text ≡ text) × IsConflict placed c × ((d : Conflict) → IsConflict placed d → d.key.text ≡ text → conflict_cmp placed c d ≢ Greater) × (clash ≡ told placed c)

-- The earlier of two places, of which the first may be none.
abbrev pub earlier_of : List Placed → Option ℕ → ℕ → ℕ
earlier_of placed None j = j
earlier_of placed (Some i) j = if is_lt (place_cmp placed j i) then j else i
