-- What is said of two actions of one key.
use Rattle.std.specs.Prelude.{◌≡◌, ℕ, nat_lt, Some, slice_get, Bool, true, false, not, ◌&&◌, ◌==◌, if◌then◌else◌, List, [], ◌∷◌, slice_index, codes}
use Rattle.std.specs.Option.{option_eq}
use Rattle.ips_cases.specs.Cases.{Table, IsKey, value_at}
use Rattle.ips_action.specs.Attrs.{is_same}
use Rattle.ips_action.specs.declared.kind.ActionKind.TheVariants.{File}
use Rattle.ips_action.specs.Action.{Fields}
use Rattle.ips_conflict.specs.declared.placed.Placed.{Placed}
use Rattle.ips_conflict.specs.declared.clashing.Rule.{Rule}
use Rattle.ips_conflict.specs.declared.clashing.Rule.TheVariants as rule
use Rattle.ips_conflict.specs.Key.{first_value, is_link}
use Rattle.ips_conflict.specs.Alike.{kind_place, alike, overlaid}

-- The place of a rule: where actions of one key break several, they go by it.
abbrev pub rule_rank : Rule → ℕ
rule_rank rule.Mediator = 0
rule_rank rule.Kinds = 1
rule_rank rule.Attributes = 2
rule_rank rule.Deliverers = 3
rule_rank rule.Below = 4
rule_rank rule.Target = 5

-- That two actions of one key are allowed; it is the place of no rule of the table.
abbrev pub allowed : ℕ
allowed = 0

-- What is said of two kinds of actions: different kinds break Kinds; two files are allowed with an overlay and else break Deliverers; two of any other kind are allowed where they are alike and else break Attributes.
abbrev pub decision : ℕ → ℕ → Bool → Bool → ℕ
decision k l alike overlaid =
    if k == l
    then (if k == kind_place File then (if overlaid then allowed else rule_rank rule.Deliverers) else (if alike then allowed else rule_rank rule.Attributes))
    else rule_rank rule.Kinds

-- What is said of two actions.
abbrev pub verdict : Fields → Fields → ℕ
verdict a b = decision (kind_place a.kind) (kind_place b.kind) (alike a b) (overlaid a b)

-- Two links of different mediators, or one without.
abbrev pub differ_in_mediator : Fields → Fields → Bool
differ_in_mediator a b = is_link a.kind && is_link b.kind && not (option_eq is_same (first_value (codes "mediator") a) (first_value (codes "mediator") b))

-- What is said of the kinds of a key of a table, likeness and overlay being 0 or 1.
abbrev pub decision_at : List ℕ → ℕ
decision_at key = decision (slice_index key 0) (slice_index key 1) (slice_index key 2 == 1) (slice_index key 3 == 1)

-- The table answers as the decision says, at each pair of kinds that have keys.
pub record IsClashTable (table : Table) : Type 0 where
  pub sizes : table.sizes ≡ 9 ∷ 9 ∷ 2 ∷ 2 ∷ []
  pub decides : (key : List ℕ) → IsKey (9 ∷ 9 ∷ 2 ∷ 2 ∷ []) key → value_at table.rows key ≡ decision_at key

-- The action is of a kind that has keys.
abbrev pub has_place : Fields → Bool
has_place a = nat_lt (kind_place a.kind) 9

-- Two actions of one key break the rule.
abbrev pub breaks : Rule → Fields → Fields → Bool
breaks rule.Mediator a b = differ_in_mediator a b
breaks rule.Kinds a b = verdict a b == rule_rank rule.Kinds
breaks rule.Attributes a b = verdict a b == rule_rank rule.Attributes
breaks rule.Deliverers a b = verdict a b == rule_rank rule.Deliverers
breaks rule.Below a b = false
breaks rule.Target a b = false

-- An action of a kind that has keys stands at the place.
abbrev pub HasPlace : List Placed → ℕ → Type 0
HasPlace placed i = (p : Placed) × (slice_get placed i ≡ Some p) × (has_place p.action ≡ true)
