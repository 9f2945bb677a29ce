-- What rules make of actions: each rule is tried on an action as the earlier ones left it.
use Rattle.std.specs.Prelude.{◌≡◌, ℕ, Bool, true, false, not, ◌&&◌, ◌||◌, if◌then◌else◌, List, [], ◌∷◌, ◌++◌, map, filter, Option, Some, None, option_and_then}
use Rattle.std.specs.List.{list_any, list_all, AllByRecursion}
use Rattle.ips_digest.specs.declared.name.PayloadName.{PayloadName}
use Rattle.ips_line.specs.declared.words.Pair.{Pair}
use Rattle.ips_action.specs.declared.kind.ActionKind.{ActionKind}
use Rattle.ips_action.specs.Attrs.{is_same}
use Rattle.ips_action.specs.Kind.{kind_name}
use Rattle.ips_action.specs.Action.{pairs_of}
use Rattle.ips_manifest.specs.declared.line.Line.{Line}
use Rattle.ips_pattern.specs.Pattern.{IsPattern, matches, Replacement, replaced}
use Rattle.ips_rule.specs.declared.selector.Selector.{Selector}
use Rattle.ips_rule.specs.declared.selector.Selector.TheVariants.{Kind, Criterion}
use Rattle.ips_rule.specs.declared.operation.Operation.{Operation}
use Rattle.ips_rule.specs.declared.operation.Operation.TheVariants as does
use Rattle.ips_rule.specs.Rules.{Rule}

-- the parts of an action: the number of its line, its kind, its payload, and its `key=value`, of which those of one key stand in the order of its values
pub record ActionParts : Type 0 where
  pub number : ℕ
  pub kind : ActionKind
  pub payload : Option PayloadName
  pub pairs : List Pair

-- the parts of the action of a line
abbrev pub parts_of : Line → ActionParts
parts_of line = record { number = line.number; kind = line.action.kind; payload = line.action.payload; pairs = pairs_of line.action.attrs }

-- ---- which actions a rule applies to

-- a kind of action is named
abbrev pub names_some : Selector → Bool
names_some (Kind named) = true
names_some (Criterion key pattern) = false

-- this kind of action is named
abbrev pub names : ActionKind → Selector → Bool
names kind (Kind named) = is_same (kind_name named) (kind_name kind)
names kind (Criterion key pattern) = false

-- the kind is among those that are named, or none is named
abbrev pub asks_for : ActionKind → List Selector → Bool
asks_for kind selectors = list_any (names kind) selectors || not (list_any names_some selectors)

-- some value of the key is matched by the pattern
abbrev pub has_match : List ℕ → List ℕ → List Pair → Bool
has_match key pattern pairs = list_any (λ p. is_same p.key key && matches pattern p.value) pairs

-- the criterion holds, where it is one
abbrev pub holds : List Pair → Selector → Bool
holds pairs (Kind named) = true
holds pairs (Criterion key pattern) = has_match key pattern pairs

-- the rule applies to the action: to its kind, and each criterion holds
abbrev pub applies : Rule → ActionParts → Bool
applies rule parts = asks_for parts.kind rule.selectors && list_all (holds parts.pairs) rule.selectors

-- ---- what is done to their `key=value`

-- the value stands last
abbrev pub added : List ℕ → List ℕ → List Pair → List Pair
added key value pairs = pairs ++ record { key = key; value = value } ∷ []

-- the key has a value
abbrev pub has_key : List ℕ → List Pair → Bool
has_key key pairs = list_any (λ p. is_same p.key key) pairs

-- the value stands where the key has none
abbrev pub defaulted : List ℕ → List ℕ → List Pair → List Pair
defaulted key value pairs = if has_key key pairs then pairs else added key value pairs

-- the `key=value` of other keys
abbrev pub without : List ℕ → List Pair → List Pair
without key pairs = filter (λ p. not (is_same p.key key)) pairs

-- the value is the only one of the key
abbrev pub put : List ℕ → List ℕ → List Pair → List Pair
put key value pairs = added key value (without key pairs)

-- the matched values of the key are taken away, and the key with them where none is left
abbrev pub deleted : List ℕ → List ℕ → List Pair → List Pair
deleted key pattern pairs = filter (λ p. not (is_same p.key key && matches pattern p.value)) pairs

-- a value of the key has each match replaced
abbrev pub edited_one : List ℕ → Replacement → Pair → Pair
edited_one key r p = if is_same p.key key then record { key = p.key; value = replaced r p.value } else p

-- each value of the key has each match replaced
abbrev pub edited : List ℕ → Replacement → List Pair → List Pair
edited key r pairs = map (edited_one key r) pairs

-- the action with other `key=value`
abbrev pub with_pairs : ActionParts → List Pair → Option ActionParts
with_pairs parts pairs = Some (record { number = parts.number; kind = parts.kind; payload = parts.payload; pairs = pairs })

-- what an operation leaves of an action: nothing where it is dropped
abbrev pub changed : Operation → ActionParts → Option ActionParts
changed does.Drop parts = None
changed (does.Add key value) parts = with_pairs parts (added key value parts.pairs)
changed (does.Default key value) parts = with_pairs parts (defaulted key value parts.pairs)
changed (does.Set key value) parts = with_pairs parts (put key value parts.pairs)
changed (does.Delete key pattern) parts = with_pairs parts (deleted key pattern parts.pairs)
changed (does.Edit key pattern template) parts = with_pairs parts (edited key (record { pattern = pattern; template = template }) parts.pairs)

-- ---- rules one after the other

-- what a rule leaves of an action: the action itself where it doesn't apply
abbrev pub after_rule : Rule → ActionParts → Option ActionParts
after_rule rule parts = if applies rule parts then changed rule.operation parts else Some parts

-- what the rules leave of an action, each tried on it as the earlier ones left it: nothing where one of them drops it, and then no later one is tried
abbrev pub transformed : List Rule → ActionParts → Option ActionParts
transformed [] parts = Some parts
transformed (rule ∷ rules) parts = option_and_then (transformed rules) (after_rule rule parts)

-- ---- rules whose patterns are patterns

-- the pattern of a criterion is one
abbrev pub IsUsable : Selector → Type 0
IsUsable (Kind named) = Unit {0}
IsUsable (Criterion key pattern) = IsPattern pattern

-- the pattern of an operation is one
abbrev pub IsPossible : Operation → Type 0
IsPossible does.Drop = Unit {0}
IsPossible (does.Add key value) = Unit {0}
IsPossible (does.Default key value) = Unit {0}
IsPossible (does.Set key value) = Unit {0}
IsPossible (does.Delete key pattern) = IsPattern pattern
IsPossible (does.Edit key pattern template) = IsPattern pattern

-- each pattern of the rule is one
pub record HasPatterns (rule : Rule) : Type 0 where
  pub selectors : AllByRecursion IsUsable rule.selectors
  pub operation : IsPossible rule.operation
