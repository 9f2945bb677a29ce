-- Attributes, and the `key=value` that give them.
use Rattle.std.specs.Prelude.{◌≡◌, ℕ, ◌<◌, Bool, ◌==◌, if◌then◌else◌, List, [], ◌∷◌, length, map, filter}
use Rattle.std.specs.List.{AllByRecursion}
use Rattle.std.specs.declared.cmp.Ordering.TheVariants.{Less}
use Rattle.std.specs.Ordering.{nat_cmp}
use Rattle.std.specs.Cmp.Lexicographic.{pointwise, slice_cmp}
use Rattle.ips_line.specs.declared.words.Pair.{Pair}

-- an attribute: a key and its values
pub record Attr : Type 0 where
  pub key : List ℕ
  pub values : List (List ℕ)

-- the keys are the same
abbrev pub is_same : List ℕ → List ℕ → Bool
is_same = pointwise ◌==◌

-- the key comes before the other, by their bytes
abbrev pub IsBefore : List ℕ → List ℕ → Type 0
IsBefore key other = slice_cmp nat_cmp key other ≡ Less

-- the attributes stand by the bytes of their keys, each key once and with at least one value
abbrev pub AreAttrs : List Attr → Type 0
AreAttrs [] = Unit {0}
AreAttrs (attr ∷ attrs) = (0 < length attr.values) × AllByRecursion (λ (later : Attr). IsBefore attr.key later.key) attrs × AreAttrs attrs

-- the values of a key; none where it doesn't stand
abbrev pub values_of : List ℕ → List Attr → List (List ℕ)
values_of key [] = []
values_of key (attr ∷ attrs) = if is_same attr.key key then attr.values else values_of key attrs

-- the values that `key=value` give a key, in their order
abbrev pub values_in : List ℕ → List Pair → List (List ℕ)
values_in key pairs = map (λ p. p.value) (filter (λ p. is_same p.key key) pairs)

-- the attributes are those that `key=value` give: each key has its values in their order
abbrev pub Gathers : List Pair → List Attr → Type 0
Gathers pairs attrs = (key : List ℕ) → values_of key attrs ≡ values_in key pairs
