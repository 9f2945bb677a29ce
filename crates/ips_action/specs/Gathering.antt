-- How attributes are gathered from `key=value` that stand by their keys.
use Rattle.std.specs.Prelude.{◌≡◌, ℕ, false, if◌then◌else◌, List, [], ◌∷◌}
use Rattle.std.specs.List.{AllByRecursion}
use Rattle.std.specs.Ordering.{nat_cmp, is_gt}
use Rattle.std.specs.Cmp.Lexicographic.{slice_cmp}
use Rattle.ips_line.specs.declared.words.Pair.{Pair}
use Rattle.ips_action.specs.Attrs.{Attr, is_same}

-- the key doesn't come behind the other, by their bytes
abbrev pub UpTo : List ℕ → List ℕ → Type 0
UpTo key other = is_gt (slice_cmp nat_cmp key other) ≡ false

-- the `key=value` stand by their keys
abbrev pub Ascend : List Pair → Type 0
Ascend [] = Unit {0}
Ascend (p ∷ pairs) = AllByRecursion (λ (q : Pair). UpTo p.key q.key) pairs × Ascend pairs

-- an attribute with one value
abbrev pub single : Pair → Attr
single p = record { key = p.key; values = p.value ∷ [] }

-- the attributes with one more value before all others: of the first key, where it is that one, and else of a key before it
abbrev pub joined : Pair → List Attr → List Attr
joined p [] = single p ∷ []
joined p (attr ∷ attrs) = if is_same p.key attr.key then record { key = p.key; values = p.value ∷ attr.values } ∷ attrs else single p ∷ attr ∷ attrs

-- the attributes of `key=value` that stand by their keys: values of one key that stand side by side are of one attribute
abbrev pub grouped : List Pair → List Attr
grouped [] = []
grouped (p ∷ pairs) = joined p (grouped pairs)
