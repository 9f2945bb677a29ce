-- How the attributes of an action are held: their values in one text, and the places of these.
use Rattle.std.specs.Prelude.{◌≡◌, ℕ, ◌+◌, ◌≤◌, true, false, List, [], ◌∷◌, map, length}
use Rattle.std.specs.List.{AllByRecursion, slice_range}
use Rattle.std.specs.Str.{IsCharBoundary}
use Rattle.ips_line.specs.declared.words.Pair.{Pair}
use Rattle.ips_action.specs.declared.values.Slot.{Slot}
use Rattle.ips_action.specs.Attrs.{Attr, is_same}
use Rattle.ips_action.specs.Gathering.{Ascend, grouped}

-- the value at a place of the text
abbrev pub value_at : List ℕ → Slot → List ℕ
value_at text slot = slice_range text slot.start slot.end

-- the values at places of the text
abbrev pub values_at : List ℕ → List Slot → List (List ℕ)
values_at text slots = map (value_at text) slots

-- the value at a place of the text, with its key
abbrev pub pair_at : List ℕ → Slot → Pair
pair_at text slot = record { key = slot.key; value = value_at text slot }

-- the `key=value` at places of the text
abbrev pub pairs_at : List ℕ → List Slot → List Pair
pairs_at text slots = map (pair_at text) slots

-- the attributes at places of the text
abbrev pub attrs_at : List ℕ → List Slot → List Attr
attrs_at text slots = grouped (pairs_at text slots)

-- the place is one of the text: where it begins and ends, a character of the text begins, or the text ends
abbrev pub IsPlaced : List ℕ → Slot → Type 0
IsPlaced text slot = (slot.start ≤ slot.end) × IsCharBoundary text slot.start × IsCharBoundary text slot.end

-- each place is one of the text, and they stand by their keys
pub record IsHeld (text : List ℕ) (slots : List Slot) : Type 0 where
  pub placed : AllByRecursion (IsPlaced text) slots
  pub ascend : Ascend (pairs_at text slots)

-- the place of a value behind all that stands in the text
abbrev pub slot_behind : List ℕ → Pair → Slot
slot_behind text p = record { key = p.key; start = length text; end = length text + length p.value }

-- the place is of this key
abbrev pub OfKey : List ℕ → Slot → Type 0
OfKey key slot = is_same slot.key key ≡ true

-- the first of the places, if there is one, is of another key
abbrev pub BeginsOther : List ℕ → List Slot → Type 0
BeginsOther key [] = Unit {0}
BeginsOther key (slot ∷ slots) = is_same slot.key key ≡ false
