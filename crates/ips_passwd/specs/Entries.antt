-- What the lines of an account file are found by, beside the lines.
use Rattle.std.specs.Prelude.{◌≡◌, ℕ, ◌+◌, ◌<◌, ◌≤◌, ◌==◌, nat_le, Bool, true, false, List, [], length, slice_index_or, Option}
use Rattle.std.specs.List.{list_any}
use Rattle.std.specs.Option.{option_map_or}
use Rattle.std.specs.Ordering.{nat_cmp}
use Rattle.std.specs.BTreeMap.{BTreeMap, get}
use Rattle.std.specs.BTreeSet.{BTreeSet, contains}
use Rattle.std.specs.declared.vec.Vec.{Vec}
use Rattle.std.specs.declared.alloc.Global.{Global}
use Rattle.std.specs.Map.{lookup}
use Rattle.ips_action.specs.Attrs.{is_same}
use Rattle.ips_books.specs.Lines.{AccountLine}
use Rattle.ips_books.specs.Accounts.{is_of}
use Rattle.ips_books.specs.Writing.{has_number}
use Rattle.ips_books.specs.Seen.{as_line}

-- What stands on each line is such, by the place of the line.
abbrev pub EachAt : (ℕ → List ℕ → Type 0) → List AccountLine → Type 0
EachAt holds lines = (i : ℕ) (d : AccountLine) → i < length lines → holds i (slice_index_or lines i d).text

-- ---- names

-- A place for each name.
abbrev pub NamePlaces : Type 0
NamePlaces = BTreeMap (Vec ℕ Global) ℕ

-- The place for a name.
abbrev pub kept_place : NamePlaces → List ℕ → Option ℕ
kept_place places name = lookup (λ k. is_same name k.items) places.entries

-- The name leads to this place, or to one before it.
abbrev pub leads_up_to : NamePlaces → List ℕ → ℕ → Bool
leads_up_to places name i = option_map_or (λ first. nat_le first i) (kept_place places name) false

-- The name on a line leads to it, or to a place before it.
abbrev pub LeadByName : NamePlaces → List AccountLine → Type 0
LeadByName places lines = EachAt (λ i text. (name : List ℕ) → is_of name (as_line text) ≡ true → leads_up_to places name i ≡ true) lines

-- ---- numbers

-- The places for each number.
abbrev pub NumberPlaces : Type 0
NumberPlaces = BTreeMap ℕ (Vec ℕ Global)

-- The places for a number.
abbrev pub places_with : NumberPlaces → ℕ → List ℕ
places_with numbers id = option_map_or (λ v. v.items) (get nat_cmp numbers id) []

-- The number leads to this place.
abbrev pub leads_by : NumberPlaces → ℕ → ℕ → Bool
leads_by numbers id i = list_any (λ place. place == i) (places_with numbers id)

-- The number of a line leads to it.
abbrev pub LeadByNumber : NumberPlaces → List AccountLine → Type 0
LeadByNumber numbers lines = EachAt (λ i text. (id : ℕ) → has_number id (as_line text) ≡ true → leads_by numbers id i ≡ true) lines

-- Each number from 1 to the count of lines that no line has is among these, less one.
abbrev pub AreFree : BTreeSet ℕ → List AccountLine → Type 0
AreFree free lines = (k : ℕ) → k < length lines → list_any (has_number (k + 1)) lines ≡ false → contains nat_cmp free k ≡ true

-- Every number from 1 to this one is that of a line; the next one is free, where it is no more than the count of lines.
pub record IsLeastFree (lines : List AccountLine) (count : ℕ) : Type 0 where
  pub within : count ≤ length lines
  pub used : (k : ℕ) → k < count → list_any (has_number (k + 1)) lines ≡ true
  pub free : count < length lines → list_any (has_number (count + 1)) lines ≡ false

-- What leads to lines by their numbers, and to numbers that are free.
pub record IsByNumber (numbers : NumberPlaces) (free : BTreeSet ℕ) (lines : List AccountLine) : Type 0 where
  pub led : LeadByNumber numbers lines
  pub kept : AreFree free lines
