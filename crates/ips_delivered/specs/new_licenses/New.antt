-- Which licenses a request newly delivers.
use Rattle.std.specs.Prelude.{◌≡◌, ℕ, Bool, not, ◌&&◌, ◌∷◌, ◌++◌, List, map, codes}
use Rattle.std.specs.List.{list_any}
use Rattle.std.specs.List.Sorted.{IsStrictlySortedBy}
use Rattle.std.specs.declared.cmp.Ordering.{Ordering}
use Rattle.std.specs.Ordering.{nat_cmp, ordering_then}
use Rattle.std.specs.Cmp.Lexicographic.{slice_cmp}
use Rattle.ips_text.specs.Ancestry.{same_path}
use Rattle.ips_action.specs.Attrs.{is_same}
use Rattle.ips_manifest.specs.declared.package.Package.{Package}
use Rattle.ips_filter.specs.Settings.{Set}
use Rattle.ips_conflict.specs.declared.placed.Placed.{Placed}
use Rattle.ips_conflict.specs.Key.{value_of}
use Rattle.ips_meaning.specs.Taken.{AreAdmitted}
use Rattle.ips_due.specs.Delivered.{License}
use Rattle.ips_delivered.specs.delivered.Delivering.{is_license, license_of, licenses_of}

-- A license by the stem of its package and its name.
abbrev pub LicenseName : Type 0
LicenseName = List ℕ × List ℕ

-- Licenses stand in the order of stems, and of one stem in that of names, both by bytes.
abbrev pub license_cmp : LicenseName → LicenseName → Ordering
license_cmp a b = ordering_then (slice_cmp nat_cmp a.0 b.0) (slice_cmp nat_cmp a.1 b.1)

-- A license as it is shown: its stem, a blank, and its name.
abbrev pub shown_license : LicenseName → List ℕ
shown_license n = n.0 ++ 32 ∷ n.1

-- One of the licenses has this name.
abbrev pub has_name : List LicenseName → LicenseName → Bool
has_name names one = list_any (λ (n : LicenseName). same_path n.0 one.0 && same_path n.1 one.1) names

-- One of the licenses is of this stem and name, and has this payload.
abbrev pub was_delivered : List License → License → Bool
was_delivered was one = list_any (λ (l : License). same_path l.stem one.stem && (same_path l.name one.name && same_path l.payload one.payload)) was

-- The action is marked: its attribute of this key is true.
abbrev pub is_marked : List ℕ → Placed → Bool
is_marked key p = is_same (value_of key p.action) (codes "true")

-- The action delivers the license of this name, is marked, and these licenses have none of its name and payload.
abbrev pub delivers_new : List License → List ℕ → LicenseName → Placed → Bool
delivers_new was key one p =
    is_license p.action.kind && (is_marked key p && (not (was_delivered was (license_of p)) && (same_path p.stem one.0 && same_path (license_of p).name one.1)))

-- The texts are those of just the licenses that one of the new actions newly delivers and that are marked there, in order, each once.
pub record AreNew (was is : List Placed) (key : List ℕ) (texts : List (List ℕ)) : Type 0 where
  pub names : List LicenseName
  pub order : IsStrictlySortedBy license_cmp names
  pub each : (one : LicenseName) → has_name names one ≡ list_any (delivers_new (licenses_of was) key one) is
  pub written : texts ≡ map shown_license names

-- By the settings of both, the new packages newly deliver these licenses: some are to be shown, and some must be accepted.
pub record AreNewlyDelivered (old_settings : Set) (old : List Package) (new_settings : Set) (new : List Package) (shown asked : List (List ℕ)) : Type 0 where
  pub was : List Placed
  pub were_admitted : AreAdmitted old_settings old was
  pub is : List Placed
  pub are_admitted : AreAdmitted new_settings new is
  pub display : AreNew was is (codes "must-display") shown
  pub accept : AreNew was is (codes "must-accept") asked
