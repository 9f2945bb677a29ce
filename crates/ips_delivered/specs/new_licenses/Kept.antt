-- What is kept of licenses while those are looked for that are new.
use Rattle.std.specs.Prelude.{◌≡◌, ℕ, Bool, ◌||◌, ◌∷◌, ◌++◌, List, map}
use Rattle.std.specs.List.{list_any}
use Rattle.std.specs.BTreeSet.{BTreeSet}
use Rattle.std.specs.declared.alloc.Global.{Global}
use Rattle.std.specs.declared.vec.Vec.{Vec}
use denote.Ref.{Bor}
use Rattle.ips_text.specs.Quote.{quoted}
use Rattle.ips_action.specs.Attrs.{is_same}
use Rattle.ips_conflict.specs.Index.{has_path}
use Rattle.ips_conflict.specs.declared.placed.Placed.{Placed}
use Rattle.ips_due.specs.Delivered.{License}
use Rattle.ips_delivered.specs.new_licenses.New.{LicenseName, delivers_new, has_name}

-- A license by its stem, its name and its payload: the quoted forms of the names, and the payload, divided by `/`.
abbrev pub license_key : License → List ℕ
license_key l = quoted l.stem ++ 47 ∷ (quoted l.name ++ 47 ∷ l.payload)

-- Keys of licenses.
abbrev pub Keys : Type 0
Keys = BTreeSet (Vec ℕ Global)

-- The set has just the keys of these licenses.
abbrev pub HasKeys : Keys → List License → Type 0
HasKeys set licenses = (q : List ℕ) → has_path set q ≡ list_any (λ (l : License). is_same q (license_key l)) licenses

-- The names of licenses, lent.
abbrev pub LentNames : Type 0
LentNames = BTreeSet (Bor (List ℕ) × Bor (List ℕ))

-- A name that is lent.
abbrev pub told : Bor (List ℕ) × Bor (List ℕ) → LicenseName
told k = (k.0.now, k.1.now)

-- The set has the license of this name.
abbrev pub holds : LentNames → LicenseName → Bool
holds set one = has_name (map told set.keys) one

-- The set has besides what it had before just those licenses that these actions newly deliver, and that are marked there.
abbrev pub HasNew : List License → List ℕ → List Placed → LentNames → LentNames → Type 0
HasNew was key is old new = (one : LicenseName) → holds new one ≡ (holds old one || list_any (delivers_new was key one) is)
