-- Sets of bytes, as they are kept while what goes is gathered.
use Rattle.std.specs.Prelude.{◌≡◌, ℕ, Bool, not, ◌||◌, cond, List, map, filter}
use Rattle.std.specs.BTreeSet.{BTreeSet}
use Rattle.std.specs.declared.alloc.Global.{Global}
use Rattle.std.specs.declared.vec.Vec.{Vec}
use Rattle.ips_after.specs.Lists.{listed}
use Rattle.ips_conflict.specs.Index.{has_path}
use Rattle.ips_metafiles.specs.Records.{license_path}
use Rattle.ips_state.specs.Records.{package_place}
use Rattle.ips_due.specs.Delivered.{Legacy, License, legacy_folder, license_folder}
use Rattle.ips_delivered.specs.declared.withdrawn.staying.Staying.{Staying}

-- A set of bytes.
abbrev pub ByteSet : Type 0
ByteSet = BTreeSet (Vec ℕ Global)

-- The set has just these.
abbrev pub HasJust : ByteSet → List (List ℕ) → Type 0
HasJust set members = (q : List ℕ) → has_path set q ≡ listed members q

-- The set has these besides what it had before.
abbrev pub HasMore : ByteSet → ByteSet → List (List ℕ) → Type 0
HasMore old new more = (q : List ℕ) → has_path new q ≡ (has_path old q || listed more q)

-- Where a license is recorded.
abbrev pub license_place : License → List ℕ
license_place l = license_path l.stem l.name

-- The license isn't among those that stay.
abbrev pub goes : Staying → License → Bool
goes staying l = not (has_path staying.places (license_place l))

-- What goes with a license: alone, where others of its stem stay, else with the folder of its stem.
abbrev pub gone_with : Staying → License → List ℕ
gone_with staying l = cond (has_path staying.stems l.stem) (license_place l) (license_folder l.stem)

-- What goes of these licenses.
abbrev pub gone_licenses : Staying → List License → List (List ℕ)
gone_licenses staying licenses = map (gone_with staying) (filter (goes staying) licenses)

-- What goes of these legacy packages, where those of these names stay.
abbrev pub gone_legacy : ByteSet → List Legacy → List (List ℕ)
gone_legacy staying legacy = map (λ (g : Legacy). legacy_folder g.pkg) (filter (λ (g : Legacy). not (has_path staying g.pkg)) legacy)

-- Where the records of packages with these stems stand, in the format that the flag tells, but for the stems that stay.
abbrev pub gone_packages : Bool → ByteSet → List (List ℕ) → List (List ℕ)
gone_packages first staying stems = map (package_place first) (filter (λ stem. not (has_path staying stem)) stems)
