-- The grammar of a catalog, over the JSON value that its text has.
use Rattle.std.specs.Prelude.{◌≡◌, ℕ, false, List, [], ◌∷◌, Option, Some, None, codes}
use Rattle.std.specs.List.Sorted.{IsStrictlySortedBy, IsPermutation}
use Rattle.std.specs.Str.{IsUtf8}
use Rattle.serde_json.specs.Data.{Data, null, boolean, number, string, array, object, Items, no_items, item, Members, no_members, member}
use Rattle.serde_json.specs.Read.{read}
use Rattle.serde_json.specs.Find.{get_member}
use Rattle.ips_fmri.specs.Version.{Parts, IsVersion, version_text}
use Rattle.ips_fmri.specs.Name.{IsStem}
use Rattle.ips_fmri.specs.Order.{version_cmp}
use Rattle.ips_catalog.specs.Listed.{Listed}

-- an entry is an object whose `version` is the text of the version
abbrev pub IsEntry : Data → Parts → Type 0
IsEntry (object members) version = IsVersion version × (get_member (codes "version") members ≡ Some (string (version_text version)))
IsEntry null version = ⊥
IsEntry (boolean b) version = ⊥
IsEntry (number n) version = ⊥
IsEntry (string s) version = ⊥
IsEntry (array entries) version = ⊥

-- the entries are those of the versions, one by one
abbrev pub AreEntries : Items → List Parts → Type 0
AreEntries no_items [] = Unit {0}
AreEntries no_items (version ∷ versions) = ⊥
AreEntries (item entry entries) [] = ⊥
AreEntries (item entry entries) (version ∷ versions) = IsEntry entry version × AreEntries entries versions

-- the value is an array of entries with just these versions, each of them once, which are listed ascending
abbrev pub HasVersions : Data → List Parts → Type 0
HasVersions (array entries) versions = IsStrictlySortedBy version_cmp versions × ((written : List Parts) × IsPermutation written versions × AreEntries entries written)
HasVersions null versions = ⊥
HasVersions (boolean b) versions = ⊥
HasVersions (number n) versions = ⊥
HasVersions (string s) versions = ⊥
HasVersions (object entries) versions = ⊥

-- the object's keys are the stems of the packages, one by one, and at each stand its versions
abbrev pub HasPackages : Members → List Listed → Type 0
HasPackages no_members [] = Unit {0}
HasPackages no_members (listed ∷ packages) = ⊥
HasPackages (member key value others) [] = ⊥
HasPackages (member key value others) (listed ∷ packages) =
    (key ≡ listed.stem) × IsStem false key × HasVersions value listed.versions × HasPackages others packages

-- at the publisher's key stands an object with the packages, or nothing, where there are none
abbrev pub IsPublished : Option Data → List Listed → Type 0
IsPublished None catalog = catalog ≡ []
IsPublished (Some (object packages)) catalog = HasPackages packages catalog
IsPublished (Some null) catalog = ⊥
IsPublished (Some (boolean b)) catalog = ⊥
IsPublished (Some (number n)) catalog = ⊥
IsPublished (Some (string s)) catalog = ⊥
IsPublished (Some (array entries)) catalog = ⊥

-- the JSON value is an object that holds the catalog of the publisher
abbrev pub HoldsCatalog : List ℕ → Data → List Listed → Type 0
HoldsCatalog publisher (object members) catalog = IsPublished (get_member publisher members) catalog
HoldsCatalog publisher null catalog = ⊥
HoldsCatalog publisher (boolean b) catalog = ⊥
HoldsCatalog publisher (number n) catalog = ⊥
HoldsCatalog publisher (string s) catalog = ⊥
HoldsCatalog publisher (array entries) catalog = ⊥

-- the bytes are a JSON text with this value
pub record IsJson (bytes : List ℕ) (value : Data) : Type 0 where
  pub utf8 : IsUtf8 bytes
  pub read : read bytes ≡ Some value

-- the bytes are a text of the catalog of the publisher
abbrev pub IsCatalogText : List ℕ → List ℕ → List Listed → Type 0
IsCatalogText publisher bytes catalog = (value : Data) × IsJson bytes value × HoldsCatalog publisher value catalog
