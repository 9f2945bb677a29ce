-- What is kept of a JSON text while a catalog is read from it: the packages of the publisher, and of each entry the text of its version.
use Rattle.std.specs.Prelude.{◌≡◌, ◌≢◌, ℕ, List, [], ◌∷◌, length, map, Option, Some, None, Result, codes, option_map, option_and_then}
use Rattle.std.specs.declared.alloc.Global.{Global}
use Rattle.std.specs.Prelude.{Vec}
use Rattle.std.specs.Borrow.{Bor}
use Rattle.std.specs.BTreeMap.{BTreeMap}
use Rattle.json.specs.Token as tokens
use Rattle.json.specs.Json as json
use Rattle.json.specs.declared.token.Token.{Token}
use Rattle.json.specs.declared.token.Token.TheVariants.{BeginObject, BeginArray, String}
use Rattle.serde_json.specs.Data.{Data, null, string, array, object, Items, no_items, item, Members, no_members, member}
use Rattle.serde_json.specs.Find.{get_member, as_object, as_array, as_str}
use Rattle.serde_json.specs.Read.{of_json, of_items, of_members, converted}
use Rattle.ips_text.specs.Reading.{◌>>=◌}
use Rattle.ips_catalog.specs.declared.fault.CatalogFault.{CatalogFault}
use Rattle.ips_catalog.specs.Listed.{Listed}
use Rattle.ips_catalog.specs.Reading.{shaped, published_at}

-- ---- the next value of a text

-- the value that the tokens begin with, nested at most so deep, and the tokens behind it
abbrev pub value_at : ℕ → List tokens.Token → Option (Data × List tokens.Token)
value_at depth ts = converted of_json (json.value depth ts)

-- the items up to the bracket that closes their array, and the tokens behind it
abbrev pub items_at : ℕ → List tokens.Token → Option (Items × List tokens.Token)
items_at depth ts = converted of_items (json.items (json.value depth) (length ts) ts)

-- the members up to the brace that closes their object, and the tokens behind it
abbrev pub members_at : ℕ → List tokens.Token → Option (Members × List tokens.Token)
members_at depth ts = converted (λ ms. of_members ms no_members) (json.members (json.value depth) (length ts) ts)

-- of the kinds that a catalog asks for, a value that begins with the token has just the token's
pub record HasKind (t : Token) (d : Data) : Type 0 where
  pub object : t ≢ BeginObject → as_object d ≡ None
  pub array : t ≢ BeginArray → as_array d ≡ None
  pub text : ((s : Bor (List ℕ)) → t ≢ String s) → as_str d ≡ None

-- ---- what is kept

-- what is kept of an entry: nothing where it is no object, else its version, where that is a text
abbrev pub Entry : Type 0
Entry = Option (Option (List ℕ))

-- what is kept of what stands at a stem: its entries, where it is an array
abbrev pub Package : Type 0
Package = Option (List Entry)

-- what is kept of what stands at the publisher's key: the packages by their keys, where it is an object
abbrev pub Published : Type 0
Published = Option (List (List ℕ × Package))

-- what is kept of an entry's value
abbrev pub entry_of : Data → Entry
entry_of value = option_map (λ members. option_and_then as_str (get_member (codes "version") members)) (as_object value)

-- what is kept of entries
abbrev pub entries_of : Items → List Entry
entries_of no_items = []
entries_of (item value entries) = entry_of value ∷ entries_of entries

-- what is kept of a package's value
abbrev pub package_of : Data → Package
package_of value = option_map entries_of (as_array value)

-- what is kept of packages
abbrev pub packages_of : Members → List (List ℕ × Package)
packages_of no_members = []
packages_of (member key value members) = (key, package_of value) ∷ packages_of members

-- what is kept of the value at the publisher's key
abbrev pub published_of : Data → Published
published_of value = option_map packages_of (as_object value)

-- what is kept of a text's value: nothing where it is no object, else what stands at the publisher's key, where something does
abbrev pub outline_of : List ℕ → Data → Option (Option Published)
outline_of publisher value = option_map (λ members. option_map published_of (get_member publisher members)) (as_object value)

-- ---- the same in memory

-- a package, without where it lies in memory
abbrev pub package_kept : Option (Vec Entry Global) → Package
package_kept kept = option_map (λ entries. entries.items) kept

-- packages, without where they lie in memory
abbrev pub packages_kept : List (List ℕ × Option (Vec Entry Global)) → List (List ℕ × Package)
packages_kept packages = map (λ kept. (kept.0, package_kept kept.1)) packages

-- what stands at the publisher's key, without where it lies in memory
abbrev pub published_kept : Option (BTreeMap (List ℕ) (Option (Vec Entry Global))) → Published
published_kept published = option_map (λ packages. packages_kept packages.entries) published

-- what is kept of a text, without where it lies in memory
abbrev pub outline_kept : Option (Option (Option (BTreeMap (List ℕ) (Option (Vec Entry Global))))) → Option (Option Published)
outline_kept outline = option_map (option_map published_kept) outline

-- ---- a value of which the same is kept

-- a value of an entry
abbrev pub entry_data : Entry → Data
entry_data None = null
entry_data (Some None) = object no_members
entry_data (Some (Some text)) = object (member (codes "version") (string text) no_members)

-- values of entries
abbrev pub entries_data : List Entry → Items
entries_data [] = no_items
entries_data (entry ∷ entries) = item (entry_data entry) (entries_data entries)

-- a value of a package
abbrev pub package_data : Package → Data
package_data None = null
package_data (Some entries) = array (entries_data entries)

-- values of packages
abbrev pub packages_data : List (List ℕ × Package) → Members
packages_data [] = no_members
packages_data (kept ∷ packages) = member kept.0 (package_data kept.1) (packages_data packages)

-- a value for the publisher's key
abbrev pub published_data : Published → Data
published_data None = null
published_data (Some packages) = object (packages_data packages)

-- the catalog of a text of which this is kept
abbrev pub outlined_at : List ℕ → Option (Option Published) → Result (List Listed) CatalogFault
outlined_at publisher outline = do
  found ← shaped [] outline
  published_at publisher (option_map published_data found)
