-- What an image should hold.
use Rattle.std.specs.Prelude.{◌≡◌, ◌⊎◌, ℕ, Bool, true, ◌&&◌, ◌||◌, List, map, Some, None, codes}
use Rattle.std.specs.List.{All, Contains}
use Rattle.std.specs.List.Sorted.{IsStrictlySortedBy}
use Rattle.std.specs.Ordering.{nat_cmp}
use Rattle.std.specs.Cmp.Lexicographic.{slice_cmp}
use Rattle.ips_text.specs.Ancestry.{covers, is_below}
use Rattle.ips_action.specs.declared.kind.ActionKind.TheVariants as kind
use Rattle.ips_action.specs.Attrs.{values_of}
use Rattle.ips_action.specs.Action.{Fields, preserve_values}
use Rattle.ips_manifest.specs.declared.package.Package.{Package}
use Rattle.ips_filter.specs.Settings.{Set}
use Rattle.ips_mediate.specs.declared.set.SetMediator.{SetMediator}
use Rattle.ips_conflict.specs.declared.placed.Placed.{Placed}
use Rattle.ips_conflict.specs.Key.{value_of}
use Rattle.ips_conflict.specs.Alike.{mode_of, led_to}
use Rattle.ips_conflict.specs.Clash.{HasKey, Counts, Conflict, IsConflict, IsFirst, path_key, has_legacy, told}
use Rattle.ips_meaning.specs.declared.entry.Entry.{Entry}
use Rattle.ips_meaning.specs.declared.entry.Entry.TheVariants.{Dir, File, Link, Hard}
use Rattle.ips_meaning.specs.declared.fault.WantFault.{WantFault}
use Rattle.ips_meaning.specs.declared.fault.WantFault.TheVariants as fault
use Rattle.ips_meaning.specs.Taken.{Taken}
use Rattle.ips_meaning.specs.Reserved.{IsFreeOfReserved, IsLeastReserved}

-- The action means this entry: a directory, file or link with what its attributes say of it.
abbrev pub MeansEntry : Fields → Entry → Type 0
MeansEntry a (Dir mode) = (a.kind ≡ kind.Dir) × (mode ≡ Some (mode_of a))
MeansEntry a (File payload mode preserve) = (a.kind ≡ kind.File) × (a.payload ≡ Some payload) × (mode ≡ mode_of a) × (values_of (codes "preserve") a.attrs ≡ preserve_values preserve)
MeansEntry a (Link target) = (a.kind ≡ kind.Link) × (target ≡ value_of (codes "target") a)
MeansEntry a (Hard to) = (a.kind ≡ kind.Hardlink) × (led_to a ≡ Some to.bytes)

-- An action gives the path this entry. Of two files there it is the one that counts: that which takes the place of the other.
pub record GivesEntry (kept : List Placed) (path : List ℕ) (entry : Entry) : Type 0 where
  pub i : ℕ
  pub p : Placed
  pub at : HasKey kept (path_key path) i p
  pub counts : p.action.kind ≡ kind.File → Counts kept path i p
  pub means : MeansEntry p.action entry

-- Some action gives the path.
abbrev pub IsGiven : List Placed → List ℕ → Type 0
IsGiven kept path = (i : ℕ) × (p : Placed) × HasKey kept (path_key path) i p

-- The image needs the path as a directory for its own records: `var/pkg`, and `var/sadm/pkg` where a legacy package has an entry, with those above.
abbrev pub is_needed : List Placed → List ℕ → Bool
is_needed kept path = covers path (codes "var/pkg") || (has_legacy kept && covers path (codes "var/sadm/pkg"))

-- Something is given below the path.
abbrev pub IsAboveGiven : List Placed → List ℕ → Type 0
IsAboveGiven kept path = (below : List ℕ) × IsGiven kept below × (is_below path below ≡ true)

-- No action gives the path, and yet a directory has to be there: the image needs it, or something is given below it.
pub record IsImplicit (kept : List Placed) (path : List ℕ) : Type 0 where
  pub not_given : IsGiven kept path → ⊥
  pub needed : (is_needed kept path ≡ true) ⊎ IsAboveGiven kept path

-- The entry is wanted at the path: an action gives it, or it is an implicit directory, which may have any mode.
abbrev pub IsWanted : List Placed → List ℕ → Entry → Type 0
IsWanted kept path entry = GivesEntry kept path entry ⊎ (IsImplicit kept path × (entry ≡ Dir None))

-- The entries are just the wanted ones, in the order of their paths' bytes, each path once: each entry is wanted at its path, and each path at which one is wanted has one.
pub record IsWantOf (kept : List Placed) (entries : List (List ℕ × Entry)) : Type 0 where
  pub in_order : IsStrictlySortedBy (slice_cmp nat_cmp) (map (λ e. e.0) entries)
  pub each : All (λ e. IsWanted kept e.0 e.1) entries
  pub whole : (path : List ℕ) (entry : Entry) → IsWanted kept path entry → Contains (map (λ e. e.0) entries) path

-- Nothing clashes.
abbrev pub IsFreeOfClashes : List Placed → Type 0
IsFreeOfClashes kept = (c : Conflict) → IsConflict kept c → ⊥

-- The packages mean these entries: no admitted action gives a reserved path, no kept ones clash, and these are the wanted ones.
pub record PackagesMean (settings : Set) (mediators : List SetMediator) (packages : List Package) (entries : List (List ℕ × Entry)) : Type 0 where
  pub taken : Taken settings mediators packages
  pub no_reserved : IsFreeOfReserved taken.admitted
  pub no_clash : IsFreeOfClashes taken.kept
  pub want : IsWantOf taken.kept entries

-- The fault of what the packages say: the least reserved path, or, where none is given, the first clash as it is told.
abbrev pub IsFaultIn : List Placed → List Placed → WantFault → Type 0
IsFaultIn admitted kept (fault.Reserved path) = IsLeastReserved admitted path.bytes
IsFaultIn admitted kept (fault.Clash clash) = IsFreeOfReserved admitted × ((c : Conflict) × IsFirst kept c × (clash ≡ told kept c))

-- The packages mean no image, and this is their fault.
pub record PackagesFail (settings : Set) (mediators : List SetMediator) (packages : List Package) (fault : WantFault) : Type 0 where
  pub taken : Taken settings mediators packages
  pub fault_is : IsFaultIn taken.admitted taken.kept fault
