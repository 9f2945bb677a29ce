-- What the packages of an image deliver besides what is wanted, by their admitted actions and the account files.
use Rattle.std.specs.Prelude.{◌≡◌, ℕ, Bool, true, false, ◌&&◌, cond, List, [], ◌∷◌, map, filter, Option, Some, None, is_some, unwrap_or, option_map, IsTrue, Result, Ok, Err, codes}
use Rattle.std.specs.List.{All, Contains, find}
use Rattle.std.specs.List.Sorted.{IsStrictlySortedBy}
use Rattle.std.specs.Option.{option_or}
use Rattle.std.specs.Ordering.{nat_cmp, is_gt}
use Rattle.std.specs.Cmp.Lexicographic.{slice_cmp}
use Rattle.ips_action.specs.declared.kind.ActionKind.{ActionKind}
use Rattle.ips_action.specs.declared.kind.ActionKind.TheVariants as kind
use Rattle.ips_action.specs.Attrs.{is_same}
use Rattle.ips_action.specs.Action.{payload_word}
use Rattle.ips_manifest.specs.declared.package.Package.{Package}
use Rattle.ips_filter.specs.Settings.{Set}
use Rattle.ips_conflict.specs.declared.placed.Placed.{Placed}
use Rattle.ips_conflict.specs.Key.{value_of, is_legacy}
use Rattle.ips_conflict.specs.Alike.{has_mode, takes_place}
use Rattle.ips_meaning.specs.Taken.{AreAdmitted}
use Rattle.ips_books.specs.declared.fault.Unknown.{Unknown}
use Rattle.ips_books.specs.declared.fault.Unknown.TheVariants as unknown
use Rattle.ips_books.specs.Accounts.{Accounts, resolved}
use Rattle.ips_metafiles.specs.declared.owner.OwnerRow.{OwnerRow}
use Rattle.ips_metafiles.specs.Records.{IsDrivers, info_text, owners_text}
use Rattle.ips_due.specs.Due.{Content}
use Rattle.ips_due.specs.Delivered.{CanBeNamed, Delivered, Legacy, License, delivered_records}

-- ---- owners

-- The owner that an action names.
abbrev pub owner_name : Placed → List ℕ
owner_name p = value_of (codes "owner") p.action

-- The group that an action names.
abbrev pub group_name : Placed → List ℕ
group_name p = value_of (codes "group") p.action

-- The path at which an action names an owner.
abbrev pub owned_path : Placed → List ℕ
owned_path p = value_of (codes "path") p.action

-- The action is a directory or a file at this path, and so names its owner.
abbrev pub owns : List ℕ → Placed → Bool
owns path p = has_mode p.action && is_same path (owned_path p)

-- It does, and takes the place of others there.
abbrev pub owns_first : List ℕ → Placed → Bool
owns_first path p = owns path p && takes_place p.action

-- The action that tells the owner of a path: of those there the one that takes the place of others, else the first.
abbrev pub owning : List Placed → List ℕ → Option Placed
owning admitted path = option_or (find (owns_first path) admitted) (find (owns path) admitted)

-- The row tells the owner of its path: the names that the action there gives, with their numbers.
pub record IsOwnerRow (books : Accounts) (admitted : List Placed) (row : OwnerRow) : Type 0 where
  pub action : Placed
  pub owning : owning admitted row.path.bytes ≡ Some action
  pub owner : row.owner ≡ owner_name action
  pub group : row.group ≡ group_name action
  pub numbers : resolved books row.owner row.group ≡ Ok (row.uid, row.gid)

-- The rows tell the owners of all paths of directories and files, each path once, by the bytes of the paths.
pub record AreOwnerRows (books : Accounts) (admitted : List Placed) (rows : List OwnerRow) : Type 0 where
  pub in_order : IsStrictlySortedBy (slice_cmp nat_cmp) (map (λ r. r.path.bytes) rows)
  pub each : All (IsOwnerRow books admitted) rows
  pub whole : (path : List ℕ) → IsTrue (is_some (owning admitted path)) → Contains (map (λ r. r.path.bytes) rows) path

-- ---- unknown owners

-- The name that isn't known, where one of both isn't: the owner's, else the group's.
abbrev pub missing_name : Result (ℕ × ℕ) Unknown → Placed → Option (List ℕ)
missing_name (Ok numbers) p = None
missing_name (Err unknown.Owner) p = Some (owner_name p)
missing_name (Err unknown.Group) p = Some (group_name p)

-- The path of a directory or file, with the unknown name of its owner or group, where one is unknown.
abbrev pub unknown_of : Accounts → Placed → Option (List ℕ × List ℕ)
unknown_of books p = cond (has_mode p.action) (option_map (λ (name : List ℕ). (owned_path p, name)) (missing_name (resolved books (owner_name p) (group_name p)) p)) None

-- Of two paths with their unknown names the one with the lesser path; where both have one path the first.
abbrev pub lesser_unknown : Option (List ℕ × List ℕ) → Option (List ℕ × List ℕ) → Option (List ℕ × List ℕ)
lesser_unknown found None = found
lesser_unknown None (Some other) = Some other
lesser_unknown (Some found) (Some other) = cond (is_gt (slice_cmp nat_cmp found.0 other.0)) (Some other) (Some found)

-- The unknown name at the least path, of these actions and of what was found before them.
abbrev pub least_unknown : Accounts → Option (List ℕ × List ℕ) → List Placed → Option (List ℕ × List ℕ)
least_unknown books found [] = found
least_unknown books found (p ∷ later) = least_unknown books (lesser_unknown found (unknown_of books p)) later

-- The unknown owner that is told: that of the least path, there of the first action that names one.
abbrev pub first_unknown : Accounts → List Placed → Option (List ℕ × List ℕ)
first_unknown books admitted = least_unknown books None admitted

-- ---- licenses and legacy packages

-- The kind is that of a license.
abbrev pub is_license : ActionKind → Bool
is_license kind.Set = false
is_license kind.Depend = false
is_license kind.Dir = false
is_license kind.File = false
is_license kind.Link = false
is_license kind.Hardlink = false
is_license kind.User = false
is_license kind.Group = false
is_license kind.Driver = false
is_license kind.License = true
is_license kind.Legacy = false
is_license kind.Signature = false

-- The license that an action delivers.
abbrev pub license_of : Placed → License
license_of p = record { stem = p.stem; name = value_of (codes "license") p.action; payload = unwrap_or (payload_word p.action.payload) [] }

-- The licenses of these actions, in their order.
abbrev pub licenses_of : List Placed → List License
licenses_of admitted = map license_of (filter (λ (p : Placed). is_license p.action.kind) admitted)

-- The legacy package that an action delivers.
abbrev pub legacy_of : Placed → Legacy
legacy_of p = record { pkg = value_of (codes "pkg") p.action; text = info_text p.action }

-- The legacy packages of these actions, in their order.
abbrev pub legacies_of : List Placed → List Legacy
legacies_of admitted = map legacy_of (filter (λ (p : Placed). is_legacy p.action.kind) admitted)

-- ---- all together

-- What the actions deliver, with these rows of owners and this text of the drivers.
abbrev pub delivered_with : List OwnerRow → List ℕ → List Placed → Delivered
delivered_with rows drivers admitted = record { owners = owners_text rows; drivers = drivers; licenses = licenses_of admitted; legacy = legacies_of admitted }

-- These are the records of what the actions deliver, with these rows of owners; its names can be names of files.
pub record AreDelivered (admitted : List Placed) (rows : List OwnerRow) (records : List (List ℕ × Content)) : Type 0 where
  pub drivers : List ℕ
  pub are_drivers : IsDrivers (map (λ p. p.action) admitted) drivers
  pub named : CanBeNamed (delivered_with rows drivers admitted)
  pub records_are : records ≡ delivered_records (delivered_with rows drivers admitted)

-- The packages deliver this where these are the settings and the account files: all owners and groups of admitted directories and files are known.
pub record PackagesDeliver (books : Accounts) (settings : Set) (packages : List Package) (d : Delivered) : Type 0 where
  pub admitted : List Placed
  pub are_admitted : AreAdmitted settings packages admitted
  pub known : first_unknown books admitted ≡ None
  pub rows : List OwnerRow
  pub are_rows : AreOwnerRows books admitted rows
  pub drivers : List ℕ
  pub are_drivers : IsDrivers (map (λ p. p.action) admitted) drivers
  pub is : d ≡ delivered_with rows drivers admitted

-- Some owner or group of the packages is unknown: this name, of this path, is told.
pub record HasUnknownOwner (books : Accounts) (settings : Set) (packages : List Package) (path name : List ℕ) : Type 0 where
  pub admitted : List Placed
  pub are_admitted : AreAdmitted settings packages admitted
  pub unknown : first_unknown books admitted ≡ Some (path, name)
