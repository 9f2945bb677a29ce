-- What is said of a repository after publications, finished or not: each stands in the catalog with its manifest and its payloads, or not at all.
use Rattle.std.specs.Prelude.{◌≡◌, ℕ, Bool, true, false, cond, IsTrue, IsFalse, List, [], ◌∷◌, ◌++◌, map, Option, Some, None, Ok, codes}
use Rattle.std.specs.List.{flat_map, Contains}
use Rattle.std.specs.Option.{option_to_list}
use Rattle.ips_outside.specs.Image.{Image}
use Rattle.ips_steps.specs.Private.{is_private}
use Rattle.ips_digest.specs.declared.name.PayloadName.{PayloadName}
use Rattle.ips_fmri.specs.Name.{IsPublisher, IsStem}
use Rattle.ips_fmri.specs.Version.{Parts, IsVersion}
use Rattle.ips_action.specs.declared.kind.ActionKind.{ActionKind}
use Rattle.ips_action.specs.declared.kind.ActionKind.TheVariants as kind
use Rattle.ips_action.specs.Action.{Fields}
use Rattle.ips_manifest.specs.Manifest.{IsManifestOf}
use Rattle.ips_manifest.specs.declared.line.Line.{Line}
use Rattle.ips_catalog.specs.Listed.{Listed, versions_of}
use Rattle.ips_files.specs.Files.{file_at}
use Rattle.ips_repo.specs.Places.{mark_place, catalog_place, manifest_place, payload_place}
use Rattle.ips_repo.specs.Mark.{is_repository}
use Rattle.ips_repo.specs.Opening.{opening}
use Rattle.ips_repo.specs.Payload.{HasIntact}

-- An attempt at a publication: the version of a stem, what its package consists of, and whether it was answered that it is published.
pub record Attempt : Type 0 where
  pub publisher : List ℕ
  pub is_publisher : IsPublisher publisher
  pub stem : List ℕ
  pub is_stem : IsStem false stem
  pub version : Parts
  pub is_version : IsVersion version
  pub actions : List Fields
  pub answered : Bool

-- the action has a content: it is a file or a license
abbrev pub has_content : ActionKind → Bool
has_content kind.Set = false
has_content kind.Depend = false
has_content kind.Dir = false
has_content kind.File = true
has_content kind.Link = false
has_content kind.Hardlink = false
has_content kind.User = false
has_content kind.Group = false
has_content kind.Driver = false
has_content kind.License = true
has_content kind.Legacy = false
has_content kind.Signature = false

-- the name of an action's content, where it has one
abbrev pub content_of : Fields → List PayloadName
content_of action = cond (has_content action.kind) (option_to_list action.payload) []

-- the catalog of the publisher lists the version
abbrev pub IsInCatalog : Image → Attempt → Type 0
IsInCatalog t x = (catalog : List Listed) × (opening x.publisher t ≡ Ok catalog) × Contains (versions_of catalog x.stem) x.version

-- The package stands whole: it is listed, its manifest stands at its place and has just its actions, and each of its contents is intact.
pub record IsWhole (t : Image) (x : Attempt) : Type 0 where
  pub listed : IsInCatalog t x
  pub text : List ℕ
  pub stands : file_at t (manifest_place x.publisher x.stem x.version) ≡ Some text
  pub lines : List Line
  pub means : IsManifestOf text lines
  pub has : map (λ (line : Line). line.action) lines ≡ x.actions
  pub intact : (name : PayloadName) → Contains (flat_map content_of x.actions) name → HasIntact x.publisher t name

-- two attempts are at one version of one stem
pub record IsAtSame (x y : Attempt) : Type 0 where
  pub publisher : y.publisher ≡ x.publisher
  pub stem : y.stem ≡ x.stem
  pub version : y.version ≡ x.version

-- The mark stands wherever something was attempted. Of these attempts each is not listed, or one at the same version stands whole; and itself, where
-- it was answered.
pub record AreWholeOrOut (xs : List Attempt) (t : Image) : Type 0 where
  pub mark : (x : Attempt) → Contains xs x → IsTrue (is_repository t)
  pub each : (x : Attempt) → Contains xs x → IsInCatalog t x → (y : Attempt) × Contains xs y × IsAtSame x y × IsWhole t y
  pub answered : (x : Attempt) → Contains xs x → IsTrue x.answered → IsWhole t x

-- What is written before the journal: contents, and directories, at free paths. None of them is the place of the mark, of a catalog, of a manifest that
-- stands, or of a payload that is intact; and none is an own name of the updater.
pub record IsBeside (t : Image) (free : List ℕ → Bool) : Type 0 where
  pub mark : IsFalse (free mark_place)
  pub catalogs : (publisher : List ℕ) → IsPublisher publisher → IsFalse (free (catalog_place publisher))
  pub manifests : (publisher stem : List ℕ) (version : Parts) (text : List ℕ) → IsPublisher publisher → file_at t (manifest_place publisher stem version) ≡ Some text → IsFalse (free (manifest_place publisher stem version))
  pub payloads : (publisher : List ℕ) (name : PayloadName) → IsPublisher publisher → HasIntact publisher t name → IsFalse (free (payload_place publisher name))
  pub own : (q : List ℕ) → IsTrue (is_private q) → IsFalse (free q)
