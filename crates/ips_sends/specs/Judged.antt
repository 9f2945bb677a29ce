-- How a publication is judged, before anything is written: one relation, each refusal behind those that come before it.
use Rattle.std.specs.Prelude.{◌≡◌, ◌≢◌, ℕ, ◌<◌, ◌≤◌, IsTrue, List, ◌∷◌, ◌++◌, length, take, map, Some, None, Ok, Err, codes}
use Rattle.std.specs.List.{AllByRecursion, Contains, flat_map}
use Rattle.ips_text.specs.declared.limits.Which.{Which}
use Rattle.ips_text.specs.declared.limits.Which.TheVariants as which
use Rattle.ips_text.specs.Quote.{quoted}
use Rattle.ips_outside.specs.Image.{Image}
use Rattle.ips_digest.specs.Name.{spelling}
use Rattle.ips_digest.specs.declared.name.PayloadName.{PayloadName}
use Rattle.ips_fmri.specs.Version.{Parts}
use Rattle.ips_action.specs.Action.{Fields}
use Rattle.ips_manifest.specs.declared.fault.ManifestFault.{ManifestFault}
use Rattle.ips_catalog.specs.Listed.{Listed, versions_of, count_of}
use Rattle.ips_files.specs.Files.{file_at}
use Rattle.ips_steps.specs.Private.{records_name}
use Rattle.ips_repo.specs.Places.{publisher_place}
use Rattle.ips_repo.specs.Manifest.{manifest_limit}
use Rattle.ips_repo.specs.Payload.{payload_limit}
use Rattle.ips_repo.specs.Opening.{opening, catalog_limit, stem_limit, version_limit}
use Rattle.ips_repo.specs.declared.fault.RepoFault.{RepoFault}
use Rattle.ips_ways.specs.Ways.{IsFirstInTheWay, IsFree}
use Rattle.ips_listing.specs.Text.{with_version}
use Rattle.ips_sends.specs.Whole.{has_content, content_of}
use Rattle.ips_manifest.specs.Draft.{IsDraftOf, IsDraftFaultOf}
use Rattle.ips_manifest.specs.declared.draft.Draft.{Draft}
use Rattle.ips_sends.specs.Published.{content_text, AreFilled, IsPublication}

-- What the words ask to be published: the version of a stem, and where its manifest stands in the proto folder.
pub record Asked : Type 0 where
  pub publisher : List ℕ
  pub stem : List ℕ
  pub version : Parts
  pub path : List ℕ

-- why it isn't published
pub data Refusal : Type 0 where
  Unopened : RepoFault → Refusal
  ManifestMissing : Refusal
  BadManifest : ManifestFault → Refusal
  ContentMissing : List ℕ → Refusal
  Exists : Refusal
  Blocked : List ℕ → Refusal
  TooLarge : Which → ℕ → Refusal

-- what is put: the actions of the package, the text of its manifest, and that of the catalog
pub record Put : Type 0 where
  pub actions : List Fields
  pub manifest : List ℕ
  pub catalog : List ℕ

-- it is refused, or it can be published so
pub data Verdict : Type 0 where
  Refused : Refusal → Verdict
  Publish : Put → Verdict

-- the draft has a content, and no file stands where its text names one
abbrev pub LacksContent : Image → Draft → Type 0
LacksContent proto d = IsTrue (has_content d.line.action.kind) × (file_at proto (content_text d) ≡ None)

-- of a draft with a content the file stands
abbrev pub HasSource : Image → Draft → Type 0
HasSource proto d = IsTrue (has_content d.line.action.kind) → file_at proto (content_text d) ≢ None

-- the first draft without its content, whose text this is
abbrev pub IsFirstMissing : Image → List Draft → List ℕ → Type 0
IsFirstMissing proto drafts text = (front : List Draft) × (d : Draft) × (behind : List Draft) × (drafts ≡ front ++ d ∷ behind) × AllByRecursion (HasSource proto) front × LacksContent proto d × (text ≡ content_text d)

-- the draft's content has so many bytes, too many for a payload
abbrev pub IsOver : Image → Draft → ℕ → Type 0
IsOver proto d count = IsTrue (has_content d.line.action.kind) × ((bytes : List ℕ) × (file_at proto (content_text d) ≡ Some bytes) × (count ≡ length bytes) × (payload_limit < count))

-- the draft's content isn't too large
abbrev pub Fits : Image → Draft → Type 0
Fits proto d = (count : ℕ) → IsOver proto d count → ⊥

-- the first content that is too large
abbrev pub IsFirstOver : Image → List Draft → ℕ → Type 0
IsFirstOver proto drafts count = (front : List Draft) × (d : Draft) × (behind : List Draft) × (drafts ≡ front ++ d ∷ behind) × AllByRecursion (Fits proto) front × IsOver proto d count

-- ---- directories on the way

-- the directory of a payload
abbrev pub payload_dir : List ℕ → PayloadName → List ℕ
payload_dir publisher name = publisher_place publisher ++ codes "/file/" ++ take 2 (spelling name)

-- the directories on the way to what is written
abbrev pub ways : List ℕ → List ℕ → List PayloadName → List (List ℕ)
ways publisher stem names =
    codes "var" ∷ records_name ∷ codes "publisher" ∷ publisher_place publisher ∷ (publisher_place publisher ++ codes "/catalog") ∷ (publisher_place publisher ++ codes "/pkg")
    ∷ (publisher_place publisher ++ codes "/pkg/" ++ quoted stem) ∷ (publisher_place publisher ++ codes "/file") ∷ map (payload_dir publisher) names

-- ---- limits of what is written

-- the first limit that what is put would pass: of the catalog its bytes, its stems, its versions, and of the manifest its bytes
abbrev pub IsOverPut : List Listed → Put → Which → ℕ → Type 0
IsOverPut catalog put which.CatalogBytes count = (count ≡ length put.catalog) × (catalog_limit < count)
IsOverPut catalog put which.Stems count = (length put.catalog ≤ catalog_limit) × (count ≡ length catalog) × (stem_limit < count)
IsOverPut catalog put which.Versions count = (length put.catalog ≤ catalog_limit) × (length catalog ≤ stem_limit) × (count ≡ count_of catalog) × (version_limit < count)
IsOverPut catalog put which.ManifestBytes count = (length put.catalog ≤ catalog_limit) × (length catalog ≤ stem_limit) × (count_of catalog ≤ version_limit) × (count ≡ length put.manifest) × (manifest_limit < count)
IsOverPut catalog put which.AllManifests count = ⊥
IsOverPut catalog put which.PayloadBytes count = ⊥
IsOverPut catalog put which.ImageFileBytes count = ⊥
IsOverPut catalog put which.AccountBytes count = ⊥
IsOverPut catalog put which.Steps count = ⊥
IsOverPut catalog put which.Names count = ⊥

-- ---- judging

-- The catalog is opened, and the manifest is a file that isn't too large.
pub record HasManifest (proto t : Image) (a : Asked) : Type 0 where
  pub catalog : List Listed
  pub opened : opening a.publisher t ≡ Ok catalog
  pub bytes : List ℕ
  pub stands : file_at proto a.path ≡ Some bytes
  pub within : length bytes ≤ manifest_limit

-- It reads as these drafts, each of whose contents is a file, and the version isn't listed.
pub record IsNew (proto t : Image) (a : Asked) : Type 0 where
  pub has : HasManifest proto t a
  pub drafts : List Draft
  pub are : IsDraftOf has.bytes drafts
  pub sources : AllByRecursion (HasSource proto) drafts
  pub new : Contains (versions_of has.catalog a.stem) a.version → ⊥

-- No content is too large, nothing is in the way, and this would be put.
pub record CanPut (proto t : Image) (a : Asked) (put : Put) : Type 0 where
  pub new : IsNew proto t a
  pub fit : AllByRecursion (Fits proto) new.drafts
  pub is : IsPublication proto a.publisher a.stem a.version new.drafts new.has.catalog put.actions put.manifest put.catalog
  pub free : IsFree t (ways a.publisher a.stem (flat_map content_of put.actions))

-- Each verdict under its cause, behind those that come before it.
pub data Judges (proto t : Image) (a : Asked) : Verdict → Type 0 where
  IsUnopened : (why : RepoFault) → opening a.publisher t ≡ Err why → Judges proto t a (Refused (Unopened why))
  HasNoManifest : (catalog : List Listed) → opening a.publisher t ≡ Ok catalog → file_at proto a.path ≡ None → Judges proto t a (Refused ManifestMissing)
  HasLargeManifest : (catalog : List Listed) (bytes : List ℕ) → opening a.publisher t ≡ Ok catalog → file_at proto a.path ≡ Some bytes → manifest_limit < length bytes
      → Judges proto t a (Refused (TooLarge which.ManifestBytes (length bytes)))
  HasBadManifest : (has : HasManifest proto t a) (f : ManifestFault) → IsDraftFaultOf has.bytes f → Judges proto t a (Refused (BadManifest f))
  LacksSource : (has : HasManifest proto t a) (drafts : List Draft) (text : List ℕ) → IsDraftOf has.bytes drafts → IsFirstMissing proto drafts text → Judges proto t a (Refused (ContentMissing text))
  IsListedYet : (has : HasManifest proto t a) (drafts : List Draft) → IsDraftOf has.bytes drafts → AllByRecursion (HasSource proto) drafts → Contains (versions_of has.catalog a.stem) a.version
      → Judges proto t a (Refused Exists)
  HasLargeContent : (new : IsNew proto t a) (count : ℕ) → IsFirstOver proto new.drafts count → Judges proto t a (Refused (TooLarge which.PayloadBytes count))
  IsBlocked : (new : IsNew proto t a) (filled : List Fields) (path : List ℕ) → AllByRecursion (Fits proto) new.drafts → AreFilled proto new.drafts filled
      → IsFirstInTheWay t (ways a.publisher a.stem (flat_map content_of filled)) path → Judges proto t a (Refused (Blocked path))
  IsTooLarge : (put : Put) (can : CanPut proto t a put) (limit : Which) (count : ℕ) → IsOverPut (with_version a.stem a.version can.new.has.catalog) put limit count
      → Judges proto t a (Refused (TooLarge limit count))
  CanBePublished : (put : Put) (can : CanPut proto t a put) → ((limit : Which) (count : ℕ) → IsOverPut (with_version a.stem a.version can.new.has.catalog) put limit count → ⊥)
      → Judges proto t a (Publish put)
