-- What a publication puts: the text of the catalog, and the text of the manifest.
use Rattle.std.specs.Prelude.{◌≡◌, ℕ, Bool, true, false, ◌&&◌, cond, List, [], ◌∷◌, ◌++◌, Option, Some, None, codes}
use Rattle.std.specs.List.{list_any, flat_map}
use Rattle.ips_digest.specs.Digest.{SHA1, digest_of}
use Rattle.ips_fmri.specs.Version.{Parts, version_text}
use Rattle.ips_action.specs.declared.kind.ActionKind.{ActionKind}
use Rattle.ips_action.specs.declared.kind.ActionKind.TheVariants as kind
use Rattle.ips_action.specs.Attrs.{is_same, values_of}
use Rattle.ips_action.specs.Action.{Fields, line_text}
use Rattle.ips_action.specs.Draft.{with_payload}
use Rattle.ips_manifest.specs.Manifest.{is_set, has_value}
use Rattle.ips_manifest.specs.declared.draft.Draft.{Draft}
use Rattle.ips_outside.specs.Image.{Image}
use Rattle.ips_catalog.specs.Listed.{Listed}
use Rattle.ips_listing.specs.Text.{catalog_text, with_version}
use Rattle.ips_files.specs.Files.{file_at}
use Rattle.ips_sends.specs.Whole.{has_content}

-- the name of the package: its publisher, its stem and its version
abbrev pub fmri_text : List ℕ → List ℕ → Parts → List ℕ
fmri_text publisher stem version = codes "pkg://" ++ publisher ++ 47 ∷ stem ++ 64 ∷ version_text version

-- the action tells the name of its package
abbrev pub tells_name : Fields → Bool
tells_name action = is_set action.kind && has_value (codes "name") (codes "pkg.fmri") action

-- the action that tells the name
abbrev pub name_action : List ℕ → Fields
name_action fmri = record {
  kind = kind.Set;
  payload = None;
  attrs = record { key = codes "name"; values = codes "pkg.fmri" ∷ [] } ∷ record { key = codes "value"; values = fmri ∷ [] } ∷ [];
}

-- the actions with one that tells the name put first, where none does
abbrev pub named_actions : List ℕ → List Fields → List Fields
named_actions fmri actions = cond (list_any tells_name actions) actions (name_action fmri ∷ actions)

-- the key of the attribute that names the content where no word does: the path, and the name of a license
abbrev pub content_key : ActionKind → List ℕ
content_key kind.Set = []
content_key kind.Depend = []
content_key kind.Dir = []
content_key kind.File = codes "path"
content_key kind.Link = []
content_key kind.Hardlink = []
content_key kind.User = []
content_key kind.Group = []
content_key kind.Driver = []
content_key kind.License = codes "license"
content_key kind.Legacy = []
content_key kind.Signature = []

-- the first of the values, if there is one
abbrev pub first_or_none : List (List ℕ) → List ℕ
first_or_none [] = []
first_or_none (value ∷ values) = value

-- no word names the content: there is none, or it is `NOHASH`
abbrev pub is_unnamed : Option (List ℕ) → Bool
is_unnamed None = true
is_unnamed (Some word) = is_same word (codes "NOHASH")

-- the word, or nothing
abbrev pub word_or_none : Option (List ℕ) → List ℕ
word_or_none None = []
word_or_none (Some word) = word

-- the text that names the content of an action in the proto folder
abbrev pub content_text : Draft → List ℕ
content_text d = cond (is_unnamed d.word) (first_or_none (values_of (content_key d.line.action.kind) d.line.action.attrs)) (word_or_none d.word)

-- the action with its payload, the SHA-1 of its content in the proto folder; one without content stays
abbrev pub FillsAs : Bool → Image → Draft → Fields → Type 0
FillsAs true proto d action = (bytes : List ℕ) × (file_at proto (content_text d) ≡ Some bytes) × (action ≡ with_payload (digest_of SHA1 bytes) d.line.action)
FillsAs false proto d action = action ≡ d.line.action

-- the action of a draft with its payload
abbrev pub Fills : Image → Draft → Fields → Type 0
Fills proto d action = FillsAs (has_content d.line.action.kind) proto d action

-- each line with its payload, one after the other
abbrev pub AreFilled : Image → List Draft → List Fields → Type 0
AreFilled proto [] [] = Unit {0}
AreFilled proto [] (action ∷ actions) = ⊥
AreFilled proto (d ∷ drafts) [] = ⊥
AreFilled proto (d ∷ drafts) (action ∷ actions) = Fills proto d action × AreFilled proto drafts actions

-- the text of a manifest of these actions
abbrev pub actions_text : List Fields → List ℕ
actions_text actions = flat_map (λ action. line_text action ++ 10 ∷ []) actions

-- What a publication puts: the actions of the package are the drafts with their payloads, its name among them; the manifest is their text, and the
-- catalog lists the version besides.
pub record IsPublication (proto : Image) (publisher stem : List ℕ) (version : Parts) (drafts : List Draft) (catalog : List Listed) (actions : List Fields) (manifest text : List ℕ) : Type 0 where
  pub filled : List Fields
  pub are_filled : AreFilled proto drafts filled
  pub named : actions ≡ named_actions (fmri_text publisher stem version) filled
  pub manifest_is : manifest ≡ actions_text actions
  pub catalog_is : text ≡ catalog_text publisher (with_version stem version catalog)
