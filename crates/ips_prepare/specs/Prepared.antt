-- Filled lines, of which a publication is prepared.
use Rattle.std.specs.Prelude.{◌≡◌, ℕ, ◌≤◌, Bool, true, false, ◌++◌, List, [], ◌∷◌, map, length, Option, Some, None, codes}
use Rattle.ips_text.specs.Kept.{Kept}
use Rattle.ips_text.specs.Quote.{quoted}
use Rattle.ips_outside.specs.Image.{Image}
use Rattle.ips_files.specs.Files.{file_at}
use Rattle.ips_repo.specs.Payload.{payload_limit, digest_by}
use Rattle.ips_digest.specs.declared.name.PayloadName.{PayloadName}
use Rattle.ips_digest.specs.Name.{IsName}
use Rattle.ips_action.specs.Action.{Fields}
use Rattle.ips_manifest.specs.declared.line.Line.{Line}
use Rattle.ips_manifest.specs.Manifest.{StandsOnLine}
use Rattle.ips_steps.specs.Private.{records_name}
use Rattle.ips_repo.specs.Places.{publisher_place}
use Rattle.ips_filling.specs.declared.filled.Filled.{Filled}
use Rattle.ips_sends.specs.Whole.{has_content}
use Rattle.ips_prepare.specs.declared.prepared.Content.{Content}

-- the actions of lines
abbrev pub actions_of : List Line → List Fields
actions_of lines = map (λ (line : Line). line.action) lines

-- those of filled lines
abbrev pub actions_filled : List Filled → List Fields
actions_filled filled = map (λ (f : Filled). f.line.action) filled

-- a content of this path and name, where both are given
abbrev pub content_with : Option Kept → Option PayloadName → List Content
content_with None name = []
content_with (Some path) None = []
content_with (Some path) (Some name) = record { path = path; name = name } ∷ []

-- the content of a filled line, where it has one
abbrev pub contents_in : Filled → List Content
contents_in f = content_with f.path f.line.action.payload

-- the names of contents
abbrev pub names_of : List Content → List PayloadName
names_of contents = map (λ (c : Content). c.name) contents

-- its name is one
abbrev pub HasName : Content → Type 0
HasName c = IsName c.name

-- At its path a file stands whose digest is its name, and which isn't too large.
pub record IsSourced (proto : Image) (c : Content) : Type 0 where
  pub bytes : List ℕ
  pub stands : file_at proto c.path.bytes ≡ Some bytes
  pub within : length bytes ≤ payload_limit
  pub named : digest_by c.name bytes ≡ c.name

-- a filled line has the path and the name of its content, where it has a content, and else no path
abbrev pub HasItsContent : Bool → Filled → Type 0
HasItsContent true f = (path : Kept) × (name : PayloadName) × (f.path ≡ Some path) × (f.line.action.payload ≡ Some name) × IsName name
HasItsContent false f = f.path ≡ None

-- The line can stand on a line of a text, and its content is given.
pub record IsEntry (f : Filled) : Type 0 where
  pub stands : StandsOnLine f.line
  pub content : HasItsContent (has_content f.line.action.kind) f

-- the directories on the way that each package has
abbrev pub first_ways : List ℕ → List ℕ → List (List ℕ)
first_ways publisher stem =
    codes "var" ∷ records_name ∷ codes "publisher" ∷ publisher_place publisher ∷ (publisher_place publisher ++ codes "/catalog") ∷ (publisher_place publisher ++ codes "/pkg")
    ∷ (publisher_place publisher ++ codes "/pkg/" ++ quoted stem) ∷ (publisher_place publisher ++ codes "/file") ∷ []
