-- Where the files of a repository stand.
use Rattle.std.specs.Prelude.{◌≡◌, ℕ, List, ◌∷◌, ◌++◌, take, Option, Some, None, codes}
use Rattle.ips_text.specs.Kept.{Kept}
use Rattle.ips_text.specs.Path.{IsPath}
use Rattle.ips_text.specs.Quote.{quoted}
use Rattle.ips_fmri.specs.Version.{Parts, version_text}
use Rattle.ips_digest.specs.Name.{spelling}
use Rattle.ips_digest.specs.declared.name.PayloadName.{PayloadName}

-- the mark of a repository is the file `pkg5.repository`
abbrev pub mark_place : List ℕ
mark_place = codes "pkg5.repository"

-- what a publisher's part of the repository holds stands below `publisher/` and the publisher
abbrev pub publisher_place : List ℕ → List ℕ
publisher_place publisher = codes "publisher/" ++ publisher

-- the catalog of a publisher is its file `catalog/catalog.base.C`
abbrev pub catalog_place : List ℕ → List ℕ
catalog_place publisher = publisher_place publisher ++ codes "/catalog/catalog.base.C"

-- the manifest of a version of a stem is the file `pkg/`, the quoted stem, `/` and the quoted version
abbrev pub manifest_place : List ℕ → List ℕ → Parts → List ℕ
manifest_place publisher stem version = publisher_place publisher ++ codes "/pkg/" ++ quoted stem ++ 47 ∷ quoted (version_text version)

-- a payload is the file `file/`, the first two digits of its name, `/` and all digits
abbrev pub payload_place : List ℕ → PayloadName → List ℕ
payload_place publisher name = publisher_place publisher ++ codes "/file/" ++ take 2 (spelling name) ++ 47 ∷ spelling name

-- the path of a place; none where the place is no path, and so nothing stands there
abbrev pub IsPlace : List ℕ → Option Kept → Type 0
IsPlace place None = IsPath place → ⊥
IsPlace place (Some path) = path.bytes ≡ place
