-- What a request asks of an image, as it stands in memory, is a case.
use Rattle.std.specs.Prelude.{ℕ, List, [], map, Option, Some, None}
use Rattle.std.specs.Option.{option_map}
use Rattle.ips_fmri.specs.Version.{Parts}
use Rattle.ips_outside.specs.Image.{Image}
use Rattle.ips_catalog.specs.Listed.{Listed}
use Rattle.ips_files.specs.Files.{file_at}
use Rattle.ips_repo.specs.Places.{manifest_place}
use Rattle.ips_repo.specs.Opening.{Opened}
use Rattle.ips_state.specs.State.{installed}
use Rattle.ips_request.specs.declared.asking.Naming as declared
use Rattle.ips_request.specs.declared.asking.Subject.{Subject}
use Rattle.ips_request.specs.Stems.{stems_of}
use Rattle.ips_request.specs.Case.{Naming, ManifestReading, Case}

-- what a pattern names
abbrev pub seen_naming : declared.Naming → Naming
seen_naming n = record { stems = n.stems.items; limit = n.limit }

-- the catalog of a repository, empty where there is none
abbrev pub catalog_of : Option Opened → List Listed
catalog_of None = []
catalog_of (Some repo) = repo.catalog

-- the manifest files of a repository, in what a source holds
abbrev pub files_of : Option Opened → Image → List ℕ → Parts → Option (List ℕ)
files_of None held stem v = None
files_of (Some repo) held stem v = file_at held (manifest_place repo.publisher stem v)

-- the repository at hand
abbrev pub repo_of : Subject → Option Opened
repo_of s = option_map (λ r. r.now) s.repo

-- the case that the request and the image make, over these manifest files, read so
abbrev pub case_of : Subject → (List ℕ → Parts → Option (List ℕ)) → ManifestReading → Case
case_of s file reading = record {
  kind = s.kind;
  named = map seen_naming s.named.items;
  rejected = stems_of s.rejected.keys;
  catalog = catalog_of (repo_of s);
  installed = map installed s.state.now.installed.items;
  avoid = s.state.now.avoid.items;
  freeze = s.state.now.freeze.items;
  file = file;
  reading = reading;
}

-- the case over the manifest files in what a source holds
abbrev pub case_in : Subject → Image → ManifestReading → Case
case_in s held reading = case_of s (files_of (repo_of s) held) reading
