-- The bytes of payloads in a repository.
use Rattle.std.specs.Prelude.{ℕ, List, ◌++◌, ◌∷◌, take, codes}
use Rattle.ips_outside.specs.Image.{Image}
use Rattle.ips_files.specs.Files.{file_at}
use Rattle.ips_steps.specs.Steps.{content_bytes}
use Rattle.ips_repo.specs.Places.{publisher_place}

-- The bytes of each payload of the publisher, by the spelling of its name: those of the file at its place in the repository, and none where no file stands there.
abbrev pub payload_bytes : List ℕ → Image → List ℕ → List ℕ
payload_bytes publisher repository name = content_bytes (file_at repository (publisher_place publisher ++ codes "/file/" ++ take 2 name ++ 47 ∷ name))
