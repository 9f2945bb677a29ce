-- What was found at a path.
use Rattle.std.specs.Prelude.{◌≡◌, ℕ, Bool, List, map, Option, Some, None}
use Rattle.std.specs.List.{AllByRecursion}
use Rattle.ips_outside.specs.Image.{Dir, Entry, File, Image, Link, Other}
use Rattle.ips_found.specs.declared.found.Found.{Found as Told}
use Rattle.ips_found.specs.declared.found.Found.TheVariants as told
use Rattle.ips_found.specs.declared.found.Thing.{Thing}

-- What is found of an entry: of a directory its mode and whether it also holds names that are no paths, of a file its mode, of a symbolic link its target.
pub data Found : Type 0 where
  FoundDir : ℕ → Bool → Found
  FoundFile : ℕ → Found
  FoundLink : List ℕ → Found
  FoundOther : Found

-- what is found of what stands
abbrev pub found_of : Option Entry → Option Found
found_of (Some (Dir m f)) = Some (FoundDir m f)
found_of (Some (File m b)) = Some (FoundFile m)
found_of (Some (Link g)) = Some (FoundLink g)
found_of (Some Other) = Some FoundOther
found_of None = None

-- what was found, as a call tells it
abbrev pub found_told : Told → Found
found_told (told.Dir mode foreign) = FoundDir mode foreign
found_told (told.File mode) = FoundFile mode
found_told (told.Link target) = FoundLink target.items
found_told told.Other = FoundOther

-- the paths of things
abbrev pub thing_paths : List Thing → List (List ℕ)
thing_paths things = map (λ x. x.path.bytes) things

-- Just that was found which stands at the thing's path.
abbrev pub IsThing : Image → Thing → Type 0
IsThing t x = Some (found_told x.found) ≡ found_of (t.look x.path.bytes)

-- Of each thing just that was found which stands at its path.
abbrev pub AreThings : Image → List Thing → Type 0
AreThings t things = AllByRecursion (IsThing t) things
