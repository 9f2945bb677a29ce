-- Directories with names that are no paths, which would go unsaved.
use Rattle.std.specs.Prelude.{◌≡◌, ℕ, Bool, false, cond, not, ◌&&◌, ◌||◌, IsTrue, IsFalse, List, Option, Some, None, is_some, slice_get, take}
use Rattle.std.specs.List.{AllByRecursion, list_any}
use Rattle.std.specs.List.Sorted.{IsStrictlySortedBy}
use Rattle.std.specs.Ordering.{nat_cmp}
use Rattle.std.specs.Cmp.Lexicographic.{slice_cmp}
use Rattle.ips_text.specs.Ancestry.{covers, same_path}
use Rattle.ips_text.specs.Kept.{Kept}
use Rattle.ips_outside.specs.Image.{Image}
use Rattle.ips_steps.specs.Private.{records_name}
use Rattle.ips_after.specs.After.{change_after}
use Rattle.ips_after.specs.Change.{cleared}
use Rattle.ips_after.specs.Lists.{listed}
use Rattle.ips_after.specs.Request.{Request, is_dir_wanted, takes}
use Rattle.ips_change.specs.Told.{naming}
use Rattle.ips_found.specs.Found.{Found, FoundDir, FoundFile, FoundLink, FoundOther, found_told, thing_paths}
use Rattle.ips_found.specs.declared.found.Thing.{Thing}

-- a directory was wanted at the path, and what stands there goes
abbrev pub gives_dir : Request → Image → (List ℕ → Bool) → List ℕ → Bool
gives_dir r t emptied p = is_dir_wanted (r.old.at p) && cleared (change_after (naming r) t emptied) p

-- The first path asks of the second, outside the folder of the records: it is the same, where a directory was wanted that goes, or is at or below the
-- first, where what stands there is taken away.
abbrev pub asks : Request → Image → (List ℕ → Bool) → List ℕ → List ℕ → Bool
asks r t emptied p q = not (covers records_name p) && cond (takes (r.over.at p)) (covers p q) (gives_dir r t emptied p && same_path p q)

-- one of these asks of the path
abbrev pub asks_among : Request → Image → (List ℕ → Bool) → List (List ℕ) → List ℕ → Bool
asks_among r t emptied paths q = list_any (λ p. asks r t emptied p q) paths

-- The new things are the old ones and just what stands at the paths of which one of these asks, by bytes, each once.
pub record Gathers (r : Request) (t : Image) (emptied : List ℕ → Bool) (paths : List (List ℕ)) (old new : List Thing) : Type 0 where
  pub order : IsStrictlySortedBy (slice_cmp nat_cmp) (thing_paths new)
  pub each : (q : List ℕ) → listed (thing_paths new) q ≡ (listed (thing_paths old) q || (is_some (t.look q) && asks_among r t emptied paths q))

-- a directory with names that are no paths was found
abbrev pub found_foreign : Found → Bool
found_foreign (FoundDir m f) = f
found_foreign (FoundFile m) = false
found_foreign (FoundLink g) = false
found_foreign FoundOther = false

-- the thing is a directory with names that are no paths, outside the folder of the records
abbrev pub is_lost_thing : Thing → Bool
is_lost_thing x = found_foreign (found_told x.found) && not (covers records_name x.path.bytes)

-- The thing at this place of a list is a lost one, and none before it.
pub record IsFirstAt (things : List Thing) (path : List ℕ) : Type 0 where
  pub place : ℕ
  pub thing : Thing
  pub there : slice_get things place ≡ Some thing
  pub path_is : path ≡ thing.path.bytes
  pub lost : IsTrue (is_lost_thing thing)
  pub before : AllByRecursion (λ x. IsFalse (is_lost_thing x)) (take place things)

-- The path is that of the first lost thing; where there is none, no thing is lost.
abbrev pub IsFirstThing : List Thing → Option Kept → Type 0
IsFirstThing things (Some p) = IsFirstAt things p.bytes
IsFirstThing things None = AllByRecursion (λ x. IsFalse (is_lost_thing x)) things
