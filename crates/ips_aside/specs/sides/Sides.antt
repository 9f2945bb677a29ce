-- Files that are put beside paths, as they are told.
use Rattle.std.specs.Prelude.{◌≡◌, ℕ, Bool, IsTrue, IsFalse, List, ◌++◌, map, Option, Some, None, is_some}
use Rattle.std.specs.List.{AllByRecursion, filter}
use Rattle.ips_text.specs.Path.{IsPath}
use Rattle.ips_outside.specs.Image.{File, Image}
use Rattle.ips_outside.specs.Outside.{readable}
use Rattle.ips_digest.specs.Name.{spelling}
use Rattle.ips_after.specs.Request.{Request}
use Rattle.ips_after.specs.Salvage.{is_long_path, is_lost, legacy_suffix, new_suffix, old_suffix, side_at}
use Rattle.ips_after.specs.Salvage as salvage
use Rattle.ips_change.specs.declared.stands.Stands.{Stands}
use Rattle.ips_change.specs.declared.stands.Stands.TheVariants as stands
use Rattle.ips_aside.specs.declared.sides.side.Put.{Put}
use Rattle.ips_aside.specs.declared.sides.side.Put.TheVariants.{Legacy, New, Old}
use Rattle.ips_aside.specs.declared.sides.side.Side.{Side}
use Rattle.ips_aside.specs.declared.sides.side.SideName.{SideName}
use Rattle.ips_aside.specs.declared.sides.side.SideName.TheVariants.{Free, Lost, TooLong}

-- the mode of a file that is seen
abbrev pub mode_seen : Stands → Option ℕ
mode_seen stands.Unasked = None
mode_seen stands.Absent = None
mode_seen (stands.Dir m) = None
mode_seen (stands.File m known fresh) = Some m
mode_seen (stands.Link wanted) = None
mode_seen stands.Other = None

-- The extension of the name of a file beside its path.
abbrev pub ending_of : Put → List ℕ
ending_of (Old mode) = old_suffix
ending_of (Legacy mode) = legacy_suffix
ending_of (New payload mode) = new_suffix

-- The file that is put beside a path, by the bytes of each payload and those of the file that stands at the path.
abbrev pub side_put : (List ℕ → List ℕ) → List ℕ → Put → salvage.Side
side_put bytes standing (Old mode) = record { suffix = old_suffix; entry = File mode standing }
side_put bytes standing (Legacy mode) = record { suffix = legacy_suffix; entry = File mode standing }
side_put bytes standing (New payload mode) = record { suffix = new_suffix; entry = File mode (bytes (spelling payload.now)) }

-- What is told of a name beside a path is so: it is a path and can be used, or it can't be used there, or it could but is too long for a path.
abbrev pub IsNameOf : Request → Image → List ℕ → SideName → Type 0
IsNameOf r t q (Free name) = (name.bytes ≡ q) × IsPath q × IsFalse (is_lost r t q)
IsNameOf r t q Lost = IsPath q × IsTrue (is_lost r t q)
IsNameOf r t q TooLong = IsTrue (is_long_path q) × IsFalse (is_lost r t q)

-- Just this file is put beside its path, and what is told of its name is so.
pub record IsSide (r : Request) (t : Image) (s : Side) : Type 0 where
  pub is : side_at r t s.path.now.bytes ≡ Some (side_put r.bytes (readable (t.look s.path.now.bytes)) s.put)
  pub name : IsNameOf r t (s.path.now.bytes ++ ending_of s.put) s.name

-- something is put beside the path
abbrev pub has_side : Request → Image → List ℕ → Bool
has_side r t p = is_some (side_at r t p)

-- the paths beside which files are put
abbrev pub side_paths : List Side → List (List ℕ)
side_paths sides = map (λ s. s.path.now.bytes) sides

-- The new files are the old ones and behind them just those that are put beside these paths, in the paths' order.
pub record AddsSides (r : Request) (t : Image) (paths : List (List ℕ)) (old new : List Side) : Type 0 where
  pub paths_are : side_paths new ≡ side_paths old ++ filter (has_side r t) paths
  pub each : AllByRecursion (IsSide r t) old → AllByRecursion (IsSide r t) new

-- Just the files that are put beside these paths, in the paths' order.
pub record AreSides (r : Request) (t : Image) (paths : List (List ℕ)) (sides : List Side) : Type 0 where
  pub paths_are : side_paths sides ≡ filter (has_side r t) paths
  pub each : AllByRecursion (IsSide r t) sides
