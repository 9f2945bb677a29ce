-- When a layout can be made, and what is made of it meanwhile.
use Rattle.std.specs.Prelude.{◌≡◌, ℕ, Bool, true, ◌||◌, IsTrue, IsFalse, List, Some, None, Result, Ok, Err}
use Rattle.std.specs.List.{Contains}
use Rattle.ips_text.specs.Ancestry.{covers, parent}
use Rattle.ips_outside.specs.Image.{Image, is_dir}
use Rattle.ips_steps.specs.Private.{gate_name}
use Rattle.ips_repo.specs.Places.{mark_place}
use Rattle.ips_repo.specs.Mark.{is_repository}
use Rattle.ips_ways.specs.Ways.{CanHave, IsFree, gives_way, is_missing, with_dirs}
use Rattle.ips_ways.specs.declared.making.Unmade.{Unmade}
use Rattle.ips_lay.specs.Records.{record_dirs}
use Rattle.ips_create.specs.Created.{Layout, all_dirs, is_begun}
use Rattle.ips_create.specs.declared.fault.CreateFault.{CreateFault}

-- this layout
abbrev pub laid_out : List (List ℕ) → List ℕ → List ℕ → Layout
laid_out dirs catalog text = record { dirs = dirs; catalog = catalog; text = text }

-- Its catalog is in one of its directories, and stands neither at nor above one of them; the mark stands apart from all, and the gate is below none but those of
-- the records.
pub record IsLayout (l : Layout) : Type 0 where
  pub dir : List ℕ
  pub parent_is : parent l.catalog ≡ Some dir
  pub among : Contains (all_dirs l) dir
  pub catalog_marked : IsFalse (covers l.catalog mark_place)
  pub mark_listed : IsFalse (covers mark_place l.catalog)
  pub dirs_marked : (d : List ℕ) → Contains (all_dirs l) d → IsFalse (covers d mark_place)
  pub mark_dirs : (d : List ℕ) → Contains (all_dirs l) d → IsFalse (covers mark_place d)
  pub catalog_dirs : (d : List ℕ) → Contains (all_dirs l) d → IsFalse (covers l.catalog d)
  pub mark_shut : IsFalse (covers mark_place gate_name)
  pub catalog_shut : IsFalse (covers l.catalog gate_name)
  pub dirs_shut : (d : List ℕ) → Contains l.dirs d → IsFalse (covers d gate_name)

-- An image is no repository, nothing stands at its gate, nothing is in the way, and the directories can be made one after the other; then they stand, and what
-- gives way to a directory then did so before.
pub record IsReady (l : Layout) (t : Image) : Type 0 where
  pub unmarked : IsFalse (is_repository t)
  pub free : IsFree t (all_dirs l)
  pub shut : t.look gate_name ≡ None
  pub records : CanHave t record_dirs
  pub places : CanHave (with_dirs record_dirs t) l.dirs
  pub stand : (d : List ℕ) → Contains (all_dirs l) d → IsTrue (is_dir ((with_dirs (all_dirs l) t).look d))
  pub older : (q : List ℕ) → IsTrue (gives_way q ((with_dirs record_dirs t).look q)) → IsTrue (gives_way q (t.look q))
  pub shut_then : (with_dirs record_dirs t).look gate_name ≡ None

-- the path is at or below the catalog, or a directory that is missing in the image
abbrev pub is_put : List ℕ → List (List ℕ) → Image → List ℕ → Bool
is_put catalog dirs t q = covers catalog q || is_missing t dirs q

-- whether a call was made that may change something, as it is answered of the rest
abbrev pub has_laid : Result (Unit {0}) Unmade → Bool
has_laid (Ok done) = true
has_laid (Err why) = why.begun

-- the same, as it is answered of all
abbrev pub has_made : Result (Unit {0}) CreateFault → Bool
has_made (Ok done) = true
has_made (Err why) = is_begun why
