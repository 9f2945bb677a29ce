-- Lists of steps on a small image, computed.
use Rattle.std.proofs.Common.{◌≡◌, ℕ, Bool, true, false, cond, ◌&&◌, ◌||◌, ◌==◌, List, [], ◌∷◌, Some, None, refl}
use lib.Chars.{codes}
use Rattle.std.specs.Fmt.{digits}
use Rattle.ips_text.specs.Ancestry.{same_path}
use Rattle.ips_outside.specs.Image.{Dir, File, Image}
use Rattle.ips_steps.specs.Steps.{Gone, Fresh, Mode, Put, Symlink, Hard, Stage, stage_name, stage_path, all_laid, possible, sound}
use Rattle.ips_steps.specs.Private.{records_name, journal_name, gate_name, mark_front, mark_name, is_private}
use Rattle.ips_steps.specs.Journal.{may_name, allowed, numbered}

abbrev is_x : List ℕ → Bool
is_x q = same_path (codes "x") q || same_path (codes "y") q

-- a directory `d` with a file, and a file `x` that has a second name `y`
abbrev small : Image
small = record {
  look = λ q. cond (same_path (codes "d") q) (Some (Dir 493 false)) (cond (same_path (codes "d/f") q) (Some (File 420 (97 ∷ []))) (cond (is_x q) (Some (File 420 (98 ∷ []))) None));
  same = λ a b. (is_x a && is_x b) || (same_path (codes "d/f") a && same_path (codes "d/f") b);
}

-- one content, without bytes
abbrev empty : Stage
empty n = cond (n == 0) (Some []) None

-- a put leaves the other name of the file that stood there
put_alone : (all_laid empty (Put 0 384 (codes "x") ∷ []) small).look (codes "y") ≡ Some (File 420 (98 ∷ []))
put_alone = refl

-- and shares nothing with it
put_alone_apart : (all_laid empty (Put 0 384 (codes "x") ∷ []) small).same (codes "x") (codes "y") ≡ false
put_alone_apart = refl

-- with a hard link behind it both names show the new file
put_both : (all_laid empty (Put 0 384 (codes "x") ∷ Hard (codes "y") (codes "x") ∷ []) small).look (codes "y") ≡ Some (File 384 [])
put_both = refl

-- and are one
put_both_one : (all_laid empty (Put 0 384 (codes "x") ∷ Hard (codes "y") (codes "x") ∷ []) small).same (codes "x") (codes "y") ≡ true
put_both_one = refl

-- a mode is that of both names
mode_both : (all_laid empty (Mode 256 (codes "x") ∷ []) small).look (codes "y") ≡ Some (File 256 (98 ∷ []))
mode_both = refl

-- the last mode decides
mode_last : (all_laid empty (Mode 256 (codes "x") ∷ Mode 128 (codes "y") ∷ []) small).look (codes "x") ≡ Some (File 128 (98 ∷ []))
mode_last = refl

-- what goes takes what is below it along
gone_below : (all_laid empty (Gone (codes "d") ∷ []) small).look (codes "d/f") ≡ None
gone_below = refl

-- and so does what takes its place
link_below : (all_laid empty (Symlink (codes "d") (codes "y") ∷ []) small).look (codes "d/f") ≡ None
link_below = refl

-- a put needs a directory above it
no_parent : possible empty (Put 0 384 (codes "x/a") ∷ []) small ≡ false
no_parent = refl

-- and its content
no_content : possible empty (Put 1 384 (codes "a") ∷ []) small ≡ false
no_content = refl

-- a hard link leads to no directory
hard_to_dir : possible empty (Hard (codes "a") (codes "d") ∷ []) small ≡ false
hard_to_dir = refl

-- nor to itself
hard_to_itself : possible empty (Hard (codes "x") (codes "x") ∷ []) small ≡ false
hard_to_itself = refl

-- nor to what goes with what stands at its own path
hard_below : possible empty (Hard (codes "d") (codes "d/f") ∷ []) small ≡ false
hard_below = refl

-- what goes needs nothing
gone_nothing : possible empty (Gone (codes "a/b") ∷ []) small ≡ true
gone_nothing = refl

-- a directory that is made behind what it should hold is not sound
dir_behind : sound (Put 0 384 (codes "d/g") ∷ Fresh 493 (codes "d") ∷ []) ≡ false
dir_behind = refl

-- before it, it is
dir_before : sound (Fresh 493 (codes "d") ∷ Put 0 384 (codes "d/g") ∷ []) ≡ true
dir_before = refl

-- a target that is put behind its hard link is not sound
target_behind : sound (Hard (codes "y") (codes "x") ∷ Put 0 384 (codes "x") ∷ []) ≡ false
target_behind = refl

-- nor is a mode of what goes later
mode_gone : sound (Mode 256 (codes "d/f") ∷ Gone (codes "d/f") ∷ []) ≡ false
mode_gone = refl

-- a mode behind is sound
mode_behind : sound (Put 0 384 (codes "d/g") ∷ Mode 448 (codes "d") ∷ []) ≡ true
mode_behind = refl

-- contents are numbered files of the stage
content_name : stage_path 12 ≡ codes "var/pkg/stage/12"
unfolding stage_name digits
content_name = refl

-- marks are numbered too
mark_name_of : mark_name 3 ≡ codes "var/pkg/done.3"
unfolding mark_front digits
mark_name_of = refl

-- `var/pkg/done.3` is private
private_mark : is_private (codes "var/pkg/done.3") ≡ true
unfolding stage_name records_name journal_name gate_name mark_front
private_mark = refl

-- `var/pkg/done.x/y` is private
private_below_mark : is_private (codes "var/pkg/done.x/y") ≡ true
unfolding stage_name records_name journal_name gate_name mark_front
private_below_mark = refl

-- `var/pkg/stage/0` is private
private_stage : is_private (codes "var/pkg/stage/0") ≡ true
unfolding stage_name records_name journal_name gate_name mark_front
private_stage = refl

-- `var/pkg/stage2` is not private
not_private_stage2 : is_private (codes "var/pkg/stage2") ≡ false
unfolding stage_name records_name journal_name gate_name mark_front
not_private_stage2 = refl

-- `var/pkg/done` is not private
not_private_done : is_private (codes "var/pkg/done") ≡ false
unfolding stage_name records_name journal_name gate_name mark_front
not_private_done = refl

-- `var/pkg` is not private
not_private_records : is_private (codes "var/pkg") ≡ false
unfolding stage_name records_name journal_name gate_name mark_front
not_private_records = refl

-- a step may not put something at `var`
no_var : may_name (codes "var") ≡ false
unfolding stage_name records_name journal_name gate_name mark_front
no_var = refl

-- a step may not put something at `var/pkg`
no_records : may_name (codes "var/pkg") ≡ false
unfolding stage_name records_name journal_name gate_name mark_front
no_records = refl

-- a step may put something at `var/pkg/image`
of_record : may_name (codes "var/pkg/image") ≡ true
unfolding stage_name records_name journal_name gate_name mark_front
of_record = refl

-- a step may put something at `va`
near_var : may_name (codes "va") ≡ true
unfolding stage_name records_name journal_name gate_name mark_front
near_var = refl

-- a step may not put something at `var/pkg/gate`
no_gate : may_name (codes "var/pkg/gate") ≡ false
unfolding stage_name records_name journal_name gate_name mark_front
no_gate = refl

-- but a mode may be set there
mode_of_records : allowed (Mode 493 (codes "var/pkg") ∷ []) ≡ true
unfolding stage_name records_name journal_name gate_name mark_front
mode_of_records = refl

-- a hard link may not lead to what is private
hard_to_private : allowed (Hard (codes "a") (codes "var/pkg/journal") ∷ []) ≡ false
unfolding stage_name records_name journal_name gate_name mark_front
hard_to_private = refl

-- contents are numbered from 0 on
numbered_in_order : numbered 0 (Put 0 384 (codes "a") ∷ Gone (codes "b") ∷ Put 1 384 (codes "c") ∷ []) ≡ true
numbered_in_order = refl

-- and not otherwise
numbered_from_1 : numbered 0 (Put 1 384 (codes "a") ∷ []) ≡ false
numbered_from_1 = refl
