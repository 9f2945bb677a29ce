-- What each act of a step makes of an image, and when it can be done.
use Rattle.std.specs.Prelude.{false, IsTrue, List, [], ◌∷◌, Some, None}
use Rattle.ips_outside.specs.Image.{Image, Dir, Link, is_file}
use Rattle.ips_outside.specs.Change.{with_entry_at, joined, moded}
use Rattle.ips_folder.specs.Calls.{CanMake}
use Rattle.ips_steps.specs.Steps.{Step, Gone, Fresh, Mode, Put, Symlink, Hard, path_of, stage_path}
use Rattle.ips_kinds.specs.declared.kind.Act.{Act}
use Rattle.ips_kinds.specs.declared.kind.Act.TheVariants as act

-- without what stands at and below the path of a step other than a mode
abbrev pub cleared : Step → Image → Image
cleared (Gone p) t = with_entry_at p None t
cleared (Fresh m p) t = with_entry_at p None t
cleared (Mode m p) t = t
cleared (Put n m p) t = with_entry_at p None t
cleared (Symlink p target) t = with_entry_at p None t
cleared (Hard p to) t = with_entry_at p None t

-- with the directory of the step
abbrev pub with_dir : Step → Image → Image
with_dir (Gone p) t = t
with_dir (Fresh m p) t = with_entry_at p (Some (Dir m false)) t
with_dir (Mode m p) t = t
with_dir (Put n m p) t = t
with_dir (Symlink p target) t = t
with_dir (Hard p to) t = t

-- with the symbolic link of the step
abbrev pub with_link : Step → Image → Image
with_link (Gone p) t = t
with_link (Fresh m p) t = t
with_link (Mode m p) t = t
with_link (Put n m p) t = t
with_link (Symlink p target) t = with_entry_at p (Some (Link target)) t
with_link (Hard p to) t = t

-- with the step's path as one more name of its target, or of its content's file, which has the step's mode then
abbrev pub with_name : Step → Image → Image
with_name (Gone p) t = t
with_name (Fresh m p) t = t
with_name (Mode m p) t = t
with_name (Put n m p) t = joined p (stage_path n) (moded m (stage_path n) t)
with_name (Symlink p target) t = t
with_name (Hard p to) t = joined p to t

-- with the mode of the step
abbrev pub with_step_mode : Step → Image → Image
with_step_mode (Gone p) t = t
with_step_mode (Fresh m p) t = t
with_step_mode (Mode m p) t = moded m p t
with_step_mode (Put n m p) t = t
with_step_mode (Symlink p target) t = t
with_step_mode (Hard p to) t = t

-- the image after an act; one that isn't of the step's sort changes nothing
abbrev pub acted : Step → Act → Image → Image
acted s act.Clear t = cleared s t
acted s act.MakeDir t = with_dir s t
acted s act.MakeLink t = with_link s t
acted s act.MakeHard t = with_name s t
acted s act.SetMode t = with_step_mode s t
acted s act.Finished t = t

-- the image after each act in turn
abbrev pub all_acted : Step → List Act → Image → Image
all_acted s [] t = t
all_acted s (a ∷ rest) t = all_acted s rest (acted s a t)

-- A file stands of which the step makes one more name: a hard link's target, or a put's content.
abbrev pub HasTarget : Step → Image → Type 0
HasTarget (Gone p) t = Unit {0}
HasTarget (Fresh m p) t = Unit {0}
HasTarget (Mode m p) t = Unit {0}
HasTarget (Put n m p) t = IsTrue (is_file (t.look (stage_path n)))
HasTarget (Symlink p target) t = Unit {0}
HasTarget (Hard p to) t = IsTrue (is_file (t.look to))

-- The act can be done: what is made has a place, and what gets one more name is a file.
abbrev pub CanAct : Step → Act → Image → Type 0
CanAct s act.Clear t = Unit {0}
CanAct s act.MakeDir t = CanMake t (path_of s)
CanAct s act.MakeLink t = CanMake t (path_of s)
CanAct s act.MakeHard t = CanMake t (path_of s) × HasTarget s t
CanAct s act.SetMode t = Unit {0}
CanAct s act.Finished t = Unit {0}
