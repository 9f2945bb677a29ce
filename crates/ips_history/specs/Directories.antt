-- The directories of an image's records, which the making of an image makes where nothing stands.
use Rattle.std.specs.Prelude.{◌≡◌, ◌⊎◌, ℕ, Bool, true, false, cond, ◌&&◌, ◌||◌, IsTrue, IsFalse, List, Option, Some, is_none}
use lib.Chars.{codes}
use Rattle.ips_outside.specs.Image.{Entry, Dir, Image, is_dir}
use Rattle.ips_outside.specs.Change.{with_entry_at}
use Rattle.ips_steps.specs.Private.{records_name}
use Rattle.ips_history.specs.declared.effect.Effect.{Effect}
use Rattle.ips_history.specs.declared.effect.Effect.TheVariants as effect

-- the command only shows
abbrev pub shows : Effect → Bool
shows effect.Shows = true
shows effect.Changes = false
shows effect.Creates = false
shows effect.Fixes = false

-- it makes the image, and the directories of its records where nothing stands
abbrev pub creates : Effect → Bool
creates effect.Shows = false
creates effect.Changes = false
creates effect.Creates = true
creates effect.Fixes = false

-- it brings to an end what was stopped
abbrev pub fixes : Effect → Bool
fixes effect.Shows = false
fixes effect.Changes = false
fixes effect.Creates = false
fixes effect.Fixes = true

-- the directory that holds the folder of the records
unfoldable pub var_name : List ℕ
var_name = codes "var"

-- the image with a directory of mode 0755 at this path, where nothing stands there
abbrev pub with_dir : List ℕ → Image → Image
with_dir p t = cond (is_none (t.look p)) (with_entry_at p (Some (Dir 493 false)) t) t

-- the image with the directories of its records, where nothing stands at them
abbrev pub with_directories : Image → Image
with_directories t = with_dir records_name (with_dir var_name t)

-- the image that a command goes by: what is held, and for one that makes an image with the directories of the records
abbrev pub image_for : Effect → Image → Image
image_for effect t = cond (creates effect) (with_directories t) t

-- a directory stands there, or nothing
abbrev pub is_dir_or_free : Option Entry → Bool
is_dir_or_free e = is_none e || is_dir e

-- the directories of the records stand or can be made: nothing else is in their way
abbrev pub CanHaveDirectories : Image → Type 0
CanHaveDirectories t = IsTrue (is_dir_or_free (t.look var_name) && is_dir_or_free (t.look records_name))

-- this is the first of them at which something else than a directory stands
abbrev pub IsFirstObstacle : Image → List ℕ → Type 0
IsFirstObstacle t p = IsFalse (is_dir_or_free (t.look p)) × ((p ≡ var_name) ⊎ ((p ≡ records_name) × IsTrue (is_dir_or_free (t.look var_name))))
