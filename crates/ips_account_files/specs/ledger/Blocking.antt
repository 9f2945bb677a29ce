-- Account files that can't be edited, by what stands and what is wanted.
use Rattle.std.specs.Prelude.{ℕ, Bool, not, ◌&&◌, ◌||◌, List, Option, codes, is_some}
use Rattle.ips_outside.specs.Image.{Entry, Image, is_file}
use Rattle.ips_after.specs.Request.{Request, Wanted, is_dir_wanted, is_file_wanted}

-- Something other than a file is wanted.
abbrev pub wants_other_than_file : Option Wanted → Bool
wants_other_than_file w = is_some w && not (is_file_wanted w)

-- Something other than a file stands there.
abbrev pub is_in_way : Option Entry → Bool
is_in_way e = is_some e && not (is_file e)

-- Something other than a file stands or is wanted at the path.
abbrev pub is_blocked : Request → Image → List ℕ → Bool
is_blocked r t p = wants_other_than_file (r.new.at p) || is_in_way (t.look p)

-- Something other than a directory is wanted at the path of the folder of account files.
abbrev pub is_folder_blocked : Request → Bool
is_folder_blocked r = is_some (r.new.at (codes "etc")) && not (is_dir_wanted (r.new.at (codes "etc")))
