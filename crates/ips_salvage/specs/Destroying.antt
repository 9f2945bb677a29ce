-- What is destroyed, and what goes with it.
use Rattle.std.specs.Prelude.{ℕ, Bool, true, false, not, ◌&&◌, ◌||◌, List, Option, Some, None}
use Rattle.ips_outside.specs.Image.{Image, is_file}
use Rattle.ips_outside.specs.declared.outside.Look.{Look}
use Rattle.ips_outside.specs.declared.outside.Look.TheVariants as look
use Rattle.ips_after.specs.After.{given_up_as, is_top}
use Rattle.ips_after.specs.Change.{reached}
use Rattle.ips_after.specs.Request.{Request}
use Rattle.ips_after.specs.Salvage.{destroys, drops_edit_as, saved_as}
use Rattle.ips_change.specs.Stands.{is_unasked}
use Rattle.ips_change.specs.declared.survey.said.Said.{Said}
use Rattle.ips_change.specs.declared.survey.said.Said.TheVariants.{Lays, Takes}

-- what stands is taken away
abbrev pub says_taken : Option Said → Bool
says_taken (Some Lays) = false
says_taken (Some Takes) = true
says_taken None = false

-- something was found
abbrev pub is_something : Look → Bool
is_something look.Absent = false
is_something (look.Dir mode) = true
is_something (look.File mode size) = true
is_something look.Link = true
is_something look.Other = true

-- a file stands there that is ours and that no one may have edited, and no equal entry was wanted
abbrev pub gives_file : Request → Image → List ℕ → Bool
gives_file r t p = not (is_unasked (r.old.at p) (r.new.at p)) && (is_file (t.look p) && given_up_as r.holds (r.old.at p) (t.look p))

-- what stands there is saved otherwise, or is such a file
abbrev pub needs_no_salvage : Request → Image → List ℕ → Bool
needs_no_salvage r t p = saved_as r (r.old.at p) (r.new.at p) (t.look p) || gives_file r t p

-- Something is destroyed there other than such a file. Nothing stands below a file, so what isn't given up goes with something that is destroyed
-- just where it goes with one of these.
abbrev pub destroys_else : Request → Image → List ℕ → Bool
destroys_else r t p = destroys r t p && not (gives_file r t p)

-- what stands there goes with one of these or with a directory with a stated mode, or is an edit that goes
abbrev pub goes_else : Request → Image → List ℕ → Bool
goes_else r t p = reached (destroys_else r t) p || (reached (is_top r t) p || drops_edit_as r (r.old.at p) (r.new.at p) (t.look p))
