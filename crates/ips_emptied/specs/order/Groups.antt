-- The groups of a plan's order, by what is known of a path.
use Rattle.std.specs.Prelude.{ℕ, Bool, cond, not, ◌&&◌, ◌||◌, List, Option, is_none, is_some}
use Rattle.std.specs.List.{list_any}
use Rattle.ips_text.specs.Ancestry.{is_below}
use Rattle.ips_outside.specs.Image.{Image}
use Rattle.ips_after.specs.After.{is_support}
use Rattle.ips_after.specs.Planned.{lays_account}
use Rattle.ips_after.specs.Request.{Request, Wanted, is_dir_wanted, is_hard_wanted}
use Rattle.ips_change.specs.Told.{naming}
use Rattle.ips_change.specs.declared.survey.said.Said.{Said}
use Rattle.ips_change.specs.survey.Said.{said_as}
use Rattle.ips_emptied.specs.declared.order.group.Group.{Group}
use Rattle.ips_emptied.specs.declared.order.group.Group.TheVariants.{Gone, OldDirs, OldOthers, NewDirs, NewOthers, Accounts, Hards, Records}

-- a file or symbolic link is wanted of which nothing is said
abbrev pub wants_rest : Option Wanted → Option Said → Bool
wants_rest new said = is_some new && (not (is_dir_wanted new) && (not (is_hard_wanted new) && is_none said))

-- the step stands among those of account files: one that is spoken of, or a directory that is made above one alone
abbrev pub comes_early : Option Said → Bool → Bool → Bool → Bool
comes_early said spare account above = cond (is_some said) account (spare && above)

-- the step stands among those of account files and records
abbrev pub comes_apart : Option Said → Bool → Bool
comes_apart said spare = is_some said || spare

-- the path is in the group: by what was and is wanted, what is said, whether a directory is made there for what is made below, whether
-- it is an account file's, and whether one is laid below
abbrev pub belongs : Group → Option Wanted → Option Wanted → Option Said → Bool → Bool → Bool → Bool
belongs Gone old new said support account above = is_some old && (is_none new && not (comes_apart said (is_none new && support)))
belongs OldDirs old new said support account above = is_some old && is_dir_wanted new
belongs OldOthers old new said support account above = is_some old && wants_rest new said
belongs NewDirs old new said support account above = is_none old && is_dir_wanted new
belongs NewOthers old new said support account above = is_none old && wants_rest new said
belongs Accounts old new said support account above = comes_early said (is_none new && support) account above
belongs Hards old new said support account above = is_hard_wanted new
belongs Records old new said support account above = comes_apart said (is_none new && support) && not (comes_early said (is_none new && support) account above)

-- an account file is laid below the path
abbrev pub lays_below : Request → List ℕ → Bool
lays_below r p = list_any (λ q. is_below p q && lays_account r q) r.over.keys

-- the path is in the group, in a request over an image
abbrev pub group_at : Request → Image → Group → List ℕ → Bool
group_at r t group p = belongs group (r.old.at p) (r.new.at p) (said_as (r.over.at p)) (is_support (naming r) t p) (r.over.is_account p) (lays_below r p)
