-- What a rule asks of what stands at a path, and what is learned there.
use Rattle.std.specs.Prelude.{ℕ, Bool, true, false, cond, ◌||◌, List, Option, Some, None}
use Rattle.ips_text.specs.Ancestry.{same_path}
use Rattle.ips_outside.specs.Image.{Entry, Dir, File, Link, Other}
use Rattle.ips_action.specs.declared.action.Preserve.{Preserve}
use Rattle.ips_action.specs.declared.action.Preserve.TheVariants as preserves
use Rattle.ips_preserve.specs.declared.case.Standing.{Standing}
use Rattle.ips_preserve.specs.declared.case.Standing.TheVariants.{Absent, Same, Different, NotFile}
use Rattle.ips_after.specs.After.{spent, was_equal}
use Rattle.ips_after.specs.Request.{WantDir, WantFile, WantHard, WantLink, Wanted}
use Rattle.ips_change.specs.declared.stands.Stands.{Stands}
use Rattle.ips_change.specs.declared.stands.Stands.TheVariants as stands

-- no rule asks: an equal entry was wanted, or nothing was and is
abbrev pub is_unasked : Option Wanted → Option Wanted → Bool
is_unasked was (Some w) = was_equal was w
is_unasked (Some o) None = false
is_unasked None None = true

-- whether a file that was wanted may go unsaved depends on its bytes
abbrev pub tells_edits : Preserve → Bool
tells_edits preserves.None = false
tells_edits preserves.True = true
tells_edits preserves.RenameOld = true
tells_edits preserves.RenameNew = true
tells_edits preserves.Legacy = true
tells_edits preserves.Abandon = false
tells_edits preserves.InstallOnly = false

-- what becomes of a file with another payload depends on the bytes that stand there
abbrev pub weighs : Preserve → Bool
weighs preserves.None = false
weighs preserves.True = true
weighs preserves.RenameOld = true
weighs preserves.RenameNew = true
weighs preserves.Legacy = false
weighs preserves.Abandon = false
weighs preserves.InstallOnly = false

-- a file is wanted of which that is so
abbrev pub weighs_wanted : Option Wanted → Bool
weighs_wanted (Some (WantDir m)) = false
weighs_wanted (Some (WantFile payload m preserve)) = weighs preserve
weighs_wanted (Some (WantLink target)) = false
weighs_wanted (Some (WantHard to)) = false
weighs_wanted None = false

-- the payload of a file that is wanted where none was
abbrev pub first_payload : Option Wanted → Option (List ℕ)
first_payload (Some (WantDir m)) = None
first_payload (Some (WantFile payload m preserve)) = Some payload
first_payload (Some (WantLink target)) = None
first_payload (Some (WantHard to)) = None
first_payload None = None

-- the payload that counts as the same, where a rule asks whether a file that stands has it
abbrev pub known_payload : Option Wanted → Option Wanted → Option (List ℕ)
known_payload (Some (WantDir m)) new = first_payload new
known_payload (Some (WantFile was m preserve)) new = cond (tells_edits preserve || weighs_wanted new) (Some was) None
known_payload (Some (WantLink target)) new = first_payload new
known_payload (Some (WantHard to)) new = first_payload new
known_payload None new = first_payload new

-- the payload of a file that is wanted where another was that may not go unsaved: whether what stands has it decides whether that is salvaged
abbrev pub fresh_payload : Option Wanted → Option Wanted → Bool → Option (List ℕ)
fresh_payload (Some (WantDir m)) new known = None
fresh_payload (Some (WantFile was m preserve)) new known = cond (spent known preserve) None (first_payload new)
fresh_payload (Some (WantLink target)) new known = None
fresh_payload (Some (WantHard to)) new known = None
fresh_payload None new known = None

-- these bytes are the payload that is asked for
abbrev pub has_payload : (List ℕ → List ℕ → Bool) → Option (List ℕ) → List ℕ → Bool
has_payload holds (Some payload) bytes = holds payload bytes
has_payload holds None bytes = false

-- a symbolic link is wanted that says this
abbrev pub wants_link : Option Wanted → List ℕ → Bool
wants_link (Some (WantDir m)) says = false
wants_link (Some (WantFile payload m preserve)) says = false
wants_link (Some (WantLink target)) says = same_path target says
wants_link (Some (WantHard to)) says = false
wants_link None says = false

-- a file as it is seen, where it has the payload that counts as the same or not
abbrev pub seen_file : (List ℕ → List ℕ → Bool) → Option Wanted → Option Wanted → ℕ → List ℕ → Bool → Stands
seen_file holds was new m bytes known = stands.File m known (has_payload holds (fresh_payload was new known) bytes)

-- what is seen of what stands
abbrev pub seen_of : (List ℕ → List ℕ → Bool) → Option Wanted → Option Wanted → Option Entry → Stands
seen_of holds was new (Some (Dir m f)) = stands.Dir m
seen_of holds was new (Some (File m bytes)) = seen_file holds was new m bytes (has_payload holds (known_payload was new) bytes)
seen_of holds was new (Some (Link says)) = stands.Link (wants_link new says)
seen_of holds was new (Some Other) = stands.Other
seen_of holds was new None = stands.Absent

-- what is learned of what stands
abbrev pub stands_of : (List ℕ → List ℕ → Bool) → Option Wanted → Option Wanted → Option Entry → Stands
stands_of holds was new e = cond (is_unasked was new) stands.Unasked (seen_of holds was new e)

-- a directory is seen
abbrev pub is_dir_seen : Stands → Bool
is_dir_seen stands.Unasked = false
is_dir_seen stands.Absent = false
is_dir_seen (stands.Dir m) = true
is_dir_seen (stands.File m known fresh) = false
is_dir_seen (stands.Link wanted) = false
is_dir_seen stands.Other = false

-- a file is seen
abbrev pub is_file_seen : Stands → Bool
is_file_seen stands.Unasked = false
is_file_seen stands.Absent = false
is_file_seen (stands.Dir m) = false
is_file_seen (stands.File m known fresh) = true
is_file_seen (stands.Link wanted) = false
is_file_seen stands.Other = false

-- a symbolic link is seen
abbrev pub is_link_seen : Stands → Bool
is_link_seen stands.Unasked = false
is_link_seen stands.Absent = false
is_link_seen (stands.Dir m) = false
is_link_seen (stands.File m known fresh) = false
is_link_seen (stands.Link wanted) = true
is_link_seen stands.Other = false

-- a symbolic link is seen that says what one that is wanted says
abbrev pub says_wanted : Stands → Bool
says_wanted stands.Unasked = false
says_wanted stands.Absent = false
says_wanted (stands.Dir m) = false
says_wanted (stands.File m known fresh) = false
says_wanted (stands.Link wanted) = wanted
says_wanted stands.Other = false

-- a file is seen that may go unsaved, where one with this preserve was wanted
abbrev pub is_spent_seen : Preserve → Stands → Bool
is_spent_seen preserve stands.Unasked = false
is_spent_seen preserve stands.Absent = false
is_spent_seen preserve (stands.Dir m) = false
is_spent_seen preserve (stands.File m known fresh) = spent known preserve
is_spent_seen preserve (stands.Link wanted) = false
is_spent_seen preserve stands.Other = false

-- what is seen, for the table of files
abbrev pub standing_seen : Stands → Standing
standing_seen stands.Unasked = NotFile
standing_seen stands.Absent = Absent
standing_seen (stands.Dir m) = NotFile
standing_seen (stands.File m known fresh) = cond known Same Different
standing_seen (stands.Link wanted) = NotFile
standing_seen stands.Other = NotFile

-- a file that is seen has the bytes of the file that is wanted, where it isn't given up
abbrev pub has_fresh : Option Wanted → Bool → Bool → Bool
has_fresh (Some (WantDir m)) known fresh = known
has_fresh (Some (WantFile was m preserve)) known fresh = fresh
has_fresh (Some (WantLink target)) known fresh = known
has_fresh (Some (WantHard to)) known fresh = known
has_fresh None known fresh = known
