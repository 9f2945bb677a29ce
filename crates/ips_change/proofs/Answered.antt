-- What the keep table answers by what is seen.
use Rattle.std.proofs.Common.{◌≡◌, ℕ, Bool, true, false, cond, not, ◌||◌, List, Option, Some, None, refl}
use Rattle.ips_text.specs.Ancestry.{same_path}
use Rattle.ips_outside.specs.Image.{Entry, Dir, File, Link, Other}
use Rattle.ips_action.specs.declared.action.Preserve.{Preserve}
use Rattle.ips_action.specs.declared.action.Preserve.TheVariants as preserves
use Rattle.ips_preserve.specs.declared.case.Case.{Case}
use Rattle.ips_preserve.specs.declared.case.Event.{Event}
use Rattle.ips_preserve.specs.declared.case.Event.TheVariants.{Update, Removal}
use Rattle.ips_preserve.specs.declared.case.Standing.{Standing}
use Rattle.ips_preserve.specs.declared.case.Standing.TheVariants.{Same, Different}
use Rattle.ips_preserve.specs.Keep.{keep}
use Rattle.ips_after.specs.After as after
use Rattle.ips_after.specs.Request.{Request, WantDir, WantFile, WantHard, WantLink, Wanted}
use Rattle.ips_change.specs.wanted.Named.{is_payload_of}
use Rattle.ips_change.specs.Stands.{has_payload, seen_of, standing_seen, tells_edits, weighs}
use Rattle.ips_change.specs.Told.{naming}

abbrev pub case_of : Preserve → Event → Standing → Bool → Case
case_of preserve event standing changed = record { preserve = preserve; event = event; standing = standing; changed = changed }

-- at an update the bytes count only where they are weighed
one_row : (preserve : Preserve) (changed x : Bool) → weighs preserve ≡ false → keep (case_of preserve Update Different changed) ≡ keep (case_of preserve Update (cond x Same Different) changed)
one_row preserve false true h = refl
one_row preserve false false h = refl
one_row preserve true false h = refl
one_row preserves.None true true h = refl
one_row preserves.True true true h = cc
one_row preserves.RenameOld true true h = cc
one_row preserves.RenameNew true true h = cc
one_row preserves.Legacy true true h = refl
one_row preserves.Abandon true true h = refl
one_row preserves.InstallOnly true true h = refl

unweighed : (a b : Bool) → (a || b) ≡ false → b ≡ false
unweighed true b h = cc
unweighed false b h = h

updated : (holds : List ℕ → List ℕ → Bool) (was bytes : List ℕ) (preserve : Preserve) (changed weighed : Bool) → (weighed ≡ false → weighs preserve ≡ false)
    → keep (case_of preserve Update (cond (has_payload holds (cond weighed (Some was) None) bytes) Same Different) changed) ≡ keep (case_of preserve Update (cond (holds was bytes) Same Different) changed)
updated holds was bytes preserve changed true h = refl
updated holds was bytes preserve changed false h = one_row preserve changed (holds was bytes) (h refl)

-- for a file that is wanted
pub answered : (r : Request) (was : Option Wanted) (payload : List ℕ) (m : ℕ) (preserve : Preserve) (e : Option Entry)
    → keep (case_of preserve (after.event_of was) (standing_seen (seen_of is_payload_of was (Some (WantFile payload m preserve)) e)) (after.has_new_payload was payload)) ≡ after.answer_at (naming r) was payload preserve e
answered r was payload m preserve (Some (Dir n f)) = refl
answered r None payload m preserve (Some (File n b)) = refl
answered r (Some (WantDir x)) payload m preserve (Some (File n b)) = refl
answered r (Some (WantFile was x kept)) payload m preserve (Some (File n b)) =
    updated is_payload_of was b preserve (not (same_path was payload)) (tells_edits kept || weighs preserve) (unweighed (tells_edits kept) (weighs preserve))
answered r (Some (WantLink x)) payload m preserve (Some (File n b)) = refl
answered r (Some (WantHard x)) payload m preserve (Some (File n b)) = refl
answered r was payload m preserve (Some (Link g)) = refl
answered r was payload m preserve (Some Other) = refl
answered r was payload m preserve None = refl

-- without a weight, a file that is given up goes whatever its bytes are
dropped : (x : Bool) → keep (case_of preserves.None Removal Different false) ≡ keep (case_of preserves.None Removal (cond x Same Different) false)
dropped true = refl
dropped false = refl

stayed_as : (x : Bool) → keep (case_of preserves.Abandon Removal Different false) ≡ keep (case_of preserves.Abandon Removal (cond x Same Different) false)
stayed_as true = refl
stayed_as false = refl

stayed : (x : Bool) → keep (case_of preserves.InstallOnly Removal Different false) ≡ keep (case_of preserves.InstallOnly Removal (cond x Same Different) false)
stayed true = refl
stayed false = refl

file_gone : (holds : List ℕ → List ℕ → Bool) (was bytes : List ℕ) (preserve : Preserve)
    → keep (case_of preserve Removal (cond (has_payload holds (cond (tells_edits preserve || false) (Some was) None) bytes) Same Different) false) ≡ keep (case_of preserve Removal (cond (holds was bytes) Same Different) false)
file_gone holds was bytes preserves.None = dropped (holds was bytes)
file_gone holds was bytes preserves.True = refl
file_gone holds was bytes preserves.RenameOld = refl
file_gone holds was bytes preserves.RenameNew = refl
file_gone holds was bytes preserves.Legacy = refl
file_gone holds was bytes preserves.Abandon = stayed_as (holds was bytes)
file_gone holds was bytes preserves.InstallOnly = stayed (holds was bytes)

-- for a file that is no longer wanted
pub answered_gone : (r : Request) (was : List ℕ) (m : ℕ) (preserve : Preserve) (e : Option Entry)
    → keep (case_of preserve Removal (standing_seen (seen_of is_payload_of (Some (WantFile was m preserve)) None e)) false) ≡ after.answer_gone (naming r) was preserve e
answered_gone r was m preserve (Some (Dir n f)) = refl
answered_gone r was m preserve (Some (File n b)) = file_gone is_payload_of was b preserve
answered_gone r was m preserve (Some (Link g)) = refl
answered_gone r was m preserve (Some Other) = refl
answered_gone r was m preserve None = refl
