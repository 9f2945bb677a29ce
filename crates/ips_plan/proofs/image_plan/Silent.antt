-- A request in which nothing is said of any path.
use Rattle.std.proofs.Common.{ℕ, false, List, [], None, refl}
use Rattle.std.specs.List.Sorted.{IsStrictlySortedBy}
use Rattle.ips_outside.specs.Image.{Image}
use Rattle.ips_change.specs.survey.Tables.{AreSpoken}
use Rattle.ips_after.specs.Request.{IsRequest, Want}
use Rattle.ips_change.specs.wanted.Named.{is_payload_of}
use Rattle.ips_due.specs.Due.{Due, FitsAccounts, IsDue, IsOverOf}
use Rattle.ips_due.proofs.Asking as asking
use Rattle.ips_plan.specs.image_plan.Accounts.{nothing_said, silent_request}
use Rattle.ips_plan.specs.image_plan.Between.{AreMeant}
use Rattle.ips_plan.specs.declared.image_plan.between.Between.{Between}

-- nothing is due
abbrev no_due : Due
no_due = record { accounts = []; records = []; renewed = []; folders = []; gone = [] }

none_due : IsDue no_due
none_due = record { accounts = λ q h. cc; own = λ q h. cc; flat = λ p q below h. cc }

none_over : (bytes : List ℕ → List ℕ) (t : Image) → IsOverOf bytes is_payload_of no_due t nothing_said
unfolding IsStrictlySortedBy
none_over bytes t = record { at = λ q. refl; accounts = λ q. refl; keyed = λ q h. cc; closed = λ p q below h. cc; only = λ p h. cc; by_bytes = tt }

none_fits : (w : Want) → FitsAccounts no_due w
none_fits w = record { files = λ q a h. cc; above = λ p q a below h. cc }

-- it is a request such as the laws of the image after ask for
pub silent_good : (b : Between) → AreMeant b → (bytes : List ℕ → List ℕ) → IsRequest (silent_request b.was.now b.is.now bytes)
silent_good b m bytes =
    let over = none_over bytes empty in
    asking.is_asked _ _ _ _ _ _ b.was.now b.is.now m.old m.new bytes is_payload_of no_due empty nothing_said none_due over (none_fits _) (asking.leaves _ _ _ _ _ _ b.was.now b.is.now m.old m.new bytes is_payload_of no_due empty nothing_said none_due over (λ q below h. cc))
  where
    empty : Image
    empty = record { look = λ q. None; same = λ p q. false }

pub silent_spoken : AreSpoken nothing_said []
silent_spoken = record { paths = refl; said = refl; none_else = λ q h. refl }
