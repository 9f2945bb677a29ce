-- How the program ends where it makes a repository or publishes.
use Rattle.std.specs.Prelude.{◌≡◌, ◌∷◌, ℕ, List, Some, Result, Ok, Err, IsOk, codes, slice_get}
use Rattle.ips_outside.specs.Outside.{Outside}
use Rattle.ips_outside.specs.Taking.{Taking}
use Rattle.ips_kinds.specs.Tallies.{Carrier}
use Rattle.ips_files.specs.Telling.{Tells}
use Rattle.ips_host.specs.declared.lock.Lock.{Lock}
use Rattle.ips_host.specs.declared.lock.Lock.TheVariants.{Free, Shared, Exclusive}
use Rattle.ips_host.specs.declared.lock.Held.{Held}
use Rattle.ips_host.specs.declared.lock.Unlocked.{Unlocked}
use Rattle.ips_send_words.specs.Words.{Asks}
use Rattle.ips_send_words.specs.declared.request.Request.{Request}
use Rattle.ips_send_report.specs.Report.{send_text, exit_number}
use Rattle.ips_send_report.specs.declared.outcome.SendStatus.{SendStatus}
use Rattle.ips_publish.specs.Sent.{IsSent}
use Rattle.ips_publish.specs.Told.{named_publisher}
use Rattle.ips_pkg.specs.Ends.{number_unlocked}
use Rattle.ips_pkg.specs.Mogrified.{IsThird}

-- The first word asks to make a repository or to publish.
abbrev pub AsksToSend : List (List ℕ) → Type 0
AsksToSend words = slice_get words 0 ≡ Some (codes "send")

-- Where there is a fifth word, this is the path that it is.
abbrev pub IsFifth : List (List ℕ) → List ℕ → Type 0
IsFifth words root = (name target_option target proto_option path : List ℕ) (rest : List (List ℕ)) → words ≡ name ∷ target_option ∷ target ∷ proto_option ∷ path ∷ rest → root ≡ path

-- The lock on the repository that the words want: one for the program alone where they ask for something, and else none.
abbrev pub IsLockOf : ℕ → List (List ℕ) → Lock → Type 0
IsLockOf moment words Free = (request : Request) → Asks moment words request → ⊥
IsLockOf moment words Shared = ⊥
IsLockOf moment words Exclusive = (request : Request) × Asks moment words request

-- The exit status is that of an outcome: it is what a run of the words at the moment comes to, its report is written, and where that wasn't written whole the status is 1.
pub record SendsWith {S F O : Type 0} (q : Outside S) (o : Outside F) (t : Taking O) (words : List (List ℕ)) (moment : ℕ) (proto proto_now : S) (target target_now : F) (out out_now : O) (number : ℕ) : Type 0 where
  pub counted : List Carrier
  pub counted_now : List Carrier
  pub status : SendStatus
  pub sent : IsSent q o words moment proto proto_now target target_now counted counted_now status.outcome
  pub tells : Tells t (send_text (named_publisher words) status.outcome) out out_now status.told
  pub is : number ≡ exit_number status

-- The number is that of a run of the words at the moment, or memory was refused before anything was done.
pub data SendsOrStarves {S F O : Type 0} (q : Outside S) (o : Outside F) (t : Taking O) (words : List (List ℕ)) (moment : ℕ) (proto proto_now : S) (target target_now : F) (out out_now : O) (number : ℕ) : Type 0 where
  Ran : SendsWith q o t words moment proto proto_now target target_now out out_now number → SendsOrStarves q o t words moment proto proto_now target target_now out out_now number
  Starved : number ≡ 99 → (proto_now ≡ proto) × (target_now ≡ target) × (out_now ≡ out) → SendsOrStarves q o t words moment proto proto_now target target_now out out_now number

-- The words were run at the moment on objects, of which the repository stands at the path of the third word, and what is published at that of the fifth; and this is the number.
pub record SendsOn {S F O : Type 0} (q : Outside S) (o : Outside F) (t : Taking O) (proto_root : S → List ℕ) (target_root : F → List ℕ) (words : List (List ℕ)) (moment number : ℕ) : Type 0 where
  pub proto : S
  pub proto_now : S
  pub target : F
  pub target_now : F
  pub out : O
  pub out_now : O
  pub is_target : IsThird words (target_root target)
  pub is_proto : IsFifth words (proto_root proto)
  pub ends : SendsOrStarves q o t words moment proto proto_now target target_now out out_now number

-- Under the lock that the words want the number is that of such a run, or memory was refused before anything was done.
pub data SendsLocked {S F O : Type 0} (q : Outside S) (o : Outside F) (t : Taking O) (proto_root : S → List ℕ) (target_root : F → List ℕ) (words : List (List ℕ)) (moment number : ℕ) : Type 0 where
  Worked : SendsOn q o t proto_root target_root words moment number → SendsLocked q o t proto_root target_root words moment number
  Spent : number ≡ 99 → SendsLocked q o t proto_root target_root words moment number

-- What was found as the lock was asked for decides.
abbrev pub SendsFound : {S F O : Type 0} → Outside S → Outside F → Taking O → (S → List ℕ) → (F → List ℕ) → List (List ℕ) → ℕ → Result Held Unlocked → ℕ → Type 0
SendsFound q o t proto_root target_root words moment (Ok held) number = SendsLocked q o t proto_root target_root words moment number
SendsFound q o t proto_root target_root words moment (Err why) number = number ≡ number_unlocked why

-- With which number the program ends: memory was refused as the words were read; or it is as what was found decides, and something else than the lock was found only where the words want one.
pub data Sends {S F O : Type 0} (q : Outside S) (o : Outside F) (t : Taking O) (proto_root : S → List ℕ) (target_root : F → List ℕ) (words : List (List ℕ)) (moment number : ℕ) : Type 0 where
  Unread : number ≡ 99 → Sends q o t proto_root target_root words moment number
  Found : (lock : Lock) → IsLockOf moment words lock → (found : Result Held Unlocked) → (lock ≡ Free → IsOk found) → SendsFound q o t proto_root target_root words moment found number
      → Sends q o t proto_root target_root words moment number
