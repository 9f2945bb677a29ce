-- How the program ends for words on the folders that they name.
use Rattle.std.specs.Prelude.{◌≡◌, ℕ, List, Result, Ok, Err, IsOk}
use Rattle.ips_outside.specs.Outside.{Outside}
use Rattle.ips_outside.specs.Running.{Running}
use Rattle.ips_outside.specs.Taking.{Taking}
use Rattle.ips_syntax.specs.Reading.{line_of_words}
use Rattle.ips_host.specs.declared.lock.Lock.TheVariants.{Free}
use Rattle.ips_host.specs.declared.lock.Held.{Held}
use Rattle.ips_host.specs.declared.lock.Unlocked.{Unlocked}
use Rattle.ips_host.specs.declared.lock.Unlocked.TheVariants.{Busy, Failed}
use Rattle.ips_pkg.specs.Ended.{EndsWith}
use Rattle.ips_pkg.specs.Locking.{lock_for}
use Rattle.ips_pkg.specs.Named.{IsImageOf, IsRepositoryOf}

-- The number is that of a run of the words at the moment, or memory was refused before anything was done.
pub data EndsOrStarves {F S P O : Type 0} (o : Outside F) (q : Outside S) (r : Running P) (t : Taking O) (words : List (List ℕ)) (moment : ℕ) (image image_now : F) (repository repository_now : S) (spawner spawner_now : P) (out out_now : O) (number : ℕ) : Type 0 where
  Ran : EndsWith o q r t words moment image image_now repository repository_now spawner spawner_now out out_now number → EndsOrStarves o q r t words moment image image_now repository repository_now spawner spawner_now out out_now number
  Starved : number ≡ 99 → (image_now ≡ image) × (repository_now ≡ repository) × (spawner_now ≡ spawner) × (out_now ≡ out) → EndsOrStarves o q r t words moment image image_now repository repository_now spawner spawner_now out out_now number

-- The words were run at the moment on objects, of which the image and the repository stand at the paths that the words name, and this is the number.
pub record EndsOn {F S P O : Type 0} (o : Outside F) (q : Outside S) (r : Running P) (t : Taking O) (image_root : F → List ℕ) (repository_root : S → List ℕ) (words : List (List ℕ)) (moment number : ℕ) : Type 0 where
  pub image : F
  pub image_now : F
  pub repository : S
  pub repository_now : S
  pub spawner : P
  pub spawner_now : P
  pub out : O
  pub out_now : O
  pub is_image : IsImageOf words (image_root image)
  pub is_repository : IsRepositoryOf words (repository_root repository)
  pub ends : EndsOrStarves o q r t words moment image image_now repository repository_now spawner spawner_now out out_now number

-- Under the lock that the words want the number is that of such a run, or memory was refused before anything was done.
pub data EndsLocked {F S P O : Type 0} (o : Outside F) (q : Outside S) (r : Running P) (t : Taking O) (image_root : F → List ℕ) (repository_root : S → List ℕ) (words : List (List ℕ)) (moment number : ℕ) : Type 0 where
  Worked : EndsOn o q r t image_root repository_root words moment number → EndsLocked o q r t image_root repository_root words moment number
  Spent : number ≡ 99 → EndsLocked o q r t image_root repository_root words moment number

-- The number where the lock isn't had: another program has one, or the host failed at it.
abbrev pub number_unlocked : Unlocked → ℕ
number_unlocked Busy = 7
number_unlocked (Failed why) = 1

-- What was found as the lock was asked for decides.
abbrev pub EndsFound : {F S P O : Type 0} → Outside F → Outside S → Running P → Taking O → (F → List ℕ) → (S → List ℕ) → List (List ℕ) → ℕ → Result Held Unlocked → ℕ → Type 0
EndsFound o q r t image_root repository_root words moment (Ok held) number = EndsLocked o q r t image_root repository_root words moment number
EndsFound o q r t image_root repository_root words moment (Err why) number = number ≡ number_unlocked why

-- With which number the program ends: memory was refused as the words were read; or it is as what was found decides, and something else than the lock was found only where the words want one.
pub data Ends {F S P O : Type 0} (o : Outside F) (q : Outside S) (r : Running P) (t : Taking O) (image_root : F → List ℕ) (repository_root : S → List ℕ) (words : List (List ℕ)) (moment number : ℕ) : Type 0 where
  Unread : number ≡ 99 → Ends o q r t image_root repository_root words moment number
  Found : (found : Result Held Unlocked) → (lock_for (line_of_words words) ≡ Free → IsOk found) → EndsFound o q r t image_root repository_root words moment found number → Ends o q r t image_root repository_root words moment number
