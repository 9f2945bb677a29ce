-- What comes behind the look at the gate, by what was found there.
use Rattle.std.proofs.Common.{◌≡◌, ◌≢◌, inl, inr, true, false, IsTrue, IsFalse, None, refl}
use Rattle.ips_outside.specs.Image.{Image}
use Rattle.ips_steps.specs.Private.{gate_name}
use Rattle.ips_commit.specs.Pending.{IsPending}
use Rattle.ips_commit.specs.declared.found.Pending.{Pending}
use Rattle.ips_commit.specs.declared.found.Pending.TheVariants as pending
use Rattle.ips_history.specs.Directories.{shows, creates, fixes}
use Rattle.ips_history.specs.declared.effect.Effect.{Effect}
use Rattle.ips_history.specs.declared.effect.Effect.TheVariants as effect
use Rattle.ips_run.specs.declared.next.Next.TheVariants as next
use Rattle.ips_run.specs.Comes.{IsStopped, IsToDecide}
use Rattle.ips_commit.proofs.Leftovers.{bare_shut}
use Rattle.ips_run.specs.Phases.{next_of}

pub refused_of : (t : Image) (n : Effect) (p : Pending) → IsPending t p → next_of n p ≡ next.Refuse → IsFalse (fixes n) × (t.look gate_name ≢ None)
refused_of t effect.Shows pending.Nothing found is = cc
refused_of t effect.Shows pending.Leftover found is = cc
refused_of t effect.Shows pending.Open found is = (refl, found)
refused_of t effect.Changes pending.Nothing found is = cc
refused_of t effect.Changes pending.Leftover found is = cc
refused_of t effect.Changes pending.Open found is = (refl, found)
refused_of t effect.Creates pending.Nothing found is = cc
refused_of t effect.Creates pending.Leftover found is = cc
refused_of t effect.Creates pending.Open found is = (refl, found)
refused_of t effect.Fixes pending.Nothing found is = cc
refused_of t effect.Fixes pending.Leftover found is = cc
refused_of t effect.Fixes pending.Open found is = cc

pub stopped_of : (t : Image) (n : Effect) (p : Pending) → IsPending t p → next_of n p ≡ next.Recover → IsTrue (fixes n) × IsStopped t
stopped_of t effect.Shows pending.Nothing found is = cc
stopped_of t effect.Shows pending.Leftover found is = cc
stopped_of t effect.Shows pending.Open found is = cc
stopped_of t effect.Changes pending.Nothing found is = cc
stopped_of t effect.Changes pending.Leftover found is = cc
stopped_of t effect.Changes pending.Open found is = cc
stopped_of t effect.Creates pending.Nothing found is = cc
stopped_of t effect.Creates pending.Leftover found is = cc
stopped_of t effect.Creates pending.Open found is = cc
stopped_of t effect.Fixes pending.Nothing found is = cc
stopped_of t effect.Fixes pending.Leftover found is = (refl, inr found)
stopped_of t effect.Fixes pending.Open found is = (refl, inl found)

pub shown_of : (t : Image) (n : Effect) (p : Pending) → IsPending t p → next_of n p ≡ next.Show → IsToDecide n t
shown_of t effect.Shows pending.Nothing found is = (bare_shut t found, λ f. found, λ c. cc)
shown_of t effect.Shows pending.Leftover found is = (found.0, λ f. cc, λ c. cc)
shown_of t effect.Shows pending.Open found is = cc
shown_of t effect.Changes pending.Nothing found is = cc
shown_of t effect.Changes pending.Leftover found is = cc
shown_of t effect.Changes pending.Open found is = cc
shown_of t effect.Creates pending.Nothing found is = cc
shown_of t effect.Creates pending.Leftover found is = cc
shown_of t effect.Creates pending.Open found is = cc
shown_of t effect.Fixes pending.Nothing found is = cc
shown_of t effect.Fixes pending.Leftover found is = cc
shown_of t effect.Fixes pending.Open found is = cc

pub changed_of : (t : Image) (n : Effect) (p : Pending) → IsPending t p → next_of n p ≡ next.Change → IsToDecide n t
changed_of t effect.Shows pending.Nothing found is = cc
changed_of t effect.Shows pending.Leftover found is = cc
changed_of t effect.Shows pending.Open found is = cc
changed_of t effect.Changes pending.Nothing found is = (bare_shut t found, λ f. found, λ c. cc)
changed_of t effect.Changes pending.Leftover found is = (found.0, λ f. cc, λ c. cc)
changed_of t effect.Changes pending.Open found is = cc
changed_of t effect.Creates pending.Nothing found is = cc
changed_of t effect.Creates pending.Leftover found is = cc
changed_of t effect.Creates pending.Open found is = cc
changed_of t effect.Fixes pending.Nothing found is = (bare_shut t found, λ f. found, λ c. cc)
changed_of t effect.Fixes pending.Leftover found is = cc
changed_of t effect.Fixes pending.Open found is = cc

pub created_of : (t : Image) (n : Effect) (p : Pending) → IsPending t p → next_of n p ≡ next.Create → IsTrue (creates n) × (t.look gate_name ≡ None)
created_of t effect.Shows pending.Nothing found is = cc
created_of t effect.Shows pending.Leftover found is = cc
created_of t effect.Shows pending.Open found is = cc
created_of t effect.Changes pending.Nothing found is = cc
created_of t effect.Changes pending.Leftover found is = cc
created_of t effect.Changes pending.Open found is = cc
created_of t effect.Creates pending.Nothing found is = (refl, bare_shut t found)
created_of t effect.Creates pending.Leftover found is = (refl, found.0)
created_of t effect.Creates pending.Open found is = cc
created_of t effect.Fixes pending.Nothing found is = cc
created_of t effect.Fixes pending.Leftover found is = cc
created_of t effect.Fixes pending.Open found is = cc

pub show_is : (n : Effect) (p : Pending) → next_of n p ≡ next.Show → (shows n ≡ true) × (creates n ≡ false)
show_is effect.Shows pending.Nothing is = (refl, refl)
show_is effect.Shows pending.Leftover is = (refl, refl)
show_is effect.Shows pending.Open is = cc
show_is effect.Changes pending.Nothing is = cc
show_is effect.Changes pending.Leftover is = cc
show_is effect.Changes pending.Open is = cc
show_is effect.Creates pending.Nothing is = cc
show_is effect.Creates pending.Leftover is = cc
show_is effect.Creates pending.Open is = cc
show_is effect.Fixes pending.Nothing is = cc
show_is effect.Fixes pending.Leftover is = cc
show_is effect.Fixes pending.Open is = cc

pub change_is : (n : Effect) (p : Pending) → next_of n p ≡ next.Change → (shows n ≡ false) × (creates n ≡ false)
change_is effect.Shows pending.Nothing is = cc
change_is effect.Shows pending.Leftover is = cc
change_is effect.Shows pending.Open is = cc
change_is effect.Changes pending.Nothing is = (refl, refl)
change_is effect.Changes pending.Leftover is = (refl, refl)
change_is effect.Changes pending.Open is = cc
change_is effect.Creates pending.Nothing is = cc
change_is effect.Creates pending.Leftover is = cc
change_is effect.Creates pending.Open is = cc
change_is effect.Fixes pending.Nothing is = (refl, refl)
change_is effect.Fixes pending.Leftover is = cc
change_is effect.Fixes pending.Open is = cc

pub recover_is : (n : Effect) (p : Pending) → next_of n p ≡ next.Recover → shows n ≡ false
recover_is effect.Shows pending.Nothing is = cc
recover_is effect.Shows pending.Leftover is = cc
recover_is effect.Shows pending.Open is = cc
recover_is effect.Changes pending.Nothing is = cc
recover_is effect.Changes pending.Leftover is = cc
recover_is effect.Changes pending.Open is = cc
recover_is effect.Creates pending.Nothing is = cc
recover_is effect.Creates pending.Leftover is = cc
recover_is effect.Creates pending.Open is = cc
recover_is effect.Fixes pending.Nothing is = cc
recover_is effect.Fixes pending.Leftover is = refl
recover_is effect.Fixes pending.Open is = refl

pub create_is : (n : Effect) (p : Pending) → next_of n p ≡ next.Create → (creates n ≡ true) × (shows n ≡ false)
create_is effect.Shows pending.Nothing is = cc
create_is effect.Shows pending.Leftover is = cc
create_is effect.Shows pending.Open is = cc
create_is effect.Changes pending.Nothing is = cc
create_is effect.Changes pending.Leftover is = cc
create_is effect.Changes pending.Open is = cc
create_is effect.Creates pending.Nothing is = (refl, refl)
create_is effect.Creates pending.Leftover is = (refl, refl)
create_is effect.Creates pending.Open is = cc
create_is effect.Fixes pending.Nothing is = cc
create_is effect.Fixes pending.Leftover is = cc
create_is effect.Fixes pending.Open is = cc
