-- No commit was begun.
use Rattle.std.proofs.Common.{◌≡◌, inl, inr, ⊎_elim, arith, ℕ, true, not, List, refl, ap, subst}
use Rattle.ips_text.proofs.Ancestry.{covers-self}
use Rattle.ips_outside.specs.Image.{Image}
use Rattle.ips_outside.specs.Running.{Run}
use Rattle.ips_outside.specs.State.{State, settled}
use Rattle.ips_outside.specs.Outside.{Outside, IsOutside}
use Rattle.ips_folder.specs.Calls.{Throughout}
use Rattle.ips_steps.specs.Steps.{Step}
use Rattle.ips_steps.specs.Private.{gate_name}
use Rattle.ips_steps.proofs.Lists.{clash}
use Rattle.ips_steps.proofs.PrivateNames.{gate_private}
use Rattle.ips_kinds.specs.Tallies.{Carrier}
use Rattle.ips_commit.specs.Pending.{IsBare, IsBehindGate, IsPending}
use Rattle.ips_commit.specs.Staging.{NoMoreReady}
use Rattle.ips_commit.specs.declared.found.Pending.{Pending}
use Rattle.ips_commit.proofs.OwnNames.{gate_unswept}
use Rattle.ips_history.specs.Directories.{fixes}
use Rattle.ips_history.specs.declared.effect.Effect.{Effect}
use Rattle.ips_run.specs.declared.operation.Decision.{Decision}
use Rattle.ips_run.specs.declared.operation.Decision.TheVariants as decision
use Rattle.ips_run.specs.declared.ending.Ending.{Ending}
use Rattle.ips_run.specs.declared.ending.Ending.TheVariants as ending
use Rattle.ips_run.specs.declared.next.Next.TheVariants as next
use Rattle.ips_run.specs.Ending.{is_failed, is_folder_fault, is_refused}
use Rattle.ips_run.specs.Comes.{IsCarriedTo, IsGivenUp}
use Rattle.ips_run.specs.Phases.{IsLeftReady, IsNotBefore, IsUnbegun, next_of}
use Rattle.ips_run.proofs.Nexts.{stopped_of}

-- a change that isn't staged
pub unbegun_behind : {F : Type 0} (o : Outside F) (sane : IsOutside o) (old new : F) → Throughout o old new (IsBehindGate (o.state old)) → NoMoreReady (o.state old) (o.state new) → IsUnbegun (o.state old) (o.state new)
unbegun_behind o sane old new run now = ⊎_elim (λ same. inl same) (λ w. inr (w.whole gate_name gate_unswept refl, now)) (run.each (o.state new) (sane.counts_now new (o.clock old) run.later))

-- the folder was read until then
pub unbegun_since : (old mid new : State) → mid ≡ old → IsUnbegun mid new → IsUnbegun old new
unbegun_since old mid new kept is = subst (λ (s : State). IsUnbegun s new) kept is

-- or the opening sync was made
pub unbegun_settled : (old mid new : State) → mid ≡ settled old → IsUnbegun mid new → IsUnbegun old new
unbegun_settled old mid new done is = ⊎_elim
    (λ same. inr (ap (λ (s : State). s.whole gate_name) same, inr (ap (λ (s : State). s.held) same)))
    (λ behind. inr behind)
    (unbegun_since (settled old) mid new done is)

pub unbegun_read : (old new : State) → new ≡ settled old → IsUnbegun old new
unbegun_read old new done = unbegun_settled old (settled old) new refl (inl done)

-- ---- what stood ready couldn't be taken away

-- a change that stands ready is told as unchanged only so
module _ {T : Type 0} (steps : List Step) (before behind : List (List (List ℕ))) (told : T) (old now : List Carrier) (Ran : List Run → Type 0) where
  pub given_up_of : (x : Ending T) → is_failed x ≡ true → IsCarriedTo steps before behind told old now Ran x → IsGivenUp steps before behind old now Ran
  given_up_of (ending.FolderFault unfinished) failed (inl (is, part)) = absurd (clash (not unfinished) failed (ap not is))
  given_up_of (ending.FolderFault unfinished) failed (inr (is, given_up)) = given_up
  given_up_of (ending.Done done) failed is = cc
  given_up_of (ending.ActuatorFailed after words status) failed is = cc
  given_up_of (ending.SpawnFault after) failed is = cc
  given_up_of (ending.Shown shown) failed is = cc
  given_up_of (ending.Refused refused) failed is = cc
  given_up_of ending.NothingToDo failed is = cc
  given_up_of ending.Unfinished failed is = cc
  given_up_of (ending.BadJournal line) failed is = cc
  given_up_of (ending.Recovered forward) failed is = cc
  given_up_of (ending.BadPayload name fault) failed is = cc
  given_up_of (ending.NotDirectory path) failed is = cc
  given_up_of ending.SourceFault failed is = cc
  given_up_of ending.OutOfMemory failed is = cc

-- what is told as unchanged is a refusal, and the folder's fault
pub failed_refused : {T : Type 0} (x : Ending T) → is_failed x ≡ true → (is_refused x ≡ true) × (is_folder_fault x ≡ true)
failed_refused (ending.FolderFault unfinished) failed = (failed, refl)
failed_refused (ending.Done done) failed = cc
failed_refused (ending.ActuatorFailed after words status) failed = cc
failed_refused (ending.SpawnFault after) failed = cc
failed_refused (ending.Shown shown) failed = cc
failed_refused (ending.Refused refused) failed = cc
failed_refused ending.NothingToDo failed = cc
failed_refused ending.Unfinished failed = cc
failed_refused (ending.BadJournal line) failed = cc
failed_refused (ending.Recovered forward) failed = cc
failed_refused (ending.BadPayload name fault) failed = cc
failed_refused (ending.NotDirectory path) failed = cc
failed_refused ending.SourceFault failed = cc
failed_refused ending.OutOfMemory failed = cc

-- in a run that began earlier, of a decision on an image that is the same
pub left_since : {F T : Type 0} (o : Outside F) (D : Image → Decision T → Type 0) (before now : List Carrier) (Ran : List Run → Type 0) (old at new : F) (t u : Image) → t ≡ u → IsNotBefore o old at
    → IsLeftReady o (D t) before now Ran at new → IsLeftReady o (D u) before now Ran old new
left_since o D before now Ran old at new t u same since left = record {
  change = left.change;
  decided = subst (λ (i : Image). D i (decision.Change left.change)) same left.decided;
  ready = left.ready;
  after = left.after;
  staged = left.staged;
  since = record { time = omega (arith, since.time, left.since.time); faults = omega (arith, since.faults, left.since.faults); changes = omega (arith, since.changes, left.since.changes) };
  given_up = left.given_up;
  kept = left.kept;
  rose = left.rose;
}

-- where nothing stands at the updater's own names nothing is recovered
pub never_recovers : (t : Image) (n : Effect) (p : Pending) → IsPending t p → next_of n p ≡ next.Recover → (fixes n ≡ true → IsBare t) → ⊥
never_recovers t n p found is bare =
    let stopped = stopped_of t n p found is in
    let none = bare stopped.0 in
    ⊎_elim (λ there. there (none gate_name (gate_private gate_name (covers-self gate_name)))) (λ left. left.1.stands (none left.1.path left.1.is_own)) stopped.1
