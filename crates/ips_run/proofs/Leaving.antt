-- What a refusal leaves.
use Rattle.std.proofs.Common.{◌≡◌, inl, inr, ⊎_elim, ℕ, Bool, true, false, not, List, refl, sym, ◌∙◌, subst}
use Rattle.ips_outside.specs.Image.{Image}
use Rattle.ips_outside.specs.Outside.{Outside, Reads, HasCause}
use Rattle.ips_outside.specs.Running.{Run}
use Rattle.ips_outside.proofs.Reading.{reads_then}
use Rattle.ips_steps.proofs.Lists.{clash}
use Rattle.ips_kinds.specs.Tallies.{Carrier}
use Rattle.ips_commit.specs.Answers.{IsToldOrMasked}
use Rattle.ips_commit.specs.Staging.{IsCleared}
use Rattle.ips_commit.proofs.Masked.{told_alike, reads_with}
use Rattle.ips_history.specs.Directories.{creates, with_directories, image_for, CanHaveDirectories}
use Rattle.ips_history.specs.declared.effect.Effect.{Effect}
use Rattle.ips_run.specs.declared.operation.Decision.{Decision}
use Rattle.ips_run.specs.declared.ending.Ending.{Ending}
use Rattle.ips_run.specs.declared.ending.Ending.TheVariants as ending
use Rattle.ips_run.specs.Ending.{is_refused, is_failed, is_withdrawn}
use Rattle.ips_run.specs.Comes.{IsBackTo, Leaves, Comes, Unopened, Unfinished, Back, NotDirectory, Unready, Carried}
use Rattle.ips_run.proofs.Directories.{none_to_make, directories_stand}

-- what is withdrawn isn't told as a fault of the folder
withdrawn_unfailed : {T : Type 0} (x : Ending T) → is_withdrawn x ≡ true → (is_refused x ≡ true) × (is_failed x ≡ false)
withdrawn_unfailed (ending.BadPayload name fault) is = (refl, refl)
withdrawn_unfailed (ending.ActuatorFailed after words status) is = (is, refl)
withdrawn_unfailed (ending.SpawnFault after) is = (is, refl)
withdrawn_unfailed (ending.Done told) is = cc
withdrawn_unfailed (ending.Shown told) is = cc
withdrawn_unfailed (ending.Refused told) is = cc
withdrawn_unfailed ending.NothingToDo is = cc
withdrawn_unfailed ending.Unfinished is = cc
withdrawn_unfailed (ending.BadJournal line) is = cc
withdrawn_unfailed (ending.Recovered forward) is = cc
withdrawn_unfailed (ending.NotDirectory path) is = cc
withdrawn_unfailed ending.SourceFault is = cc
withdrawn_unfailed (ending.FolderFault unfinished) is = cc
withdrawn_unfailed ending.OutOfMemory is = cc

module _ {T : Type 0} (effect : Effect) (held left : Image) (x : Ending T) where
  -- nothing stands where staging writes, unless a call failed
  pub leaves_nothing : (is_refused x ≡ true → is_failed x ≡ false → IsCleared left) → Leaves effect held left x
  leaves_nothing cleared = record {
    withdrawn = λ is. let (refused, unfailed) = withdrawn_unfailed x is in cleared refused unfailed;
    no_more = λ refused unfailed. inl (cleared refused unfailed);
  }

  -- nothing was staged, and the image is as before
  pub leaves_same : is_withdrawn x ≡ false → left ≡ held → Leaves effect held left x
  leaves_same unstaged same = record { withdrawn = λ is. absurd (clash (is_withdrawn x) is unstaged); no_more = λ refused unfailed. inr (inl same) }

  -- a call failed
  pub leaves_some : is_withdrawn x ≡ false → is_failed x ≡ true → Leaves effect held left x
  leaves_some unstaged failed = record { withdrawn = λ is. absurd (clash (is_withdrawn x) is unstaged); no_more = λ refused unfailed. absurd (clash (is_failed x) failed unfailed) }

  -- the directories of the records were made before
  pub leaves_made : creates effect ≡ true → CanHaveDirectories held → Leaves effect (with_directories held) left x → Leaves effect held left x
  leaves_made is can leaves = record {
    withdrawn = leaves.withdrawn;
    no_more = λ refused unfailed. ⊎_elim (λ cleared. inl cleared) (λ before. inr (inr (⊎_elim (λ same. same) (λ made. made ∙ for (with_directories held) ∙ again) before ∙ sym (for held)))) (leaves.no_more refused unfailed);
  }
    where
      for : (t : Image) → image_for effect t ≡ with_directories t
      for t = rw is refl

      again : with_directories (with_directories held) ≡ with_directories held
      again = let both = directories_stand held can in none_to_make (with_directories held) both.0 both.1

-- an open gate, or what is left behind a closed one
back_leaves : {T : Type 0} (effect : Effect) (held left : Image) (old now : List Carrier) (x : Ending T) → IsBackTo held left old now x → Leaves effect held left x
back_leaves effect held left old now (ending.Recovered forward) back = record { withdrawn = λ is. cc; no_more = λ refused unfailed. cc }
back_leaves effect held left old now (ending.BadJournal line) back = record { withdrawn = λ is. cc; no_more = λ refused unfailed. cc }
back_leaves effect held left old now (ending.FolderFault unfinished) back = record { withdrawn = λ is. cc; no_more = λ refused unfailed. absurd (clash (not unfinished) refused unfailed) }
back_leaves effect held left old now ending.OutOfMemory back = leaves_same effect held left ending.OutOfMemory refl back.0
back_leaves effect held left old now (ending.Done told) back = absurd back
back_leaves effect held left old now (ending.Shown told) back = absurd back
back_leaves effect held left old now (ending.Refused told) back = absurd back
back_leaves effect held left old now ending.NothingToDo back = absurd back
back_leaves effect held left old now ending.Unfinished back = absurd back
back_leaves effect held left old now (ending.NotDirectory path) back = absurd back
back_leaves effect held left old now (ending.BadPayload name fault) back = absurd back
back_leaves effect held left old now (ending.ActuatorFailed after words status) back = absurd back
back_leaves effect held left old now (ending.SpawnFault after) back = absurd back
back_leaves effect held left old now ending.SourceFault back = absurd back

-- each ending that comes
pub comes_leaving : {T : Type 0} {effect : Effect} {decides : Decision T → Type 0} {tells : Bool} {repository held left : Image} {old now : List Carrier} {Ran : List Run → Type 0} (x : Ending T)
    → Comes effect decides tells repository held left old now Ran x → Leaves effect held left x
comes_leaving x (Unopened why leaves same ran) = leaves
comes_leaving {effect = effect} {held = held} {left = left} x (Unfinished unfixed there kept same ran) = leaves_same effect held left ending.Unfinished refl kept
comes_leaving {effect = effect} {held = held} {left = left} {old = old} {now = now} x (Back fixing stopped back ran) = back_leaves effect held left old now x back
comes_leaving {effect = effect} {held = held} {left = left} x (NotDirectory {path = path} creating shut way kept same ran) = leaves_same effect held left (ending.NotDirectory path) refl kept
comes_leaving x (Unready decide why leaves same ran) = leaves
comes_leaving x (Carried c changes decide decided intact leaves carried) = leaves

-- ---- a source that is read on

-- behind calls that didn't fail
pub reads_on : {S : Type 0} (q : Outside S) (old mid new : S) (own other own' other' : Type 0) → Reads q old mid ⊥ → Reads q mid new (IsToldOrMasked (q.faults mid) (q.faults new) own other)
    → (own → own') → (own' → own) → (other → other') → Reads q old new (IsToldOrMasked (q.faults old) (q.faults new) own' other')
reads_on q old mid new own other own' other' first last to from on =
    let same = first.call.cause.steady (λ never. never) in
    reads_with q old new _ _ (reads_then q old mid new _ _ first last (λ is. is) (λ is. is))
    (subst (λ (n : ℕ). HasCause n (q.faults new) (IsToldOrMasked n (q.faults new) own' other')) same (told_alike (q.faults mid) (q.faults new) own other own' other' last.call.cause to from on))
