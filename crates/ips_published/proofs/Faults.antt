-- How the faults of the parts are told.
use Rattle.std.proofs.Common.{◌≡◌, ◌⊎◌, inl, inr, true, false, Result, Ok, Err, refl, subst}
use Rattle.ips_text.specs.declared.refusal.Or.{Or}
use Rattle.ips_text.specs.declared.refusal.Or.TheVariants.{Bad, OutOfMemory}
use Rattle.ips_text.specs.Reading.{IfBad}
use Rattle.ips_outside.specs.Image.{Image}
use Rattle.ips_outside.specs.Outside.{Outside}
use Rattle.ips_commit.specs.declared.fault.CommitFault.{CommitFault}
use Rattle.ips_commit.specs.declared.fault.CommitFault.TheVariants as commit
use Rattle.ips_put.specs.Putting.{IsUnput}
use Rattle.ips_judged.specs.declared.verdict.Asked.{Asked}
use Rattle.ips_judged.specs.declared.verdict.JudgeFault.{JudgeFault}
use Rattle.ips_judged.specs.declared.verdict.JudgeFault.TheVariants as judge
use Rattle.ips_judged.specs.Answers.{IsAsked, SaysOfJudging}
use Rattle.ips_beside.specs.declared.fault.BesideFault.{BesideFault}
use Rattle.ips_beside.specs.declared.fault.BesideFault.TheVariants as beside
use Rattle.ips_beside.specs.Writing as writing
use Rattle.ips_published.specs.declared.fault.PublishFault.{PublishFault}
use Rattle.ips_published.specs.declared.fault.PublishFault.TheVariants.{Refused, Lost, SourceFault, FolderFault, BadJournal}
use Rattle.ips_published.specs.Ending.{Ending, IsStopped, IsFolderFault, IsRefusal, IsUnrefused, unjudged_as}
use Rattle.ips_published.specs.Answers.{Ends, IsRefused, IsUnjudged, StaysSame}
use Rattle.ips_published.specs.Writing.{IsLost, IsOfPutting, IsPutEnding, unput_as, unwritten_as}

-- it is answered so
abbrev pub Told : {E : Type 0} → Or E → E → Type 0
Told {E = E} e f = (let r : Result (Unit {0}) (Or E) = Err e in r) ≡ Err (Bad f)

-- it ends with this fault
abbrev pub ends : Or PublishFault → Ending
ends e = Err e

-- ---- what is written beside

pub stopped_beside : (e : Or BesideFault) → (IsLost (ends (unwritten_as e)) → ⊥) → IsStopped (ends (unwritten_as e))
stopped_beside (Bad (beside.Lost text)) kept = absurd (kept tt)
stopped_beside (Bad beside.SourceFault) kept = tt
stopped_beside (Bad beside.FolderFault) kept = refl
stopped_beside OutOfMemory kept = tt

pub lost_beside : (e : Or BesideFault) → IsLost (ends (unwritten_as e)) → writing.IsLost {T = Unit {0}} (Err e)
lost_beside (Bad (beside.Lost text)) lost = tt
lost_beside (Bad beside.SourceFault) lost = absurd lost
lost_beside (Bad beside.FolderFault) lost = absurd lost
lost_beside OutOfMemory lost = absurd lost

pub unrefused_beside : (e : Or BesideFault) → IfBad (ends (unwritten_as e)) IsUnrefused
unrefused_beside (Bad (beside.Lost text)) = tt
unrefused_beside (Bad beside.SourceFault) = tt
unrefused_beside (Bad beside.FolderFault) = tt
unrefused_beside OutOfMemory = tt

pub source_to : (e : Or BesideFault) → Told e beside.SourceFault → Told (unwritten_as e) SourceFault
source_to (Bad (beside.Lost text)) h = cc
source_to (Bad beside.SourceFault) h = refl
source_to (Bad beside.FolderFault) h = cc
source_to OutOfMemory h = cc

pub source_from : (e : Or BesideFault) → Told (unwritten_as e) SourceFault → Told e beside.SourceFault
source_from (Bad (beside.Lost text)) h = cc
source_from (Bad beside.SourceFault) h = refl
source_from (Bad beside.FolderFault) h = cc
source_from OutOfMemory h = cc

pub folder_to : (e : Or BesideFault) → Told e beside.FolderFault → IsFolderFault (ends (unwritten_as e))
folder_to (Bad (beside.Lost text)) h = cc
folder_to (Bad beside.SourceFault) h = cc
folder_to (Bad beside.FolderFault) h = tt
folder_to OutOfMemory h = cc

pub folder_from : (e : Or BesideFault) → IsFolderFault (ends (unwritten_as e)) → Told e beside.FolderFault
folder_from (Bad (beside.Lost text)) h = absurd h
folder_from (Bad beside.SourceFault) h = absurd h
folder_from (Bad beside.FolderFault) h = refl
folder_from OutOfMemory h = absurd h

-- ---- what is put

abbrev pub UnputTold : Or CommitFault → Type 0
UnputTold e = Told e commit.Unchanged ⊎ Told e commit.Unfinished

pub stopped_unput : (e : Or CommitFault) → IsStopped (ends (unput_as e)) → IsUnput {T = Unit {0}} (Err e)
stopped_unput (Bad commit.Unchanged) h = tt
stopped_unput (Bad commit.Unfinished) h = absurd (let bad : true ≡ false = h in cc)
stopped_unput (Bad (commit.BadJournal line)) h = absurd h
stopped_unput OutOfMemory h = tt

pub put_faults : (e : Or CommitFault) → IfBad {X = Unit {0}} (Err e) (λ why. (why ≡ commit.Unchanged) ⊎ (why ≡ commit.Unfinished)) → IfBad (ends (unput_as e)) (λ why. (why ≡ FolderFault false) ⊎ (why ≡ FolderFault true))
put_faults (Bad commit.Unchanged) h = inl refl
put_faults (Bad commit.Unfinished) h = inr refl
put_faults (Bad (commit.BadJournal line)) h = absurd (elim h [ inl one ↦ (let bad : commit.BadJournal line ≡ commit.Unchanged = one in cc) | inr two ↦ (let bad : commit.BadJournal line ≡ commit.Unfinished = two in cc) ])
put_faults OutOfMemory h = tt

pub put_own : (e : Or CommitFault) → IfBad (ends (unput_as e)) IsOfPutting
put_own (Bad commit.Unchanged) = tt
put_own (Bad commit.Unfinished) = tt
put_own (Bad (commit.BadJournal line)) = tt
put_own OutOfMemory = tt

pub put_to : (e : Or CommitFault) → UnputTold e → IsFolderFault (ends (unput_as e))
put_to (Bad commit.Unchanged) h = tt
put_to (Bad commit.Unfinished) h = tt
put_to (Bad (commit.BadJournal line)) h = elim h [ inl one ↦ cc | inr two ↦ cc ]
put_to OutOfMemory h = elim h [ inl one ↦ cc | inr two ↦ cc ]

pub put_from : (e : Or CommitFault) → IsFolderFault (ends (unput_as e)) → UnputTold e
put_from (Bad commit.Unchanged) h = inl refl
put_from (Bad commit.Unfinished) h = inr refl
put_from (Bad (commit.BadJournal line)) h = absurd h
put_from OutOfMemory h = absurd h

pub put_ending : (x : Ending) → IfBad x (λ why. (why ≡ FolderFault false) ⊎ (why ≡ FolderFault true)) → IsPutEnding x
put_ending (Ok done) h = tt
put_ending (Err (Bad (Refused r))) h = elim h [ inl one ↦ cc | inr two ↦ cc ]
put_ending (Err (Bad (Lost text))) h = elim h [ inl one ↦ cc | inr two ↦ cc ]
put_ending (Err (Bad SourceFault)) h = elim h [ inl one ↦ cc | inr two ↦ cc ]
put_ending (Err (Bad (FolderFault unfinished))) h = tt
put_ending (Err (Bad (BadJournal line))) h = elim h [ inl one ↦ cc | inr two ↦ cc ]
put_ending (Err OutOfMemory) h = tt

pub put_kept : (x : Ending) → IfBad x IsOfPutting → IsLost x → ⊥
put_kept (Ok done) h lost = lost
put_kept (Err (Bad (Refused r))) h lost = lost
put_kept (Err (Bad (Lost text))) h lost = h
put_kept (Err (Bad SourceFault)) h lost = lost
put_kept (Err (Bad (FolderFault unfinished))) h lost = lost
put_kept (Err (Bad (BadJournal line))) h lost = lost
put_kept (Err OutOfMemory) h lost = lost

pub put_unrefused : (x : Ending) → IfBad x IsOfPutting → IfBad x IsUnrefused
put_unrefused (Ok done) h = tt
put_unrefused (Err (Bad (Refused r))) h = h
put_unrefused (Err (Bad (Lost text))) h = tt
put_unrefused (Err (Bad SourceFault)) h = tt
put_unrefused (Err (Bad (FolderFault unfinished))) h = tt
put_unrefused (Err (Bad (BadJournal line))) h = tt
put_unrefused (Err OutOfMemory) h = tt

pub put_source : (x : Ending) → IfBad x IsOfPutting → x ≡ Err (Bad SourceFault) → ⊥
put_source x h is = subst (λ (y : Ending). IfBad y IsOfPutting) is h

-- ---- what is judged

pub ends_unjudged : {F : Type 0} (o : Outside F) (proto : Image) (a : Asked) (is : IsAsked a) (old new : F) (X : Type 0) (e : Or JudgeFault) → IfBad {X = X} (Err e) (SaysOfJudging proto (o.state old).held a) → StaysSame o old new
    → Ends o proto a is old new (ends (unjudged_as e))
ends_unjudged o proto a is old new X (Bad (judge.Refused r)) says same = IsRefused r says same
ends_unjudged o proto a is old new X (Bad judge.SourceFault) says same = IsUnjudged (Err (Bad SourceFault)) tt same
ends_unjudged o proto a is old new X (Bad judge.FolderFault) says same = IsUnjudged (Err (Bad (FolderFault false))) refl same
ends_unjudged o proto a is old new X OutOfMemory says same = IsUnjudged (Err OutOfMemory) tt same

-- this is so of each fault
pub any_bad : (x : Ending) (P : PublishFault → Type 0) → ((why : PublishFault) → P why) → IfBad x P
any_bad (Ok done) P all = tt
any_bad (Err (Bad why)) P all = all why
any_bad (Err OutOfMemory) P all = tt

pub not_refused : (Q : Type 0) (x : Ending) → IfBad x IsUnrefused → IfBad x (λ why. IsRefusal why → Q)
not_refused Q (Ok done) h = tt
not_refused Q (Err (Bad (Refused r))) h = absurd h
not_refused Q (Err (Bad (Lost text))) h = λ refusal. absurd refusal
not_refused Q (Err (Bad SourceFault)) h = λ refusal. absurd refusal
not_refused Q (Err (Bad (FolderFault unfinished))) h = λ refusal. absurd refusal
not_refused Q (Err (Bad (BadJournal line))) h = λ refusal. absurd refusal
not_refused Q (Err OutOfMemory) h = tt

module _ (X : Type 0) where
  abbrev pub Judged : Or JudgeFault → JudgeFault → Type 0
  Judged e f = (let r : Result X (Or JudgeFault) = Err e in r) ≡ Err (Bad f)

  pub judge_source_to : (e : Or JudgeFault) → Judged e judge.SourceFault → Told (unjudged_as e) SourceFault
  judge_source_to (Bad (judge.Refused r)) h = cc
  judge_source_to (Bad judge.SourceFault) h = refl
  judge_source_to (Bad judge.FolderFault) h = cc
  judge_source_to OutOfMemory h = cc

  pub judge_source_from : (e : Or JudgeFault) → Told (unjudged_as e) SourceFault → Judged e judge.SourceFault
  judge_source_from (Bad (judge.Refused r)) h = cc
  judge_source_from (Bad judge.SourceFault) h = refl
  judge_source_from (Bad judge.FolderFault) h = cc
  judge_source_from OutOfMemory h = cc

  pub judge_folder_to : (e : Or JudgeFault) → Judged e judge.FolderFault → IsFolderFault (ends (unjudged_as e))
  judge_folder_to (Bad (judge.Refused r)) h = cc
  judge_folder_to (Bad judge.SourceFault) h = cc
  judge_folder_to (Bad judge.FolderFault) h = tt
  judge_folder_to OutOfMemory h = cc

  pub judge_folder_from : (e : Or JudgeFault) → IsFolderFault (ends (unjudged_as e)) → Judged e judge.FolderFault
  judge_folder_from (Bad (judge.Refused r)) h = absurd h
  judge_folder_from (Bad judge.SourceFault) h = absurd h
  judge_folder_from (Bad judge.FolderFault) h = refl
  judge_folder_from OutOfMemory h = absurd h
