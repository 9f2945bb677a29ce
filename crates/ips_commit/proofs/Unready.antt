-- Why no list of steps stands ready.
use Rattle.std.proofs.Common.{◌≡◌, ◌⊎◌, inl, inr, ⊎_elim, ℕ, Bool, true, ◌||◌, List, Some, None, Result, Ok, Err, refl, sym, ◌∙◌, ap, subst}
use Rattle.ips_text.specs.Ancestry.{covers}
use Rattle.ips_text.proofs.Ancestry.{covers-self}
use Rattle.ips_outside.specs.Image.{Image, Agrees, file_bytes}
use Rattle.ips_outside.specs.Change.{with_entry_at}
use Rattle.ips_outside.specs.State.{State, MayChange, nowhere, written}
use Rattle.ips_outside.proofs.Placed.{look_placed}
use Rattle.ips_steps.specs.Steps.{stage_name}
use Rattle.ips_steps.specs.Private.{journal_name, mark_front, begins}
use Rattle.ips_steps.proofs.Lists.{clash}
use Rattle.ips_journal.specs.Text.{journal_text}
use Rattle.ips_text.specs.declared.refusal.Or.{Or}
use Rattle.ips_text.specs.declared.refusal.Or.TheVariants.{Bad, OutOfMemory}
use Rattle.ips_commit.specs.Answers.{IfStarved}
use Rattle.ips_commit.specs.Staging.{IsCleared, LeavesNothing, NothingReady, NoMoreReady}
use Rattle.ips_contents.specs.declared.fault.StageFault.{StageFault}
use Rattle.ips_contents.specs.declared.fault.StageFault.TheVariants as stage
use Rattle.ips_commit.proofs.Staged.{journal_staged, journal_is_swept}

-- nothing stands at the journal
pub no_journal : (s : State) → s.held.look journal_name ≡ None → NothingReady s
no_journal s none steps a staged = let text : None ≡ Some (journal_text steps) = sym (ap file_bytes none) ∙ staged.ready.journal in cc

-- the journal's name is touched
pub journal_touched : (s : State) → s.whole journal_name ≡ true → NothingReady s
journal_touched s is steps a staged = clash (s.whole journal_name) is (staged.safe.whole journal_name)

-- ---- the journal is made or taken away

module _ (p : List ℕ) (at : p ≡ journal_name) where
  covered : covers p journal_name ≡ true
  covered = ap (λ (x : List ℕ). covers x journal_name) at ∙ covers-self journal_name

  pub touched_by : (u : Image) (old new : State) → new ≡ written p u old → new.whole journal_name ≡ true
  touched_by u old new done = ap (λ (s : State). s.whole journal_name) done ∙ ap (λ (b : Bool). b || old.whole journal_name) covered

  -- a call that failed there
  pub failed_at : (old new : State) → MayChange (covers p) nowhere old new → (new ≡ old) ⊎ NothingReady new
  failed_at old new may = ⊎_elim (λ same. inl same)
      (λ changed. inr (journal_touched new (ap (λ (f : List ℕ → Bool). f journal_name) changed.whole ∙ ap (λ (b : Bool). b || old.whole journal_name) covered))) may

  pub not_made : (old new : State) → old.held.look journal_name ≡ None → MayChange (covers p) nowhere old new → NothingReady new
  not_made old new none may = ⊎_elim (λ same. no_journal new (ap (λ (s : State). s.held.look journal_name) same ∙ none)) (λ now. now) (failed_at old new may)

  pub gone_by : (old new : State) → new ≡ written p (with_entry_at p None old.held) old → new.held.look journal_name ≡ None
  gone_by old new done = ap new.held.look (sym at) ∙ ap (λ (s : State). s.held.look p) done ∙ look_placed p None old.held

-- ---- the journal is absent

pub staged_over : (t u : Image) → Agrees (covers stage_name) nowhere t u → t.look journal_name ≡ None → u.look journal_name ≡ None
staged_over t u h none = h.look journal_name journal_staged refl ∙ none

pub marks_over : (t u : Image) → Agrees (begins mark_front) nowhere t u → t.look journal_name ≡ None → u.look journal_name ≡ None
unfolding journal_name mark_front
marks_over t u h none = h.look journal_name refl refl ∙ none

-- so it is while contents are written
pub unlisted : (t : Image) (s : State) → IsCleared t → Agrees (covers stage_name) nowhere t s.held → NothingReady s
unlisted t s cleared h = no_journal s (staged_over t s.held h (cleared journal_name journal_is_swept))

-- ---- behind a sync

-- the image was the same until then
pub same_until : (old mid new : State) → mid.held ≡ old.held → NoMoreReady mid new → NoMoreReady old new
same_until old mid new same now = ⊎_elim (λ none. inl none) (λ kept. inr (kept ∙ same)) now

-- nothing has happened, or nothing is ready
pub no_more : (old new : State) → (new ≡ old) ⊎ NothingReady new → NoMoreReady old new
no_more old new is = ⊎_elim (λ same. inr (ap (λ (s : State). s.held) same)) (λ now. inl now) is

-- a mode is touched
pub unready_by : (old new : State) → (new ≡ old) ⊎ ((q : List ℕ) × (new.modes q ≡ true)) → (new ≡ old) ⊎ NothingReady new
unready_by old new is = ⊎_elim (λ same. inl same) (λ touched. inr (λ steps a staged. clash (new.modes touched.0) touched.1 (staged.safe.modes touched.0))) is

-- one call after another
pub unready_then : (old mid new : State) → (mid ≡ old) ⊎ NothingReady mid → (new ≡ mid) ⊎ NothingReady new → (new ≡ old) ⊎ NothingReady new
unready_then old mid new first last = ⊎_elim (λ same. ⊎_elim (λ still. inl (same ∙ still)) (λ none. inr (subst NothingReady (sym same) none)) first) (λ none. inr none) last

-- where nothing was ready, nothing is
pub still_none : (old new : State) → NothingReady old → (new ≡ old) ⊎ NothingReady new → NothingReady new
still_none old new none is = ⊎_elim (λ same. subst NothingReady (sym same) none) (λ now. now) is

-- ---- what a refusal leaves

pub leaves_nothing : (t u : Image) (fault : Or StageFault) → IsCleared u → LeavesNothing t u fault
leaves_nothing t u (Bad (stage.Payload name why)) cleared = cleared
leaves_nothing t u (Bad stage.SourceFault) cleared = cleared
leaves_nothing t u (Bad stage.FolderFault) cleared = tt
leaves_nothing t u OutOfMemory cleared = inl cleared

-- a fact that holds anyway
pub if_starved : {T E : Type 0} (r : Result T (Or E)) (P : Type 0) → P → IfStarved r P
if_starved (Ok x) P p = tt
if_starved (Err (Bad why)) P p = tt
if_starved (Err OutOfMemory) P p = p

-- a fact where memory ran out
pub starved_of : (T : Type 0) {E : Type 0} (e : Or E) (P : Type 0) → e ≡ OutOfMemory → IfStarved {T = T} (Err e) P → P
starved_of T (Bad why) P is given = cc
starved_of T OutOfMemory P is given = given
