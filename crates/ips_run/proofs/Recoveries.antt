-- A recovery, by its answer.
use Rattle.std.proofs.Common.{◌≡◌, ◌≢◌, ℕ, Bool, true, false, List, Option, Some, None, Err, Result, is_some, refl, sym, ◌∙◌, ap, subst}
use Rattle.ips_text.specs.declared.refusal.Or.{Or}
use Rattle.ips_text.specs.declared.refusal.Or.TheVariants.{Bad}
use Rattle.ips_text.specs.Reading.{IfBad}
use Rattle.ips_outside.specs.Image.{Entry, Image}
use Rattle.ips_outside.specs.State.{State, ChangedWithin}
use Rattle.ips_outside.specs.Outside.{Outside}
use Rattle.ips_folder.specs.Calls.{ChangesOnly}
use Rattle.ips_folder.proofs.Runs.{weaker}
use Rattle.ips_steps.specs.Steps.{Step, after}
use Rattle.ips_steps.specs.Private.{gate_name, visible}
use Rattle.ips_steps.specs.Owed.{IsOpen, Owes, Old, Open, New, FolderOwes, steps_left}
use Rattle.ips_steps.proofs.Lists.{clash}
use Rattle.ips_steps.proofs.Owing.{owed_open}
use Rattle.ips_kinds.specs.Tallies.{Carrier, all_counted}
use Rattle.ips_steps.specs.Journal.{IsJournal}
use Rattle.ips_journal.specs.Text.{journal_text}
use Rattle.ips_journal.specs.Bad.{IsBadLine}
use Rattle.ips_journal.specs.Reading.{journal_of}
use Rattle.ips_journal.proofs.JournalLaws.{none_bad}
use Rattle.ips_commit.specs.Pending.{HasCommitted, is_swept}
use Rattle.ips_commit.specs.Recovering.{SaysOfRecovery, IfBadJournal, IsJournalled, CanRollForward, IsUnfinished}
use Rattle.ips_commit.specs.declared.fault.CommitFault.{CommitFault}
use Rattle.ips_commit.specs.declared.fault.CommitFault.TheVariants.{Unchanged, Unfinished, BadJournal}
use Rattle.ips_contents.proofs.Written.{own_modes}
use Rattle.ips_commit.proofs.Owing.{swept_seen}
use Rattle.ips_commit.proofs.OwnNames.{gate_unswept}
use Rattle.ips_history.specs.Due.{HasEnded}
use Rattle.ips_history.specs.Transition.{StillOwes}
use Rattle.ips_history.specs.Run.{IsRecovered, StaysShut}
use Rattle.ips_run.specs.declared.ending.Ending.{Ending}
use Rattle.ips_run.specs.declared.ending.Ending.TheVariants as ending
use Rattle.ips_run.specs.Ending.{is_refused}
use Rattle.ips_run.specs.Comes.{IsBackTo}
use Rattle.ips_run.specs.Phases.{uncommitted_as, IsBack}
use Rattle.ips_run.proofs.Carried.{ended}

-- what is swept leaves a closed gate closed
swept_shut : (old s : State) → old.held.look gate_name ≡ None → ChangedWithin is_swept is_swept old s → s.held.look gate_name ≡ None
swept_shut old s shut within = within.agrees.look gate_name gate_unswept gate_unswept ∙ shut

module _ {F : Type 0} (o : Outside F) (before now : List Carrier) (old new : F) (still : StillOwes o old new) where
  abbrev t : Image
  t = (o.state old).held

  -- ---- it answered

  pub back : {T : Type 0} (forward : Bool) → forward ≡ is_some (t.look gate_name)
      → ((steps : List Step) (count : ℕ) (a : Image) → IsOpen journal_text steps count a t → HasCommitted a (o.state new))
      → (t.look gate_name ≢ None → (steps : List Step) × (count : ℕ) × CanRollForward t steps count × HasCommitted (visible (after (steps_left count steps) t)) (o.state new)
      × (now ≡ all_counted (steps_left count steps) before))
      → (t.look gate_name ≡ None → HasCommitted (visible t) (o.state new)) → (t.look gate_name ≡ None → now ≡ before)
      → IsBack {T = T} o (ending.Recovered forward) before now old new
  back forward is meant on cleared uncounted = record {
    still = still;
    undone = refl;
    needed = refl;
    recovered = go (t.look gate_name) refl;
    unseen = λ is. cc;
    unopened = λ is. cc;
    readable = λ is. cc;
    out_of_memory = λ is. cc;
    resumes = λ is. cc;
  }
    where
      forth : t.look gate_name ≢ None → (b a : Image) (due : Bool) → FolderOwes journal_text b (Some a) due (o.state old) → HasEnded (Some a) (o.state new)
      forth there b a due owes = let (steps, count, is_open) = owed_open journal_text b a due t owes.now there in ended a (o.state new) (meant steps count a is_open)

      go : (e : Option Entry) → t.look gate_name ≡ e → IsRecovered o forward before now old new
      go None shut =
          let no : forward ≡ false = is ∙ ap (λ (x : Option Entry). is_some x) shut in
          let done = cleared shut in
          record {
            still = still;
            bare = done.bare;
            safe = done.safe;
            is = is;
            on = λ yes. clash forward yes no;
            laid = λ yes. absurd (clash forward yes no);
            back = λ off. done.seen;
            unlaid = λ off. uncounted shut;
          }
      go (Some e) there =
          let yes : forward ≡ true = is ∙ ap (λ (x : Option Entry). is_some x) there in
          let open_gate : t.look gate_name ≢ None = λ none. cc in
          let (steps, count, can, done, counted) = on open_gate in
          record {
            still = still;
            bare = done.bare;
            safe = done.safe;
            is = is;
            on = λ on. forth open_gate;
            laid = λ on. (steps, count, can, counted);
            back = λ off. clash forward yes off;
            unlaid = λ off. clash forward yes off;
          }

  -- ---- it didn't

  -- an image is owed behind an open gate
  owed_some : (b : Image) (a : Option Image) (due : Bool) → Owes journal_text b a due t → t.look gate_name ≢ None → (steps : List Step) × (count : ℕ) × (x : Image) × IsOpen journal_text steps count x t
  owed_some b a due (Old gone seen) there = absurd (there gone)
  owed_some b a due (Open {a = x} steps count is) there = (steps, count, x, is)
  owed_some b a due (New gone seen) there = absurd (there gone)

  pub back_fault : {T : Type 0} (why : CommitFault) (x : Ending T) → x ≡ uncommitted_as why → SaysOfRecovery (o.state old) (o.state new) before now why
      → (t.look gate_name ≡ None → ChangesOnly o is_swept is_swept old new)
      → ((steps : List Step) (count : ℕ) (a : Image) → IsOpen journal_text steps count a t → (line : ℕ) → why ≡ BadJournal line → ⊥)
      → (why ≡ Unfinished → (steps : List Step) (count : ℕ) → IsJournalled t steps count → IsUnfinished t (o.state new) steps count before now)
      → IsBack o x before now old new
  back_fault {T = T} why x is says closed meant stopped = subst (λ (r : Ending T). IsBack o r before now old new) (sym is) (go why says meant stopped)
    where
      seen : (t.look gate_name ≢ None → o.state new ≡ o.state old) → (e : Option Entry) → t.look gate_name ≡ e → visible (o.state new).held ≡ visible t
      seen kept None shut = swept_seen t (o.state new).held (own_modes is_swept t (o.state new).held (closed shut).now.agrees)
      seen kept (Some e) there = ap (λ (s : State). visible s.held) (kept (λ none. cc))

      shut_still : t.look gate_name ≡ None → StaysShut o old new
      shut_still shut = weaker o old new (ChangedWithin is_swept is_swept (o.state old)) (λ s. s.held.look gate_name ≡ None) (λ s within. swept_shut (o.state old) s shut within) (closed shut).moments

      go : (why : CommitFault) → SaysOfRecovery (o.state old) (o.state new) before now why → ((steps : List Step) (count : ℕ) (a : Image) → IsOpen journal_text steps count a t → (line : ℕ) → why ≡ BadJournal line → ⊥)
          → (why ≡ Unfinished → (steps : List Step) (count : ℕ) → IsJournalled t steps count → IsUnfinished t (o.state new) steps count before now)
          → IsBack {T = T} o (uncommitted_as why) before now old new
      go Unchanged says meant stopped = record {
        still = still;
        undone = refl;
        needed = refl;
        recovered = tt;
        unseen = λ is. seen says (t.look gate_name) refl;
        unopened = λ is. shut_still;
        readable = λ is. cc;
        out_of_memory = λ is. cc;
        resumes = λ is. cc;
      }
      go Unfinished says meant stopped = record {
        still = still;
        undone = refl;
        needed = refl;
        recovered = tt;
        unseen = λ is. cc;
        unopened = λ is. cc;
        readable = λ is. cc;
        out_of_memory = λ is. cc;
        resumes = λ is. (says, stopped refl);
      }
      go (BadJournal line) says meant stopped = record {
        still = still;
        undone = refl;
        needed = refl;
        recovered = tt;
        unseen = λ is. cc;
        unopened = λ is. cc;
        readable = λ is b a due owes. let (steps, count, x, is_open) = owed_some b a due owes.now says.0 in meant steps count x is_open line refl;
        out_of_memory = λ is. cc;
        resumes = λ is. cc;
      }

  pub back_out_of_memory : {T : Type 0} → o.state new ≡ o.state old → (t.look gate_name ≡ None → ChangesOnly o is_swept is_swept old new) → IsBack {T = T} o ending.OutOfMemory before now old new
  back_out_of_memory kept closed = record {
    still = still;
    undone = refl;
    needed = refl;
    recovered = tt;
    unseen = λ is. ap (λ (s : State). visible s.held) kept;
    unopened = λ is shut. weaker o old new (ChangedWithin is_swept is_swept (o.state old)) (λ s. s.held.look gate_name ≡ None) (λ s within. swept_shut (o.state old) s shut within) (closed shut).moments;
    readable = λ is. cc;
    out_of_memory = λ is. kept;
    resumes = λ is. cc;
  }

-- what a fault of a recovery is told of the image and of the tallies
pub told_back : {T : Type 0} (why : CommitFault) (x : Ending T) (old new : State) (before now : List Carrier) → x ≡ uncommitted_as why → SaysOfRecovery old new before now why
    → (why ≡ Unchanged → now ≡ before) → (((steps : List Step) → IsJournal steps → journal_of old.held ≡ journal_text steps → ⊥) → old.held.look gate_name ≢ None → now ≡ before)
    → IsBackTo old.held new.held before now x
told_back {T = T} why x old new before now is says unlaid unread = subst (λ (r : Ending T). IsBackTo old.held new.held before now r) (sym is) (go why says unlaid)
  where
    go : (why : CommitFault) → SaysOfRecovery old new before now why → (why ≡ Unchanged → now ≡ before) → IsBackTo {T = T} old.held new.held before now (uncommitted_as why)
    go Unchanged says unlaid = (λ yes. cc, λ no. unlaid refl)
    go Unfinished says unlaid = (λ yes. says, λ no. cc)
    go (BadJournal line) says unlaid = (says.0, says.1, λ bad. (ap (λ (s : State). s.held) (says.2 bad), unread (λ steps lists text. none_bad steps line lists (subst (λ (l : List ℕ). IsBadLine l line) text bad)) says.0))

-- what a recovery that answered is told of
pub told_on : (s : State) (t : Image) (before now : List Carrier) (forward : Bool) → forward ≡ is_some (t.look gate_name)
    → (t.look gate_name ≢ None → (steps : List Step) × (count : ℕ) × CanRollForward t steps count × HasCommitted (visible (after (steps_left count steps) t)) s × (now ≡ all_counted (steps_left count steps) before))
    → (forward ≡ is_some (t.look gate_name)) × (forward ≡ true → (steps : List Step) × (count : ℕ) × CanRollForward t steps count)
told_on s t before now forward is done = (is, λ on. let (steps, count, can, ended, counted) = done (λ none. clash forward on (is ∙ ap (λ (e : Option Entry). is_some e) none)) in (steps, count, can))

-- a fault that is refused behind an open gate leaves everything as it was
pub kept_back : {T : Type 0} (why : CommitFault) (x : Ending T) (old new : State) (before now : List Carrier) → x ≡ uncommitted_as why → SaysOfRecovery old new before now why
    → old.held.look gate_name ≢ None → is_refused x ≡ true → new ≡ old
kept_back {T = T} why x old new before now is says there refused = go why says (ap (λ (r : Ending T). is_refused r) (sym is) ∙ refused)
  where
    go : (why : CommitFault) → SaysOfRecovery old new before now why → is_refused {T = T} (uncommitted_as why) ≡ true → new ≡ old
    go Unchanged says refused = says there
    go Unfinished says refused = cc
    go (BadJournal line) says refused = cc

-- a fact of the fault, by cases of the answer
pub bad_of : {T : Type 0} (result : Result T (Or CommitFault)) (why : CommitFault) (line : ℕ) → result ≡ Err (Bad why) → why ≡ BadJournal line → IfBadJournal result (λ line. ⊥) → ⊥
bad_of {T = T} result why line is bad none = subst (λ (r : Result T (Or CommitFault)). IfBadJournal r (λ line. ⊥)) (is ∙ ap (λ (e : CommitFault). Err (Bad e)) bad) none

pub says_of : (T : Type 0) (e : Or CommitFault) (why : CommitFault) → e ≡ Bad why → (P : CommitFault → Type 0) → IfBad {X = T} {E = CommitFault} (Err e) P → P why
says_of T e why is P says = subst (λ (x : Or CommitFault). IfBad {X = T} {E = CommitFault} (Err x) P) is says
