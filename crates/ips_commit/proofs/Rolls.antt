-- Steps laid to the end behind an open gate.
use Rattle.std.proofs.Common.{◌≡◌, ⊎_elim, ℕ, ◌+◌, ◌*◌, ◌/◌, min, Bool, true, List, [], ◌∷◌, ◌++◌, append-nil, length, length-append, take, drop, Some, Result, Ok, Err, OnOk, IfOk, refl, sym, ◌∙◌, ap, subst, arith, inl, inr, ◌⊎◌, None}
use Rattle.ips_outside.specs.Image.{Image, Agrees}
use Rattle.ips_outside.specs.State.{IsSettled, nowhere, MayLeave}
use Rattle.ips_outside.specs.Outside.{Outside}
use Rattle.ips_folder.specs.Calls.{ChangesOnly, Throughout}
use Rattle.ips_folder.proofs.Runs.{joins}
use Rattle.ips_steps.specs.Steps.{Step, after, feasible, sets}
use Rattle.ips_steps.specs.Private.{gate_name, mark_front, begins, is_private, visible}
use Rattle.ips_steps.specs.Journal.{IsJournal, allowed}
use Rattle.ips_steps.specs.Owed.{AreMarks, steps_left, IsReady, IsOpen, FolderOwes}
use Rattle.ips_steps.proofs.PrivateNames.{mark_private, visible_agrees}
use Rattle.std.proofs.lemmas.List.{length-take}
use Rattle.ips_steps.proofs.Linked.{after_within}
use Rattle.ips_apply.proofs.Turns.{allowed_behind}
use Rattle.ips_kinds.specs.Tallies.{Carrier, all_counted}
use Rattle.ips_journal.specs.Text.{journal_text}
use Rattle.ips_journal.specs.Bad.{IsBadLine}
use Rattle.ips_journal.specs.Reading.{ReaderState, IsAt, journal_of}
use Rattle.ips_journal.specs.declared.fault.StepFault.{StepFault}
use Rattle.ips_journal.specs.declared.fault.StepFault.TheVariants.{BadJournal, FolderFault}
use Rattle.ips_journal.proofs.JournalLaws.{one_text, none_bad}
use Rattle.ips_apply.specs.Applied.{IsImpossible}
use Rattle.ips_commit.specs.Pending.{HasNoOtherMark, mark_names, HasCommitted}
use Rattle.ips_commit.specs.Phases.{IsUnderWay, AreMarkedOff, IsHeldUp, IsSeenBut, LaysTo, LaysAll, whole_of}
use Rattle.ips_commit.specs.Recovering.{AreLaidTo, CanResume, IsJournalled, IsStuckAt, IsUnfinished, CanRollForward}
use Rattle.ips_commit.proofs.CutOff.{seen_same, seen_next, seen_on, as_own}
use Rattle.ips_commit.proofs.Lays.{next_of, rest_of, allowed_before}
use Rattle.ips_commit.proofs.Marked.{gate_laid, gate_marked}
use Rattle.ips_commit.proofs.Owing.{ready_text}
use Rattle.ips_commit.proofs.Stuck.{never_stuck}

-- images that agree but at the names of marks look alike
seen_alike : (t u : Image) → Agrees (begins mark_front) nowhere t u → visible u ≡ visible t
seen_alike t u h = visible_agrees t u (as_own (begins mark_front) mark_private t u h)

module _ {F : Type 0} (o : Outside F) (first : ℕ) (old at : F) (told : o.tells old ≡ true) (way : IsUnderWay (o.state old) first) (start r : ReaderState) (counts now : List Carrier)
    (result : Result (ℕ × ℕ) StepFault) (all : LaysAll o first old at start r counts now result) (steps : List Step) (from : IsAt (journal_of (o.state old).held) (take (1000 * first) steps) start) where
  abbrev t : Image
  t = (o.state old).held

  abbrev text : List ℕ
  text = journal_of t

  abbrev front : List Step
  front = take (1000 * first) steps

  abbrev left : List Step
  left = steps_left first steps

  abbrev laid : List Step
  laid = all.lays.steps

  ends_as : (x : Result (ℕ × ℕ) StepFault) → result ≡ x → LaysTo o text front laid all.lays.marks old at r (whole_of x)
  ends_as x is = subst (λ (y : Result (ℕ × ℕ) StepFault). LaysTo o text front laid all.lays.marks old at r (whole_of y)) is (all.lays.ends told way front from)

  -- with a list that is owed
  module _ (a : Image) (is_open : IsOpen journal_text steps first a t) where
    pub roll_owed : (b : Image) (due : Bool) → Throughout o old at (FolderOwes journal_text b (Some a) due)
    roll_owed b due = all.lays.owed told way steps b a due is_open from

    pub roll_line : (line : ℕ) → result ≡ Err (BadJournal line) → ⊥
    roll_line line is = ⊎_elim
        (λ bad. none_bad steps line is_open.ready.lists (subst (λ (l : List ℕ). IsBadLine l line) (ready_text steps first a t is_open.ready) bad))
        (λ up. never_stuck steps first a t is_open laid line up.next)
        (ends_as (Err (BadJournal line)) is)

    -- what a crash leaves while they are laid
    roll_resumes : CanResume (o.state at) first (length laid)
    roll_resumes c may = let some = all.lays.left told way steps a is_open from c may in inr (some.0, some.1, (let so_many = some.2 in omega (arith, so_many)))

    module _ (x : ℕ × ℕ) (is : result ≡ Ok x) where
      owed_off : IsJournal (front ++ laid) × (text ≡ journal_text (front ++ laid)) × AreMarkedOff o laid all.lays.marks old at
      owed_off = ends_as (Ok x) is

      still_open : IsOpen journal_text steps all.lays.marks a (o.state at).held
      still_open = subst (λ (y : Result (ℕ × ℕ) StepFault). OnOk (whole_of y) (IsOpen journal_text steps all.lays.marks a (o.state at).held)) is (all.lays.stays_open told way steps a is_open from)

      owed_left : laid ≡ left
      owed_left = rest_of steps laid (1000 * first) (one_text (front ++ laid) steps owed_off.0 is_open.ready.lists (sym owed_off.1 ∙ ready_text steps first a t is_open.ready))

      -- the gate closes behind them
      pub roll_finished : (new : F) (b : Image) (due : Bool)
          → (IsSettled (o.state at) → (l : List Step) (n : ℕ) (before y : Image) (d : Bool) → IsReady journal_text l n y (o.state at).held → visible (o.state at).held ≡ y → Throughout o at new (FolderOwes journal_text before (Some y) d))
          → Throughout o old new (FolderOwes journal_text b (Some a) due)
      roll_finished new b due closing = joins o old at new (FolderOwes journal_text b (Some a) due) (roll_owed b due)
          (closing owed_off.2.way.safe steps all.lays.marks b a due still_open.ready
          (seen_alike (after laid t) (o.state at).held owed_off.2.held ∙ ap (λ (l : List Step). visible (after l t)) owed_left ∙ is_open.ready.means))

      -- and while the gate closes behind them
      closing_resumes : (new : F) → (IsSettled (o.state at) → (count : ℕ) → AreMarks (o.state at).held count → (c : Image) → MayLeave (o.state new) c → (c.look gate_name ≡ None) ⊎ AreMarks c count)
          → CanResume (o.state new) first (length laid)
      closing_resumes new closing c may = ⊎_elim (λ shut. inl shut) (λ are. inr (all.lays.marks, are, (let so_many = all.lays.few in omega (arith, so_many)))) (closing owed_off.2.way.safe all.lays.marks owed_off.2.way.marked c may)

  -- with any list of the journal
  module _ (is : IsJournalled t steps first) where
    is_front : laid ≡ take (length laid) left
    is_front = next_of steps laid (1000 * first) (all.lays.next told way front from steps is.lists is.text_is)

    -- so many of them are laid where this is held and these were begun
    laid_to : (new : F) (begun : List Step) → (begun ≡ []) ⊎ ((s : Step) × (begun ≡ s ∷ [])) → laid ++ begun ≡ take (length (laid ++ begun)) left → feasible laid t ≡ true
        → IsSeenBut begun (after laid t) (o.state new).held → AreLaidTo left (length laid) t (o.state new).held counts now
    laid_to new begun one next can held = record {
      few = let count = ap length is_front in let cut = length-take (length laid) left in omega (arith, count, cut);
      can = subst (λ (l : List Step). feasible l t ≡ true) is_front can;
      held = seen_next (drop (length laid) left) begun (after (take (length laid) left) t) (o.state new).held one
          (next_of left begun (length laid) (subst (λ (l : List Step). l ++ begun ≡ take (length (l ++ begun)) left) is_front next))
          (subst (λ (l : List Step). IsSeenBut begun (after l t) (o.state new).held) is_front held);
      tallies = all.lays.tallies ∙ ap (λ (l : List Step). all_counted l counts) is_front;
    }

    -- a call failed while they were laid
    pub roll_cut : result ≡ Err FolderFault → IsUnfinished t (o.state at) steps first counts now
    roll_cut was =
        let cut = ends_as (Err FolderFault) was in
        record {
          laid = length laid;
          are = laid_to at cut.begun cut.one_more (next_of steps (laid ++ cut.begun) (1000 * first) (cut.next steps is.lists is.text_is)) cut.can cut.held;
          gate = λ lt. cut.gate;
          resumes = λ a is_open. roll_resumes a is_open;
        }

    -- the step behind the steps that were laid can't be
    so_many : (line : ℕ) → result ≡ Err (BadJournal line) → all.lays.marks ≡ first + length laid / 1000
    so_many line was =
        let many = all.lays.many in
        let fewer = all.lays.fewer line (ap whole_of was) in
        omega (arith, many, fewer)

    held_up : (line : ℕ) → result ≡ Err (BadJournal line) → IsHeldUp o text front laid all.lays.marks line old at → IsStuckAt t (o.state at).held counts now steps first line
    held_up line was up =
        let s = up.next.step in
        let may : allowed laid ≡ true = allowed_behind front laid (allowed_before (front ++ laid) (s ∷ []) up.next.stands.1.1.listed.names) in
        record {
          laid = length laid;
          can = subst (λ (l : List Step). feasible l t ≡ true) is_front up.can;
          next = subst (λ (l : List Step). IsImpossible text (front ++ l) (after l t) line) is_front up.next;
          held = subst (λ (l : List Step). Agrees (begins mark_front) nowhere (after l t) (o.state at).held) is_front up.held;
          gate = gate_marked (after laid t) (o.state at).held up.held (gate_laid laid may (sets laid t) t (after laid t) (after_within laid t) way.gate);
          marked = subst (λ (k : ℕ). AreMarks (o.state at).held k) (so_many line was) up.marked;
          others = subst (λ (k : ℕ). HasNoOtherMark (o.state at).held (mark_names k)) (so_many line was) up.others;
          tallies = all.lays.tallies ∙ ap (λ (l : List Step). all_counted l counts) is_front;
        }

    pub roll_stuck : (line : ℕ) → result ≡ Err (BadJournal line) → IsStuckAt t (o.state at).held counts now steps first line
    roll_stuck line was = ⊎_elim
        (λ bad. absurd (none_bad steps line is.lists (subst (λ (l : List ℕ). IsBadLine l line) is.text_is bad)))
        (λ up. held_up line was up)
        (ends_as (Err (BadJournal line)) was)

    module _ (x : ℕ × ℕ) (was : result ≡ Ok x) where
      off : IsJournal (front ++ laid) × (text ≡ journal_text (front ++ laid)) × AreMarkedOff o laid all.lays.marks old at
      off = ends_as (Ok x) was

      all_left : laid ≡ left
      all_left = rest_of steps laid (1000 * first) (one_text (front ++ laid) steps off.0 is.lists (sym off.1 ∙ is.text_is))

      as_ok : LaysAll o first old at start r counts now (Ok x)
      as_ok = subst (λ (y : Result (ℕ × ℕ) StepFault). LaysAll o first old at start r counts now y) was all

      -- a call failed behind them
      pub roll_shut : (new : F) → (IsSettled (o.state at) → (count : ℕ) → AreMarks (o.state at).held count → (c : Image) → MayLeave (o.state new) c → (c.look gate_name ≡ None) ⊎ AreMarks c count)
          → ChangesOnly o is_private nowhere at new → IsUnfinished t (o.state new) steps first counts now
      roll_shut new closing run =
          let own : Agrees is_private nowhere (after laid t) (o.state at).held = as_own (begins mark_front) mark_private (after laid t) (o.state at).held off.2.held in
          record {
            laid = length laid;
            are = laid_to new [] (inl refl) (subst (λ (l : List Step). l ≡ take (length l) left) (sym (append-nil laid)) is_front) off.2.can
                (seen_on [] (after laid t) (o.state at).held (o.state new).held (seen_same [] (after laid t) (o.state at).held own) run.now.agrees);
            gate = λ lt. let same = ap length all_left in absurd (omega (arith, lt, same));
            resumes = λ a is_open. closing_resumes a is_open x was new closing;
          }

      pub roll_can : CanRollForward t steps first
      roll_can = record { is = is; can = subst (λ (l : List Step). feasible l t ≡ true) all_left off.2.can }

      pub roll_counted : now ≡ all_counted left counts
      roll_counted = all.lays.tallies ∙ ap (λ (l : List Step). all_counted l counts) all_left

      pub roll_done : (new : F) → HasCommitted (visible (o.state at).held) (o.state new) → HasCommitted (visible (after left t)) (o.state new)
      roll_done new done = subst (λ (u : Image). HasCommitted u (o.state new)) (seen_alike (after laid t) (o.state at).held off.2.held ∙ ap (λ (l : List Step). visible (after l t)) all_left) done

      -- the marks and steps that are told
      pub roll_marks : HasNoOtherMark (o.state at).held (mark_names x.0)
      roll_marks = subst (λ (k : ℕ). HasNoOtherMark (o.state at).held (mark_names k)) (sym marks_told) off.2.way.others
        where
          marks_told : x.0 ≡ all.lays.marks
          marks_told = subst (λ (y : Result (ℕ × ℕ) StepFault). IfOk y (λ z. z.0 ≡ all.lays.marks)) was all.marks

      pub roll_number : x.1 ≡ length left
      roll_number = least ∙ ap length all_left
        where
          told_number : x.1 ≡ min (length laid) 18446744073709551615
          told_number = subst (λ (y : Result (ℕ × ℕ) StepFault). IfOk y (λ z. z.1 ≡ min (length laid) 18446744073709551615)) was all.count

          least : x.1 ≡ length laid
          least = let few = off.0.count in let sum = length-append front laid in omega (arith, told_number, few, sum)
