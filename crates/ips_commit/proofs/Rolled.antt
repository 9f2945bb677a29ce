-- A change that was stopped, brought to its end.
use Rattle.std.proofs.Common.{◌≡◌, ◌≢◌, ◌⊎◌, inl, inr, ⊎_elim, ℕ, ◌+◌, ◌*◌, ◌<◌, ◌≤◌, Bool, true, false, List, [], ◌∷◌, ◌++◌, length, take, Option, Some, None, is_some, Result, Ok, Err, refl, sym, ◌∙◌, ap, subst, arith}
use Rattle.std.specs.List.{list_all}
use Rattle.std.proofs.lemmas.Bool.{cases_lt, false_from_ne_true}
use Rattle.std.proofs.Math.ListN.{drop_of_length-le}
use Rattle.std.proofs.lemmas.List.{take-append-drop}
use Rattle.ips_text.specs.declared.refusal.Or.{Or}
use Rattle.ips_text.specs.declared.refusal.Or.TheVariants.{Bad, OutOfMemory}
use Rattle.ips_text.specs.Reading.{IfBad}
use Rattle.ips_outside.specs.Image.{Image, Agrees}
use Rattle.ips_outside.specs.State.{State, ChangedWithin, IsSettled, nowhere}
use Rattle.ips_outside.specs.Outside.{Outside, IsOutside, HasCause, Reads}
use Rattle.ips_outside.proofs.Faults.{cause_as, cause_behind}
use Rattle.ips_outside.proofs.Moments.{agrees_less, agrees_on}
use Rattle.ips_folder.specs.Calls.{ChangesOnly, Throughout}
use Rattle.ips_folder.proofs.Runs.{started, goes_on, joins, weaker, keeps_then, one_read}
use Rattle.ips_steps.specs.Steps.{Step, after}
use Rattle.ips_steps.specs.Private.{gate_name, mark_front, mark_name, begins, visible}
use Rattle.ips_steps.specs.Journal.{allowed}
use Rattle.ips_steps.specs.Owed.{AreMarks, steps_left, IsOpen, Owes, Old, Open, New, FolderOwes}
use Rattle.ips_steps.proofs.Linked.{marks_alike}
use Rattle.ips_steps.proofs.Lists.{clash}
use Rattle.ips_steps.proofs.PrivateNames.{mark_private}
use Rattle.ips_steps.proofs.Owing.{owed_open}
use Rattle.ips_steps.proofs.Unmarking.{owes_unmarking, open_unmarked}
use Rattle.ips_kinds.specs.Tallies.{Carrier}
use Rattle.ips_journal.specs.Text.{journal_text}
use Rattle.ips_journal.specs.Bad.{IsBadLine}
use Rattle.ips_journal.specs.Reading.{ReaderState, IsAt, journal_of}
use Rattle.ips_journal.proofs.JournalLaws.{one_text, none_bad}
use Rattle.ips_apply.proofs.Turns.{allowed_behind}
use Rattle.ips_commit.specs.Answers.{IfStarved}
use Rattle.ips_commit.specs.declared.fault.CommitFault.{CommitFault}
use Rattle.ips_commit.specs.declared.fault.CommitFault.TheVariants as fault
use Rattle.ips_commit.specs.Pending.{HasNoOtherMark, AreMarkNames, IsSwept, HasCommitted, is_swept, is_other, mark_names}
use Rattle.ips_commit.specs.Phases.{IsUnderWay}
use Rattle.ips_commit.specs.Recovering.{AreCounted, AreLaidTo, CanResume, IsJournalled, IsStuckAt, IsPlaced, IsUnfinished, CanRollForward, IfBadJournal, SaysOfFinding, SaysOfSteps, SaysOfLaying, SaysOfRecovery}
use Rattle.ips_commit.proofs.CutOff.{none_laid, as_own, laid_alike, content_else, stage_else}
use Rattle.ips_commit.proofs.Going.{cannot_alike}
use Rattle.ips_commit.proofs.Lays.{allowed_before}
use Rattle.ips_commit.proofs.Marked.{absent_later, gate_marked, journal_marked}
use Rattle.ips_commit.proofs.Numbered.{other_own, other_keeps, other_absent}
use Rattle.ips_contents.proofs.Written.{own_modes}
use Rattle.ips_commit.proofs.Owing.{ready_text, left_owed, cleared_of, owes_marks}
use Rattle.ips_commit.proofs.Places.{same_steps, same_left, counts}

-- ---- what a recovery that rolled forward answers

pub says_rolled : (old new : State) (before now : List Carrier) (steps : List Step) (count : ℕ) → IsJournalled old.held steps count → (old.held.look gate_name ≡ None → ⊥) → (why : CommitFault) → SaysOfLaying old.held new.held before now why → SaysOfRecovery old new before now why
says_rolled old new before now steps count is gate fault.Unchanged says = absurd says
says_rolled old new before now steps count is gate fault.Unfinished says = gate
says_rolled old new before now steps count is gate (fault.BadJournal line) says = (gate, inr says, λ bad. absurd (none_bad steps line is.lists (subst (λ (l : List ℕ). IsBadLine l line) is.text_is bad)))

pub says_only_read : (old new : State) (before now : List Carrier) (why : CommitFault) → new ≡ old → SaysOfFinding old.held why → SaysOfRecovery old new before now why
says_only_read old new before now fault.Unchanged kept says = λ gate. kept
says_only_read old new before now fault.Unfinished kept says = absurd says
says_only_read old new before now (fault.BadJournal line) kept says = (says.0, inl says.1, λ bad. kept)

-- a fact where memory ran out
pub if_starved : (T : Type 0) {E : Type 0} (e : Or E) (P : Type 0) → P → IfStarved {T = T} (Err e) P
if_starved T (Bad why) P p = tt
if_starved T OutOfMemory P p = p

-- the cause of a fault before the first change
module _ {T U : Type 0} (e : Or CommitFault) (from : Result U (Or CommitFault)) (was : from ≡ Err e) (answer : Result T (Or CommitFault)) (is : answer ≡ Err e) where
  handed : from ≡ Err (Bad fault.Unchanged) → (answer ≡ Err (Bad fault.Unchanged)) ⊎ (answer ≡ Err (Bad fault.Unfinished))
  handed failed = inl cc

  pub never_begun : IfBad {X = U} (Err e) (λ why. why ≡ fault.Unfinished → ⊥) → answer ≡ Err (Bad fault.Unfinished) → ⊥
  never_begun never un =
      let same : e ≡ Bad fault.Unfinished = cc in
      subst (λ (x : Or CommitFault). IfBad {X = U} (Err x) (λ why. why ≡ fault.Unfinished → ⊥)) same never refl

  handed_back : IfBad {X = U} (Err e) (λ why. why ≡ fault.Unfinished → ⊥) → (answer ≡ Err (Bad fault.Unchanged)) ⊎ (answer ≡ Err (Bad fault.Unfinished)) → from ≡ Err (Bad fault.Unchanged)
  handed_back never (inl un) = cc
  handed_back never (inr un) = absurd (never_begun never un)

  pub read_cause : (a b : ℕ) → IfBad {X = U} (Err e) (λ why. why ≡ fault.Unfinished → ⊥) → HasCause a b (from ≡ Err (Bad fault.Unchanged)) → HasCause a b ((answer ≡ Err (Bad fault.Unchanged)) ⊎ (answer ≡ Err (Bad fault.Unfinished)))
  read_cause a b never cause = cause_as a b (from ≡ Err (Bad fault.Unchanged)) ((answer ≡ Err (Bad fault.Unchanged)) ⊎ (answer ≡ Err (Bad fault.Unfinished))) cause handed (handed_back never)

-- the cause of a fault from the first change on
module _ {T : Type 0} (e : CommitFault) (from : Result (Unit {0}) CommitFault) (was : from ≡ Err e) (answer : Result T (Or CommitFault)) (is : answer ≡ Err (Bad e)) where
  rolled : from ≡ Err fault.Unfinished → (answer ≡ Err (Bad fault.Unchanged)) ⊎ (answer ≡ Err (Bad fault.Unfinished))
  rolled failed = inr (let same : e ≡ fault.Unfinished = cc in is ∙ ap (λ (x : CommitFault). Err (Bad x)) same)

  rolled_back : (e ≡ fault.Unchanged → ⊥) → (answer ≡ Err (Bad fault.Unchanged)) ⊎ (answer ≡ Err (Bad fault.Unfinished)) → from ≡ Err fault.Unfinished
  rolled_back never (inl un) = let same : e ≡ fault.Unchanged = cc in absurd (never same)
  rolled_back never (inr un) = let same : e ≡ fault.Unfinished = cc in was ∙ ap (λ (x : CommitFault). Err x) same

  pub roll_cause : (a b c : ℕ) → b ≡ a → (e ≡ fault.Unchanged → ⊥) → HasCause b c (from ≡ Err fault.Unfinished) → HasCause a c ((answer ≡ Err (Bad fault.Unchanged)) ⊎ (answer ≡ Err (Bad fault.Unfinished)))
  roll_cause a b c same never cause = subst (λ (x : ℕ). HasCause x c ((answer ≡ Err (Bad fault.Unchanged)) ⊎ (answer ≡ Err (Bad fault.Unfinished)))) same
      (cause_as b c (from ≡ Err fault.Unfinished) ((answer ≡ Err (Bad fault.Unchanged)) ⊎ (answer ≡ Err (Bad fault.Unfinished))) cause rolled (rolled_back never))

-- what is owed is a journal, so no line of it is bad
pub never_found : (T U : Type 0) (t : Image) (e : Or CommitFault) (steps : List Step) (count : ℕ) (a : Image) → IsOpen journal_text steps count a t → IfBad {X = U} (Err e) (SaysOfFinding t) → IfBadJournal {T = T} (Err e) (λ line. ⊥)
never_found T U t (Bad fault.Unchanged) steps count a is_open says = tt
never_found T U t (Bad fault.Unfinished) steps count a is_open says = tt
never_found T U t (Bad (fault.BadJournal line)) steps count a is_open says = none_bad steps line is_open.ready.lists (subst (λ (l : List ℕ). IsBadLine l line) (ready_text steps count a t is_open.ready) says.1)
never_found T U t OutOfMemory steps count a is_open says = tt

-- no call failed
pub calm_cause : (a b c : ℕ) (P Q R : Type 0) → HasCause a b P → (P → ⊥) → HasCause b c Q → (Q → ⊥) → (R → ⊥) → HasCause a c R
calm_cause a b c P Q R first no_first last no_last none = cause_behind a b c P Q R first no_first last (λ q. absurd (no_last q)) (λ r. absurd (none r))

pub no_answer : {T : Type 0} (answer : Result T (Or CommitFault)) (x : T) → answer ≡ Ok x → (answer ≡ Err (Bad fault.Unchanged)) ⊎ (answer ≡ Err (Bad fault.Unfinished)) → ⊥
no_answer answer x is (inl un) = cc
no_answer answer x is (inr un) = cc

pub starved_only : {T : Type 0} (answer : Result T (Or CommitFault)) → answer ≡ Err OutOfMemory → (answer ≡ Err (Bad fault.Unchanged)) ⊎ (answer ≡ Err (Bad fault.Unfinished)) → ⊥
starved_only answer is (inl un) = cc
starved_only answer is (inr un) = cc

pub never_refused : (why : CommitFault) (P : Type 0) (T : Type 0) → why ≡ fault.Unfinished → IfBadJournal {T = T} (Err (Bad why)) (λ line. P)
never_refused why P T is = subst (λ (x : CommitFault). IfBadJournal {T = T} (Err (Bad x)) (λ line. P)) (sym is) tt

-- ---- a recovery that has only read

module _ {F : Type 0} (o : Outside F) (sane : IsOutside o) (old mid : F) (failure : Type 0) (reads : Reads o old mid failure) where
  pub still_owed : (b : Image) (a : Option Image) (due : Bool) → FolderOwes journal_text b a due (o.state old) → Throughout o old mid (FolderOwes journal_text b a due)
  still_owed b a due owes = goes_on o old old mid (FolderOwes journal_text b a due) (started o old (FolderOwes journal_text b a due) (sane.only_now old) owes) reads.call.time
      (subst (FolderOwes journal_text b a due) (sym reads.kept) owes)

  pub still_clean : IsSettled (o.state old) → IsSettled (o.state mid)
  still_clean clean = subst IsSettled (sym reads.kept) clean

  -- or swept
  module _ (new : F) (shut : (o.state old).held.look gate_name ≡ None) (run : ChangesOnly o is_swept is_swept mid new) where
    pub swept_keeps : ChangesOnly o is_swept is_swept old new
    swept_keeps = keeps_then o is_swept is_swept old mid new (one_read o sane is_swept is_swept old mid failure reads) run

    pub swept_owed : IsSettled (o.state old) → (b : Image) (a : Option Image) (due : Bool) → FolderOwes journal_text b a due (o.state old) → Throughout o old new (FolderOwes journal_text b a due)
    swept_owed clean b a due owes = left_owed o sane b a due old new owes.now shut clean swept_keeps

    pub swept_done : o.tells new ≡ true → (marks : List (List ℕ)) → HasNoOtherMark (o.state old).held marks → IsSwept marks (o.state mid).held (o.state new).held → IsSettled (o.state new) → HasCommitted (visible (o.state old).held) (o.state new)
    swept_done told marks others swept safe =
        let both = cleared_of marks (o.state old).held (o.state new).held (sane.formed new told) shut others (subst (λ (s : State). IsSwept marks s.held (o.state new).held) reads.kept swept) (own_modes is_swept (o.state old).held (o.state new).held swept_keeps.now.agrees) in
        record { seen = both.0; bare = both.1; safe = safe }

-- ---- the gate, as it was found

pub found_open : (b : Bool) (t : Image) → b ≡ is_some (t.look gate_name) → b ≡ true → t.look gate_name ≡ None → ⊥
found_open b t is there none = let bad : is_some (t.look gate_name) ≡ false = ap is_some none in cc

pub found_shut : (b : Bool) (t : Image) → b ≡ is_some (t.look gate_name) → b ≡ false → t.look gate_name ≡ None
found_shut b t is shut = go (t.look gate_name) (sym is ∙ shut)
  where
    go : {A : Type 0} (e : Option A) → is_some e ≡ false → e ≡ None
    go None off = refl
    go (Some x) off = cc

-- counts of the same marks leave the same steps
pub counted_left : (t : Image) (steps : List Step) (m n : ℕ) → AreCounted t (length steps) m → AreCounted t (length steps) n → steps_left m steps ≡ steps_left n steps
counted_left t steps m n ms ns = elim (cases_lt m n) [
  | inl lt ↦ fewer m n lt ms ns
  | inr ge ↦ elim (cases_lt n m) [
    | inl lt ↦ sym (fewer n m lt ns ms)
    | inr le ↦ let same : m ≡ n = omega (arith, ge, le) in ap (λ (k : ℕ). steps_left k steps) same
  ]
]
  where
    fewer : (x y : ℕ) → x < y → AreCounted t (length steps) x → AreCounted t (length steps) y → steps_left x steps ≡ steps_left y steps
    fewer x y lt xs ys = ⊎_elim
        (λ none. absurd (ys.stand x lt none))
        (λ all. let more : length steps ≤ 1000 * y = omega (arith, all, lt) in drop_of_length-le steps all ∙ sym (drop_of_length-le steps more))
        xs.last

-- what is left, told by any list and count that the journal and the marks are of
rest_as : (t : Image) (r : ReaderState) (n : ℕ) (placed : IsPlaced t r n) (steps : List Step) (count : ℕ) → IsJournalled t steps count → steps_left n placed.steps ≡ steps_left count steps
rest_as t r n placed steps count is =
    let same : placed.steps ≡ steps = one_text placed.steps steps placed.is.lists is.lists (sym placed.is.text_is ∙ is.text_is) in
    let marked = subst (λ (l : List Step). AreCounted t (length l) n) same placed.is.marked in
    ap (steps_left n) same ∙ counted_left t steps n count marked is.marked

-- ---- the marks but the first ones taken away behind an open gate

none_owed : (b : Image) (x : Option Image) (due : Bool) (t : Image) → Owes journal_text b x due t → x ≡ None → (t.look gate_name ≡ None → ⊥) → ⊥
none_owed b x due t (Old gone seen) none gate = gate gone
none_owed b x due t (Open {a = y} steps marks o) none gate = cc
none_owed b x due t (New gone seen) none gate = gate gone

module _ {F : Type 0} (o : Outside F) (sane : IsOutside o) (old mid : F) (marks : List (List ℕ)) (own : list_all (begins mark_front) marks ≡ true) (are : AreMarkNames (o.state old).held marks)
    (r : ReaderState) (count : ℕ) (few : count ≤ 18446744073709552) (placed : IsPlaced (o.state old).held r count) (clean : IsSettled (o.state old)) (run : ChangesOnly o (is_other (mark_names count) marks) nowhere old mid) where
  abbrev t : Image
  t = (o.state old).held

  abbrev u : Image
  u = (o.state mid).held

  abbrev left : List Step
  left = steps_left count placed.steps

  -- with a list that is owed
  module _ (steps : List Step) (m : ℕ) (a : Image) (is_open : IsOpen journal_text steps m a t) where
    pub left_same : steps_left count steps ≡ steps_left m steps
    left_same = same_left t r count placed steps m a is_open

    pub unmarking_owed : (b : Image) (due : Bool) → Throughout o old mid (FolderOwes journal_text b (Some a) due)
    unmarking_owed b due = weaker o old mid (ChangedWithin (is_other (mark_names count) marks) nowhere (o.state old)) (FolderOwes journal_text b (Some a) due)
        (λ s w. owes_unmarking journal_text steps m count b a due (is_other (mark_names count) marks) (o.state old) s is_open clean left_same (other_own (mark_names count) marks own)
        (λ i lt. other_keeps count i marks own lt) (other_absent t (mark_names count) marks (m + 1) own are is_open.ready.marked.last) w) run.moments

    -- what a crash leaves
    unmarking_resumes : CanResume (o.state mid) m 0
    unmarking_resumes c may = ⊎_elim (λ shut. inl shut) (λ some. inr (some.0, some.1, omega arith)) (owes_marks t (Some a) false c
        ((owes_unmarking journal_text steps m count t a false (is_other (mark_names count) marks) (o.state old) (o.state mid) is_open clean left_same (other_own (mark_names count) marks own)
        (λ i lt. other_keeps count i marks own lt) (other_absent t (mark_names count) marks (m + 1) own are is_open.ready.marked.last) run.now).left c may))

  agree : Agrees (begins mark_front) nowhere t u
  agree = agrees_less (is_other (mark_names count) marks) nowhere (begins mark_front) nowhere t u
      (λ q off. false_from_ne_true _ (λ other. clash (begins mark_front q) (other_own (mark_names count) marks own q other) off)) (λ q l. l) run.now.agrees

  -- nothing was begun
  pub not_begun : t.look gate_name ≢ None → (steps : List Step) (m : ℕ) → IsJournalled t steps m → (kinds : List Carrier) → IsUnfinished t (o.state mid) steps m kinds kinds
  not_begun gate steps m is kinds = record {
    laid = 0;
    are = none_laid (steps_left m steps) t u kinds (as_own (is_other (mark_names count) marks) (λ q other. mark_private q (other_own (mark_names count) marks own q other)) t u run.now.agrees);
    gate = λ lt. gate_marked t u agree gate;
    resumes = λ a is_open. unmarking_resumes steps m a is_open;
  }

  module _ (others : HasNoOtherMark u (mark_names count)) (safe : IsSettled (o.state mid)) where
    are_first : AreMarks u count
    are_first = record {
      stand = λ i lt none. placed.is.marked.stand i lt (sym (run.now.agrees.look (mark_name (i + 1)) (other_keeps count i marks own lt) refl) ∙ none);
      last = absent_later u count (count + 1) others (omega arith) (omega (arith, few));
    }

    journal_same : journal_of u ≡ journal_of t
    journal_same = journal_marked t u agree

    pub first_way : t.look gate_name ≢ None → IsUnderWay (o.state mid) count
    first_way gate = record { safe = safe; gate = gate_marked t u agree gate; marked = are_first; others = others }

    pub first_at : IsAt (journal_of u) (take (1000 * count) placed.steps) r
    first_at = subst (λ (l : List ℕ). IsAt l (take (1000 * count) placed.steps) r) (sym journal_same) placed.at

    pub first_journalled : IsJournalled u placed.steps count
    first_journalled = record { lists = placed.is.lists; text_is = journal_same ∙ placed.is.text_is; marked = record { stand = are_first.stand; last = inl are_first.last } }

    pub first_open : (m : ℕ) (a : Image) → IsOpen journal_text placed.steps m a t → IsOpen journal_text placed.steps count a u
    first_open m a is_open = open_unmarked journal_text placed.steps m count a t u is_open (left_same placed.steps m a is_open) are_first agree

    may : allowed left ≡ true
    may = allowed_behind (take (1000 * count) placed.steps) left (ap allowed (take-append-drop (1000 * count) placed.steps) ∙ placed.is.lists.names)

    -- what rolling forward says, told of the image before
    pub first_can : CanRollForward u placed.steps count → CanRollForward t placed.steps count
    first_can can = record { is = placed.is; can = sym (marks_alike left t u may agree).0 ∙ can.can }

    pub first_done : (s : State) → HasCommitted (visible (after left u)) s → HasCommitted (visible (after left t)) s
    first_done s done = subst (λ (x : Image). HasCommitted x s) (marks_alike left t u may agree).2 done

    first_stuck : (v : Image) (before now : List Carrier) (line : ℕ) → IsStuckAt u v before now placed.steps count line → IsStuckAt t v before now placed.steps count line
    first_stuck v before now line stuck =
        let some = take stuck.laid left in
        let s = stuck.next.step in
        let names = stuck.next.stands.1.1.listed.names in
        let last : allowed (s ∷ []) ≡ true = allowed_behind (take (1000 * count) placed.steps ++ some) (s ∷ []) names in
        let ok : allowed some ≡ true = allowed_behind (take (1000 * count) placed.steps) some (allowed_before (take (1000 * count) placed.steps ++ some) (s ∷ []) names) in
        let alike = marks_alike some t u ok agree in
        record {
          laid = stuck.laid;
          can = sym alike.0 ∙ stuck.can;
          next = record {
            step = s;
            stands = (stuck.next.stands.0, subst (λ (l : List ℕ). IsAt l ((take (1000 * count) placed.steps ++ some) ++ s ∷ []) stuck.next.stands.0) journal_same stuck.next.stands.1);
            cannot = cannot_alike s (after some t) (after some u) last alike.1 stuck.next.cannot;
            number = stuck.next.number;
          };
          held = agrees_on (begins mark_front) nowhere (after some t) (after some u) v alike.1 stuck.held;
          gate = stuck.gate;
          marked = stuck.marked;
          others = stuck.others;
          tallies = stuck.tallies;
        }

    pub first_says : (v : Image) (before now : List Carrier) (why : CommitFault) → SaysOfSteps u v before now placed.steps count why → SaysOfLaying t v before now why
    first_says v before now fault.Unchanged says = says
    first_says v before now fault.Unfinished says = says
    first_says v before now (fault.BadJournal line) says = record { steps = placed.steps; count = count; is = placed.is; at = first_stuck v before now line says }

    -- with a list that is owed
    module _ (steps : List Step) (m : ℕ) (a : Image) (is_open : IsOpen journal_text steps m a t) where
      here : IsOpen journal_text placed.steps m a t
      here = subst (λ (l : List Step). IsOpen journal_text l m a t) (sym (same_steps t r count placed steps m a is_open)) is_open

      pub first_still : IsOpen journal_text placed.steps count a u
      first_still = first_open m a here

      pub first_means : (s : State) → HasCommitted (visible (after left t)) s → HasCommitted a s
      first_means s done = subst (λ (x : Image). HasCommitted x s) (ap (λ (l : List Step). visible (after l t)) (left_same placed.steps m a here) ∙ here.ready.means) done

    -- what was laid and what a crash leaves, told of the marks before
    pub first_unfinished : (s : State) (before now : List Carrier) (steps : List Step) (m : ℕ) → IsJournalled t steps m → IsUnfinished u s placed.steps count before now → IsUnfinished t s steps m before now
    first_unfinished s before now steps m is found = record {
      laid = found.laid;
      are = subst (λ (l : List Step). AreLaidTo l found.laid t s.held before now) (rest_as t r count placed steps m is)
          (laid_alike (begins mark_front) mark_private (λ k. (content_else k).0) stage_else.0 left found.laid t u s.held before now may agree found.are);
      gate = λ lt. found.gate (subst (λ (l : List Step). found.laid < length l) (sym (rest_as t r count placed steps m is)) lt);
      resumes = λ a is_open.
          let some = found.resumes a (first_still steps m a is_open) in
          ⊎_elim
          (λ one. subst (λ (k : ℕ). CanResume s k found.laid) one some)
          (λ both.
          let none : left ≡ [] = ap (steps_left count) (same_steps t r count placed steps m a is_open) ∙ drop_of_length-le steps both.0 in
          let few = found.are.few in
          let zero : length left ≡ 0 = ap length none in
          λ c may. ⊎_elim (λ shut. inl shut) (λ marks. inr (marks.0, marks.1, omega (arith, few, zero))) (some c may))
          (counts t r count placed steps m a is_open);
    }

    -- what is owed, whatever it is
    pub first_owed : (new : F) → t.look gate_name ≢ None → (b : Image) (x : Option Image) (due : Bool) → FolderOwes journal_text b x due (o.state old)
        → ((a : Image) → IsOpen journal_text placed.steps count a u → Throughout o mid new (FolderOwes journal_text b (Some a) due)) → Throughout o old new (FolderOwes journal_text b x due)
    first_owed new gate b None due owes roll = absurd (none_owed b None due t owes.now refl gate)
    first_owed new gate b (Some a) due owes roll =
        let found = owed_open journal_text b a due t owes.now gate in
        joins o old mid new (FolderOwes journal_text b (Some a) due) (unmarking_owed found.0 found.1 a found.2 b due) (roll a (first_still found.0 found.1 a found.2))

  pub unmarked_owed : t.look gate_name ≢ None → (b : Image) (x : Option Image) (due : Bool) → FolderOwes journal_text b x due (o.state old) → Throughout o old mid (FolderOwes journal_text b x due)
  unmarked_owed gate b None due owes = absurd (none_owed b None due t owes.now refl gate)
  unmarked_owed gate b (Some a) due owes = let found = owed_open journal_text b a due t owes.now gate in unmarking_owed found.0 found.1 a found.2 b due
