-- A run through a journal, from step to step.
use Rattle.std.proofs.Common.{◌≡◌, inl, inr, ℕ, ◌+◌, ◌<◌, ◌≤◌, Bool, true, false, List, [], ◌∷◌, ◌++◌, length, append_assoc, append-nil, Option, Some, None, is_some, Result, Ok, Err, IfErr, refl, sym, ◌∙◌, ap, subst, arith}
use Rattle.std.proofs.lemmas.List.{length-append}
use Rattle.ips_outside.specs.State.{State}
use Rattle.ips_outside.specs.Outside.{Outside, IsOutside, Reads}
use Rattle.ips_steps.specs.Steps.{Step, after, feasible}
use Rattle.ips_steps.specs.Journal.{allowed}
use Rattle.ips_steps.specs.View.{sort_of}
use Rattle.ips_steps.specs.declared.step.Sort.{Sort}
use Rattle.ips_kinds.specs.Tallies.{Carrier, taken, counted, all_counted}
use Rattle.ips_kinds.proofs.Counting.{counted_more, taken_stays}
use Rattle.ips_folder.proofs.Runs.{begun}
use Rattle.ips_journal.specs.Reading.{ReaderState, IsAt, NextAnswers, TellsLine, TellsNext, journal_of}
use Rattle.ips_journal.specs.declared.fault.StepFault.{StepFault}
use Rattle.ips_journal.specs.declared.fault.StepFault.TheVariants.{BadJournal, FolderFault}
use Rattle.ips_apply.specs.Applied.{ChangedBy, OnBadJournal, AreLaid, IsReadTo, StopsBy, Ends, Applied, AppliedPart}
use Rattle.ips_apply.proofs.Turns.{allowed_behind, laid_then_read, journal_stays, changed_more, held_none, held_one, laid_one_more}

-- So many steps are finished, and the reader stands behind them.
pub record Going {F : Type 0} (o : Outside F) (old now : F) (start r : ReaderState) (before kinds : List Carrier) (count : ℕ) : Type 0 where
  pub done : List Step
  pub tallies : kinds ≡ all_counted done before
  pub number : length done ≡ count
  pub is_open : r.is_open ≡ true
  pub same_kind : o.tells now ≡ o.tells old
  pub faults : o.faults now ≡ o.faults old
  pub changes : o.changes old ≤ o.changes now
  pub told : o.tells old ≡ true → (front : List Step) → IsAt (journal_of (o.state old).held) front start → IsAt (journal_of (o.state old).held) (front ++ done) r × AreLaid o done old now

pub going_start : {F : Type 0} (o : Outside F) (sane : IsOutside o) (old : F) (r : ReaderState) (before : List Carrier) → r.is_open ≡ true → Going o old old r r before before 0
going_start o sane old r before is_open = record {
  done = [];
  tallies = refl;
  number = refl;
  is_open = is_open;
  same_kind = refl;
  faults = refl;
  changes = omega arith;
  told = λ told front at. (
    subst (λ (l : List Step). IsAt (journal_of (o.state old).held) l r) (sym (append-nil front)) at,
    record { can = refl; held = refl; moments = begun o _ _ old (sane.only_now old) },
  );
}

abbrev WhatIsRead : {F : Type 0} → Outside F → F → ReaderState → ReaderState → Result Bool StepFault → Type 0
WhatIsRead o now r s answer = o.tells now ≡ true → (front : List Step) → IsAt (journal_of (o.state now).held) front r → NextAnswers (journal_of (o.state now).held) front s answer

-- what a fault of the reader tells
abbrev WhatComesNext : {F : Type 0} → Outside F → F → ReaderState → Result Bool StepFault → Type 0
WhatComesNext o now r answer = o.tells now ≡ true → (front : List Step) → IsAt (journal_of (o.state now).held) front r → IfErr answer (TellsNext (journal_of (o.state now).held) front)

module _ {F : Type 0} (o : Outside F) (sane : IsOutside o) (old now mid : F) (start r s : ReaderState) (before kinds : List Carrier) (count : ℕ) (g : Going o old now start r before kinds count)
    (failure : Type 0) (reads : Reads o now mid failure) (answer : Result Bool StepFault) (means : WhatIsRead o now r s answer) (most : ℕ) (room : count < most) where
  -- what the answer means for the text at the start
  meant : o.tells old ≡ true → (front : List Step) → IsAt (journal_of (o.state old).held) front start → NextAnswers (journal_of (o.state old).held) (front ++ g.done) s answer
  meant told front at =
      let both = g.told told front at in
      let may : allowed g.done ≡ true = allowed_behind front g.done both.0.1.listed.names in
      let same : journal_of (o.state now).held ≡ journal_of (o.state old).held = journal_stays o sane g.done old now may both.1 in
      subst (λ (text : List ℕ). NextAnswers text (front ++ g.done) s answer) same
      (means (g.same_kind ∙ told) (front ++ g.done) (subst (λ (text : List ℕ). IsAt text (front ++ g.done) r) (sym same) both.0))

  -- the end line
  pub ends_there : answer ≡ Ok false → AppliedPart o most old mid start s before kinds (Ok (count, true))
  ends_there is = record {
    steps = g.done;
    tallies = g.tallies;
    few = omega (arith, g.number, room);
    count = sym g.number;
    full = λ off. absurd (let bad : true ≡ false = off in cc);
    fewer = λ off. omega (arith, g.number, room);
    ends = λ told front at.
        let whole = subst (NextAnswers (journal_of (o.state old).held) (front ++ g.done) s) is (meant told front at) in
        ((whole.0, whole.1), laid_then_read o sane g.done old now mid failure (g.told told front at).1 reads);
  }

  stopped : (new : F) (e : StepFault) → (o.tells old ≡ true → (front : List Step) → IsAt (journal_of (o.state old).held) front start → StopsBy o (journal_of (o.state old).held) front g.done old new e)
      → AppliedPart o most old new start s before kinds (Err e)
  stopped new e by = record { steps = g.done; tallies = g.tallies; few = omega (arith, g.number, room); count = tt; full = tt; fewer = λ off. omega (arith, g.number, room); ends = by }

  -- a fault of the reader
  module _ (next : WhatComesNext o now r answer) where
    comes_next : (line : ℕ) → answer ≡ Err (BadJournal line) → o.tells old ≡ true → (front : List Step) → IsAt (journal_of (o.state old).held) front start → IsReadTo (journal_of (o.state old).held) (front ++ g.done) line
    comes_next line is told front at =
        let both = g.told told front at in
        let may : allowed g.done ≡ true = allowed_behind front g.done both.0.1.listed.names in
        let same : journal_of (o.state now).held ≡ journal_of (o.state old).held = journal_stays o sane g.done old now may both.1 in
        let here = subst (λ (text : List ℕ). IfErr answer (TellsNext text (front ++ g.done))) same
        (next (g.same_kind ∙ told) (front ++ g.done) (subst (λ (text : List ℕ). IsAt text (front ++ g.done) r) (sym same) both.0)) in
        record { stands = (r, both.0); next = subst (λ (a : Result Bool StepFault). IfErr a (TellsNext (journal_of (o.state old).held) (front ++ g.done))) is here }

    pub ends_reading : (e : StepFault) → answer ≡ Err e → AppliedPart o most old mid start s before kinds (Err e)
    ends_reading (BadJournal line) is = stopped mid (BadJournal line)
        (λ told front at. (
          laid_then_read o sane g.done old now mid failure (g.told told front at).1 reads,
          inl (subst (NextAnswers (journal_of (o.state old).held) (front ++ g.done) s) is (meant told front at)),
          comes_next line is told front at,
        ))
    ends_reading FolderFault is = stopped mid FolderFault
        (λ told front at.
        let both = g.told told front at in
        let laid = laid_then_read o sane g.done old now mid failure both.1 reads in
        record { begun = g.done; one_more = inl refl; stands = (r, both.0); can = laid.can; held = held_none o sane g.done old mid laid; moments = laid.moments })

    pub ends_reading_as : (result : Result (ℕ × Bool) StepFault) (e : StepFault) → result ≡ Err e → answer ≡ Err e → AppliedPart o most old mid start s before kinds result
    ends_reading_as result e same is = subst (AppliedPart o most old mid start s before kinds) (sym same) (ends_reading e is)

  told_mid : o.tells old ≡ true → o.tells mid ≡ true
  told_mid told = reads.call.same_kind ∙ g.same_kind ∙ told

  -- one more step is read
  module _ (x : Step) (is : answer ≡ Ok true) (lent : s.step ≡ Some x) where
    next_at : o.tells old ≡ true → (front : List Step) → IsAt (journal_of (o.state old).held) front start → IsAt (journal_of (o.state old).held) ((front ++ g.done) ++ x ∷ []) s
    next_at told front at =
        let found = subst (NextAnswers (journal_of (o.state old).held) (front ++ g.done) s) is (meant told front at) in
        let one : found.0 ≡ x = let both = sym found.2 ∙ lent in cc in
        subst (λ (y : Step). IsAt (journal_of (o.state old).held) ((front ++ g.done) ++ y ∷ []) s) one found.1

    -- and was begun, when a call failed
    pub ends_laying : (new : F) → (o.tells old ≡ true → ChangedBy o x mid new) → AppliedPart o most old new start s before kinds (Err FolderFault)
    ends_laying new changed = stopped new FolderFault
        (λ told front at.
        let laid = laid_then_read o sane g.done old now mid failure (g.told told front at).1 reads in
        record {
          begun = g.done ++ x ∷ [];
          one_more = inr (x, refl);
          stands = (s, subst (λ (l : List Step). IsAt (journal_of (o.state old).held) l s) (append_assoc front g.done (x ∷ [])) (next_at told front at));
          can = laid.can;
          held = held_one o sane g.done x old mid new laid (changed told);
          moments = changed_more o sane g.done x old mid new laid (changed told);
        })

    -- and isn't possible
    pub ends_judging : (new : F) (line : ℕ) → line ≡ s.line → (o.tells old ≡ true → (feasible (x ∷ []) (o.state mid).held ≡ false) × Reads o mid new ⊥) → AppliedPart o most old new start s before kinds (Err (BadJournal line))
    ends_judging new line number judged = stopped new (BadJournal line)
        (λ told front at.
        let laid = laid_then_read o sane g.done old now mid failure (g.told told front at).1 reads in
        let here = next_at told front at in
        let lines : s.steps ≡ length (front ++ g.done) + 1 = here.1.steps ∙ length-append (front ++ g.done) (x ∷ []) in
        let there = here.1.line (omega (arith, lines)) in
        let numbered : line ≡ length (front ++ g.done) + 2 = omega (arith, number, there, lines) in
        let wrong = judged told in (
          laid_then_read o sane g.done old mid new ⊥ laid wrong.1,
          inr (record {
            step = x;
            stands = (s, here);
            cannot = ap (λ (t : State). feasible (x ∷ []) t.held) wrong.1.kept ∙ wrong.0;
            number = numbered;
          }),
          record { stands = (r, (g.told told front at).0); next = inr (inl numbered) },
        ))

    pub ends_at_step : (new : F) (more : List Carrier) (result : Result (ℕ × Bool) StepFault) (e : StepFault) → more ≡ kinds → result ≡ Err e → TellsLine s.line e → (o.tells mid ≡ true → ChangedBy o x mid new)
        → (o.tells mid ≡ true → OnBadJournal {T = Unit {0}} (Err e) (λ line. (feasible (x ∷ []) (o.state mid).held ≡ false) × Reads o mid new ⊥))
        → AppliedPart o most old new start s before more result
    ends_at_step new more result (BadJournal line) none same number changed bad =
        subst (AppliedPart o most old new start s before more) (sym same) (subst (λ (l : List Carrier). AppliedPart o most old new start s before l (Err (BadJournal line))) (sym none) (ends_judging new line number (λ told. bad (told_mid told))))
    ends_at_step new more result FolderFault none same number changed bad =
        subst (AppliedPart o most old new start s before more) (sym same) (subst (λ (l : List Carrier). AppliedPart o most old new start s before l (Err FolderFault)) (sym none) (ends_laying new (λ told. changed (told_mid told))))

    -- and is laid
    pub going_on : (new : F) (more : List Carrier) → s.is_open ≡ true → more ≡ counted (sort_of x) kinds → o.tells new ≡ o.tells old → o.faults new ≡ o.faults old → o.changes mid ≤ o.changes new
        → (o.tells old ≡ true → (feasible (x ∷ []) (o.state mid).held ≡ true) × ((o.state new).held ≡ after (x ∷ []) (o.state mid).held) × ChangedBy o x mid new)
        → Going o old new start s before more (count + 1)
    going_on new more is_open tallied same_kind faults made step = record {
      done = g.done ++ x ∷ [];
      tallies = tallied ∙ ap (counted (sort_of x)) g.tallies ∙ sym (counted_more g.done x before);
      number = length-append g.done (x ∷ []) ∙ ap (λ (n : ℕ). n + 1) g.number;
      is_open = is_open;
      same_kind = same_kind;
      faults = faults;
      changes = omega (arith, g.changes, reads.none_made, made);
      told = λ told front at.
          let laid = laid_then_read o sane g.done old now mid failure (g.told told front at).1 reads in
          let here = step told in (
            subst (λ (l : List Step). IsAt (journal_of (o.state old).held) l s) (append_assoc front g.done (x ∷ [])) (next_at told front at),
            laid_one_more o sane g.done x old mid new laid here.0 here.1 here.2,
          );
    }

-- what all kinds together take stays
pub takers_stay : {F : Type 0} (o : Outside F) (old now : F) (start r : ReaderState) (before kinds : List Carrier) (count : ℕ) → Going o old now start r before kinds count → ((t : Sort) → taken before t ≡ true) → (t : Sort) → taken kinds t ≡ true
takers_stay o old now start r before kinds count g all t = ap (λ (l : List Carrier). taken l t) g.tallies ∙ taken_stays g.done t before ∙ all t

-- as many are laid as were asked for
pub ends_full : {F : Type 0} (o : Outside F) (most : ℕ) (old now : F) (start r : ReaderState) (before kinds : List Carrier) (count : ℕ) → Going o old now start r before kinds count → count ≡ most
    → AppliedPart o most old now start r before kinds (Ok (count, false))
ends_full o most old now start r before kinds count g last = record {
  steps = g.done;
  tallies = g.tallies;
  few = omega (arith, g.number, last);
  count = sym g.number;
  full = λ off. g.number ∙ last;
  fewer = λ off. absurd (let bad : true ≡ false = off in cc);
  ends = λ told front at. let both = g.told told front at in (both.0, both.1);
}

-- ---- a run without an end

module _ {F : Type 0} (o : Outside F) (sane : IsOutside o) (old mid : F) (start r : ReaderState) (before kinds : List Carrier) where
  abbrev Part : Result (ℕ × Bool) StepFault → Type 0
  Part result = AppliedPart o 18446744073709551615 old mid start r before kinds result

  pub all_stopped : (part : Result (ℕ × Bool) StepFault) (e : StepFault) → part ≡ Err e → Part part → Applied o old mid start before kinds (Err e)
  all_stopped part e is applied =
      let p = subst Part is applied in
      record { steps = p.steps; tallies = p.tallies; count = tt; ends = p.ends }

  pub all_ended : (part : Result (ℕ × Bool) StepFault) (count : ℕ) → part ≡ Ok (count, true) → Part part → Applied o old mid start before kinds (Ok count)
  all_ended part count is applied =
      let p = subst Part is applied in
      record {
        steps = p.steps;
        tallies = p.tallies;
        count = omega (arith, p.count, p.few);
        ends = λ told front at. let e = p.ends told front at in (e.0.0, e.0.1, p.count, e.1);
      }

  -- what is read behind the last step that a journal can list
  module _ (part : Result (ℕ × Bool) StepFault) (count : ℕ) (is : part ≡ Ok (count, false)) (applied : Part part) (kind : o.tells mid ≡ o.tells old)
      (new : F) (s : ReaderState) (failure : Type 0) (reads : Reads o mid new failure) (answer : Result Bool StepFault) (means : WhatIsRead o mid r s answer) (next : WhatComesNext o mid r answer) where
    p : Part (Ok (count, false))
    p = subst Part is applied

    last : length p.steps ≡ 18446744073709551615
    last = p.full refl

    module _ (told : o.tells old ≡ true) (front : List Step) (at : IsAt (journal_of (o.state old).held) front start) where
      here : IsAt (journal_of (o.state old).held) (front ++ p.steps) r × AreLaid o p.steps old mid
      here = p.ends told front at

      same_text : journal_of (o.state mid).held ≡ journal_of (o.state old).held
      same_text = journal_stays o sane p.steps old mid (allowed_behind front p.steps here.0.1.listed.names) here.1

      here_mid : IsAt (journal_of (o.state mid).held) (front ++ p.steps) r
      here_mid = subst (λ (text : List ℕ). IsAt text (front ++ p.steps) r) (sym same_text) here.0

      meant_last : NextAnswers (journal_of (o.state old).held) (front ++ p.steps) s answer
      meant_last = subst (λ (text : List ℕ). NextAnswers text (front ++ p.steps) s answer) same_text (means (kind ∙ told) (front ++ p.steps) here_mid)

      next_last : IfErr answer (TellsNext (journal_of (o.state old).held) (front ++ p.steps))
      next_last = subst (λ (text : List ℕ). IfErr answer (TellsNext text (front ++ p.steps))) same_text (next (kind ∙ told) (front ++ p.steps) here_mid)

      laid_last : AreLaid o p.steps old new
      laid_last = laid_then_read o sane p.steps old mid new failure here.1 reads

    last_ends : (b : Bool) → answer ≡ Ok b → (told : o.tells old ≡ true) (front : List Step) → IsAt (journal_of (o.state old).held) front start → Ends o (journal_of (o.state old).held) front p.steps old new (Ok count)
    last_ends false answered told front at =
        let whole = subst (NextAnswers (journal_of (o.state old).held) (front ++ p.steps) s) answered (meant_last told front at) in
        (whole.0, whole.1, p.count, laid_last told front at)
    last_ends true answered told front at =
        let more = subst (NextAnswers (journal_of (o.state old).held) (front ++ p.steps) s) answered (meant_last told front at) in
        let few = more.1.1.listed.count in
        absurd (omega (arith, few, last, length-append (front ++ p.steps) (more.0 ∷ []), length-append front p.steps))

    pub all_read : (b : Bool) → answer ≡ Ok b → Applied o old new start before kinds (Ok count)
    all_read b answered = record { steps = p.steps; tallies = p.tallies; count = omega (arith, p.count, last); ends = last_ends b answered }

    last_stops : (e : StepFault) → answer ≡ Err e → (told : o.tells old ≡ true) (front : List Step) → IsAt (journal_of (o.state old).held) front start → StopsBy o (journal_of (o.state old).held) front p.steps old new e
    last_stops (BadJournal line) failed told front at = (
      laid_last told front at,
      inl (subst (NextAnswers (journal_of (o.state old).held) (front ++ p.steps) s) failed (meant_last told front at)),
      record {
        stands = (r, (here told front at).0);
        next = subst (λ (a : Result Bool StepFault). IfErr a (TellsNext (journal_of (o.state old).held) (front ++ p.steps))) failed (next_last told front at);
      },
    )
    last_stops FolderFault failed told front at =
        let laid = laid_last told front at in
        record { begun = p.steps; one_more = inl refl; stands = (r, (here told front at).0); can = laid.can; held = held_none o sane p.steps old new laid; moments = laid.moments }

    pub all_unread : (result : Result ℕ StepFault) (e : StepFault) → result ≡ Err e → answer ≡ Err e → Applied o old new start before kinds result
    all_unread result e same failed = subst (Applied o old new start before kinds) (sym same) (record { steps = p.steps; tallies = p.tallies; count = tt; ends = last_stops e failed })

-- a reader that answered a step lends one
pub lends_one : (e : Option Step) → is_some e ≡ true → (x : Step) × (e ≡ Some x)
lends_one (Some x) some = (x, refl)
lends_one None some = cc
