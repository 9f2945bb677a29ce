-- One turn of laying: at most a thousand steps laid and made safe, and a mark made behind them.
use Rattle.std.proofs.Common.{◌≡◌, ◌≢◌, inl, inr, ⊎_elim, ℕ, ◌+◌, ◌*◌, ◌^◌, ◌<◌, Bool, true, false, cond, ◌||◌, List, [], ◌++◌, append-nil, length, take, drop, Some, None, Result, Ok, Err, refl, sym, ◌∙◌, ap, subst, arith, ◌≤◌}
use Rattle.std.proofs.lemmas.Bool.{or_from}
use Rattle.ips_text.specs.Ancestry.{covers}
use Rattle.ips_outside.specs.Image.{File, Image, Agrees}
use Rattle.ips_outside.specs.State.{State, MayLeave, ChangedWithin, IsSettled, nowhere, settled}
use Rattle.ips_outside.specs.Outside.{Outside, IsOutside}
use Rattle.ips_outside.proofs.Moments.{agrees_self, agrees_on, agrees_less, within_crash}
use Rattle.ips_folder.specs.Calls.{ChangesOnly, Syncs, Throughout}
use Rattle.ips_folder.proofs.Runs.{joins, weaker, keeps_then, one_sync}
use Rattle.ips_steps.specs.Steps.{Step, after, feasible, freed, sets}
use Rattle.ips_steps.specs.Private.{gate_name, mark_front, mark_name, begins, is_private, visible}
use Rattle.ips_steps.specs.Journal.{IsJournal, allowed}
use Rattle.ips_steps.specs.Owed.{AreMarks, steps_left, IsOpen, FolderOwes}
use Rattle.ips_steps.proofs.Lists.{clash}
use Rattle.ips_steps.proofs.Owing.{owes_marking, open_marked, thousand_laid}
use Rattle.ips_steps.proofs.PrivateNames.{mark_private}
use Rattle.ips_kinds.specs.Tallies.{Carrier}
use Rattle.ips_journal.specs.Text.{journal_text}
use Rattle.ips_journal.specs.Reading.{ReaderState, IsAt, journal_of}
use Rattle.ips_journal.specs.declared.fault.StepFault.{StepFault}
use Rattle.ips_journal.specs.declared.fault.StepFault.TheVariants.{BadJournal, FolderFault}
use Rattle.ips_apply.specs.Applied.{AppliedPart, ChangedByAll, IsImpossible, StopsBy, EndsOrNot}
use Rattle.ips_apply.proofs.Turns.{allowed_behind}
use Rattle.ips_commit.specs.Pending.{mark_names}
use Rattle.ips_commit.specs.Phases.{IsUnderWay, AreCutOff, LaysTo, LaysThousand}
use Rattle.ips_commit.proofs.CutOff.{begun_is, one_at_most, seen_but, seen_same, as_own}
use Rattle.ips_commit.proofs.Lays.{HasBegun, next_of, begins_next, part_next, part_lists, stopped_begun, stopped_next}
use Rattle.ips_commit.proofs.Marked.{gate_laid, marks_laid, others_laid, gate_marked, at_marks, absent_later, one_more_stands, one_more_or_not, others_more, same_marks}
use Rattle.ips_commit.proofs.Owing.{ready_text, laying_owed, laying_open, laying_left, nodes, safe_left}

module _ {F : Type 0} (o : Outside F) (sane : IsOutside o) (first : ℕ) (old at : F) (start r : ReaderState) (before now : List Carrier) where
  abbrev t : Image
  t = (o.state old).held

  abbrev text : List ℕ
  text = journal_of t

  same_image : (u : Image) (steps : List Step) → u ≡ after steps t → Agrees (begins mark_front) nowhere (after steps t) u
  same_image u steps is = subst (λ (v : Image). Agrees (begins mark_front) nowhere (after steps t) v) (sym is) (agrees_self (begins mark_front) nowhere (after steps t))

  -- ---- laying that was stopped

  stopped : IsUnderWay (o.state old) first → (front steps : List Step) (e : StepFault) → StopsBy o text front steps old at e → LaysTo o text front steps first old at r (Err e)
  stopped way front steps (BadJournal line) ends = ⊎_elim
      (λ bad. inl bad)
      (λ cannot.
      let may = allowed_behind front steps ends.2.stands.1.1.listed.names in
      let h = ends.0.moments.now.agrees in
      inr (record {
        can = ends.0.can;
        held = same_image (o.state at).held steps ends.0.held;
        next = subst (λ (u : Image). IsImpossible text (front ++ steps) u line) ends.0.held cannot;
        marked = marks_laid steps may _ t (o.state at).held h first way.marked;
        others = others_laid steps may _ t (o.state at).held h (mark_names first) way.others;
      }))
      ends.1
  stopped way front steps FolderFault ends =
      let more = drop (length steps) ends.begun in
      let whole : ends.begun ≡ steps ++ more = begun_is steps ends.begun ends.one_more in
      record {
        begun = more;
        one_more = one_at_most steps ends.begun ends.one_more;
        names = subst (λ (l : List Step). allowed l ≡ true) whole (allowed_behind front ends.begun ends.stands.1.1.listed.names);
        next = λ all lists is. subst (λ (l : List Step). front ++ l ≡ take (length (front ++ l)) all) whole (begins_next text front ends.begun ends.stands all lists is);
        can = ends.can;
        held = seen_but more (after steps t) (o.state at).held ends.held;
        gate = gate_laid ends.begun (allowed_behind front ends.begun ends.stands.1.1.listed.names) _ t (o.state at).held ends.moments.now.agrees way.gate;
      }

  -- all that was begun was finished, and nothing but the updater's own names was changed since
  cut_behind : (new : F) (front steps : List Step) → allowed steps ≡ true → ((all : List Step) → IsJournal all → text ≡ journal_text all → front ++ steps ≡ take (length (front ++ steps)) all)
      → feasible steps t ≡ true → Agrees is_private nowhere (after steps t) (o.state new).held
      → (o.state new).held.look gate_name ≢ None → AreCutOff o text front steps old new
  cut_behind new front steps may next can held gate = record {
    begun = [];
    one_more = inl refl;
    names = subst (λ (l : List Step). allowed l ≡ true) whole may;
    next = λ all lists is. subst (λ (l : List Step). front ++ l ≡ take (length (front ++ l)) all) whole (next all lists is);
    can = can;
    held = seen_same [] (after steps t) (o.state new).held held;
    gate = gate;
  }
    where
      whole : steps ≡ steps ++ []
      whole = sym (append-nil steps)

  pub turn_stopped : (result : Result (ℕ × Bool) StepFault) (e : StepFault) → result ≡ Err e → AppliedPart o 1000 old at start r before now result → LaysThousand o first old at start r before now (Err e)
  turn_stopped result e is applied =
      let a = subst (λ (x : Result (ℕ × Bool) StepFault). AppliedPart o 1000 old at start r before now x) is applied in
      record {
        lays = record {
          steps = a.steps;
          marks = first;
          tallies = a.tallies;
          more = omega arith;
          few = let few = a.few in omega arith;
          many = omega arith;
          fewer = λ line bad. let less = a.fewer refl in omega arith;
          full = λ bad. cc;
          next = λ told way front from all lists is_text. stopped_next o old at text front a.steps e (a.ends told front from) all lists is_text;
          ends = λ told way front from. stopped way front a.steps e (a.ends told front from);
          owed = λ told way all b x due is_open from. laying_owed o sane all first x old at told is_open way.safe (stopped_begun o old at text (take (1000 * first) all) a.steps e (a.ends told (take (1000 * first) all) from)) b due;
          stays_open = λ told way all x is_open from. tt;
          left = λ told way all x is_open from c may. (first, laying_left o sane all first x old at told is_open (stopped_begun o old at text (take (1000 * first) all) a.steps e (a.ends told (take (1000 * first) all) from)) way.safe c may, (let few = a.few in omega arith));
        };
        count = tt;
        marks = tt;
      }

  -- ---- laying to the end of a part

  module _ (n : ℕ) (ended : Bool) (result : Result (ℕ × Bool) StepFault) (is : result ≡ Ok (n, ended)) (applied : AppliedPart o 1000 old at start r before now result) (kind : o.tells at ≡ o.tells old) where
    abbrev Part : Type 0
    Part = AppliedPart o 1000 old at start r before now (Ok (n, ended))

    done : Part
    done = subst (λ (x : Result (ℕ × Bool) StepFault). AppliedPart o 1000 old at start r before now x) is applied

    abbrev steps : List Step
    steps = done.steps

    module _ (mid : F) {T E : Type 0} (answer : Result T E) (sync : Syncs o at mid answer) where
      abbrev From : List Step → Type 0
      From front = IsAt text front start

      may : o.tells old ≡ true → (front : List Step) → From front → allowed steps ≡ true
      may told front from = allowed_behind front steps (part_lists text (front ++ steps) r ended (done.ends told front from).0).names

      next : o.tells old ≡ true → (front : List Step) → From front → (all : List Step) → IsJournal all → text ≡ journal_text all → front ++ steps ≡ take (length (front ++ steps)) all
      next told front from all lists is_text = part_next text front steps r ended (done.ends told front from).0 all lists is_text

      moments : o.tells old ≡ true → (front : List Step) → From front → ChangedByAll o steps old mid
      moments told front from =
          let loose = λ (q : List ℕ). freed steps q || sets steps t q in
          keeps_then o (freed steps) loose old at mid (done.ends told front from).1.moments (one_sync o sane (freed steps) loose at mid answer (kind ∙ told) sync)

      begun : o.tells old ≡ true → (front : List Step) → From front → HasBegun o text front old mid
      begun told front from = record { begun = steps; next = next told front from; moments = moments told front from }

      owed : o.tells old ≡ true → IsUnderWay (o.state old) first → (all : List Step) (b x : Image) (due : Bool) → IsOpen journal_text all first x t → From (take (1000 * first) all) → Throughout o old mid (FolderOwes journal_text b (Some x) due)
      owed told way all b x due is_open from = laying_owed o sane all first x old mid told is_open way.safe (begun told (take (1000 * first) all) from) b due

      left_here : o.tells old ≡ true → IsUnderWay (o.state old) first → (all : List Step) (x : Image) → IsOpen journal_text all first x t → From (take (1000 * first) all) → (c : Image) → MayLeave (o.state mid) c → (count : ℕ) × AreMarks c count × (length steps + 1000 * first ≤ 1000 * count + 1000)
      left_here told way all x is_open from c may = (first, laying_left o sane all first x old mid told is_open (begun told (take (1000 * first) all) from) way.safe c may, (let few = done.few in omega arith))

      -- the sync failed
      pub turn_unsynced : o.state mid ≡ o.state at → LaysThousand o first old mid start r before now (Err FolderFault)
      turn_unsynced kept = record {
        lays = record {
          steps = steps;
          marks = first;
          tallies = done.tallies;
          more = omega arith;
          few = let few = done.few in omega arith;
          many = omega arith;
          fewer = λ line bad. cc;
          full = λ bad. cc;
          next = λ told way front from. next told front from;
          ends = λ told way front from.
              let same : (o.state mid).held ≡ after steps t = ap (λ (s : State). s.held) kept ∙ (done.ends told front from).1.held in
              cut_behind mid front steps (may told front from) (next told front from) (done.ends told front from).1.can
              (subst (λ (u : Image). Agrees is_private nowhere (after steps t) u) (sym same) (agrees_self is_private nowhere (after steps t)))
              (gate_laid steps (may told front from) _ t (o.state mid).held (moments told front from).now.agrees way.gate);
          owed = owed;
          stays_open = λ told way all x is_open from. tt;
          left = left_here;
        };
        count = tt;
        marks = tt;
      }

      module _ (all_safe : o.tells at ≡ true → o.state mid ≡ settled (o.state at)) where
        held : o.tells old ≡ true → (front : List Step) → From front → (o.state mid).held ≡ after steps t
        held told front from = ap (λ (s : State). s.held) (all_safe (kind ∙ told)) ∙ (done.ends told front from).1.held

        pub turn_way : o.tells old ≡ true → IsUnderWay (o.state old) first → (front : List Step) → From front → IsUnderWay (o.state mid) first
        turn_way told way front from =
            let ok = may told front from in
            let h = (moments told front from).now.agrees in
            record {
              safe = subst IsSettled (sym (all_safe (kind ∙ told))) (record { whole = λ q. refl; modes = λ q. refl });
              gate = gate_laid steps ok _ t (o.state mid).held h way.gate;
              marked = marks_laid steps ok _ t (o.state mid).held h first way.marked;
              others = others_laid steps ok _ t (o.state mid).held h (mark_names first) way.others;
            }

        -- the end was read
        pub turn_ended : ended ≡ true → LaysThousand o first old mid start r before now (Ok (n, ended))
        turn_ended at_end = record {
          lays = record {
            steps = steps;
            marks = first;
            tallies = done.tallies;
            more = omega arith;
            few = let few = done.few in omega arith;
            many = omega arith;
            fewer = λ line bad. cc;
            full = λ same. absurd (let off : ended ≡ false = cc in clash ended at_end off);
            next = λ told way front from. next told front from;
            ends = λ told way front from.
                let ends = subst (λ (b : Bool). EndsOrNot text (front ++ steps) r b) at_end (done.ends told front from).0 in
                subst (λ (b : Bool). LaysTo o text front steps first old mid r (Ok b)) (sym at_end) (
                  ends.0,
                  ends.1,
                  record { can = (done.ends told front from).1.can; held = same_image (o.state mid).held steps (held told front from); way = turn_way told way front from },
                );
            owed = owed;
            stays_open = λ told way all x is_open from. laying_open o sane all first x old mid told is_open (begun told (take (1000 * first) all) from);
            left = left_here;
          };
          count = done.count;
          marks = ap (λ (b : Bool). cond b first (first + 1)) (sym at_end);
        }

        -- a thousand are laid, and more may follow
        module _ (goes_on : ended ≡ false) (few : first + 2 < 2 ^ 64) where
          thousand : length steps ≡ 1000
          thousand = done.full goes_on

          from_here : (told : o.tells old ≡ true) (front : List Step) → From front → IsAt text (front ++ steps) r
          from_here told front from = subst (λ (b : Bool). EndsOrNot text (front ++ steps) r b) goes_on (done.ends told front from).0

          -- what holds of a list that is owed
          module _ (told : o.tells old ≡ true) (way : IsUnderWay (o.state old) first) (all : List Step) (x : Image) (is_open : IsOpen journal_text all first x t) (from : From (take (1000 * first) all)) where
            abbrev u : Image
            u = (o.state mid).held

            still_open : IsOpen journal_text all first x u
            still_open = laying_open o sane all first x old mid told is_open (begun told (take (1000 * first) all) from)

            are_next : steps ≡ take 1000 (steps_left first all)
            are_next = next_of all steps (1000 * first) (next told (take (1000 * first) all) from all is_open.ready.lists (ready_text all first x t is_open.ready)) ∙ ap (λ (k : ℕ). take k (steps_left first all)) thousand

            rest : (feasible (steps_left (first + 1) all) u ≡ true) × (visible (after (steps_left (first + 1) all) u) ≡ x)
            rest = thousand_laid journal_text all first x t u is_open.ready (held told (take (1000 * first) all) from ∙ ap (λ (l : List Step). after l t) are_next)

            bare : u.look (mark_name (first + 2)) ≡ None
            bare = absent_later u first (first + 2) (turn_way told way (take (1000 * first) all) from).others (omega arith) few

          module _ (new : F) (run : o.tells mid ≡ true → ChangesOnly o (covers (mark_name (first + 1))) nowhere mid new) (kind_1 : o.tells mid ≡ o.tells old) where
            marking : o.tells old ≡ true → IsUnderWay (o.state old) first → (all : List Step) (b x : Image) (due : Bool) → IsOpen journal_text all first x t → From (take (1000 * first) all) → Throughout o old new (FolderOwes journal_text b (Some x) due)
            marking told way all b x due is_open from =
                joins o old mid new (FolderOwes journal_text b (Some x) due) (owed told way all b x due is_open from)
                (weaker o mid new (ChangedWithin (covers (mark_name (first + 1))) nowhere (o.state mid)) (FolderOwes journal_text b (Some x) due)
                (λ s w. owes_marking journal_text all first x b due (o.state mid) s (still_open told way all x is_open from) (nodes o sane mid (kind_1 ∙ told)) (turn_way told way (take (1000 * first) all) from).safe few
                (rest told way all x is_open from).0 (rest told way all x is_open from).1 (bare told way all x is_open from) w) (run (kind_1 ∙ told)).moments)

            -- the mark wasn't made
            pub turn_unmarked : LaysThousand o first old new start r before now (Err FolderFault)
            turn_unmarked = record {
              lays = record {
                steps = steps;
                marks = first;
                tallies = done.tallies;
                more = omega arith;
                few = let few = done.few in omega arith;
                many = omega arith;
                fewer = λ line bad. cc;
                full = λ bad. cc;
                next = λ told way front from. next told front from;
                ends = λ told way front from.
                    let same = held told front from in
                    let marked = at_marks (first + 1) (o.state mid).held (o.state new).held (run (kind_1 ∙ told)).now.agrees in
                    cut_behind new front steps (may told front from) (next told front from) (done.ends told front from).1.can
                    (subst (λ (u : Image). Agrees is_private nowhere u (o.state new).held) same (as_own (begins mark_front) mark_private (o.state mid).held (o.state new).held marked))
                    (gate_marked (o.state mid).held (o.state new).held marked (turn_way told way front from).gate);
                owed = marking;
                stays_open = λ told way all x is_open from. tt;
                left = λ told way all x is_open from c may.
                    let here = turn_way told way (take (1000 * first) all) from in
                    let h = agrees_less _ _ (covers (mark_name (first + 1))) nowhere (o.state mid).held c (λ q f. or_from _ _ f (here.safe.whole q)) (λ q l. or_from false _ refl (here.safe.modes q))
                    (within_crash (covers (mark_name (first + 1))) nowhere (o.state mid) (o.state new) c (run (kind_1 ∙ told)).now may) in
                    let few_more = done.few in
                    ⊎_elim (λ are. (first, are, omega (arith, few_more))) (λ are. (first + 1, are, omega (arith, few_more))) (one_more_or_not first few (o.state mid).held c h here.marked here.others);
              };
              count = tt;
              marks = tt;
            }

            -- it was, and is safe
            module _ (made : o.tells mid ≡ true → (o.state new).held.look (mark_name (first + 1)) ≡ Some (File 384 [])) (safe : o.tells mid ≡ true → IsSettled (o.state new)) where
              there : o.tells mid ≡ true → (o.state new).held.look (mark_name (first + 1)) ≢ None
              there told none = let bad : Some (File 384 []) ≡ None = sym (made told) ∙ none in cc

              way_on : o.tells old ≡ true → IsUnderWay (o.state old) first → (front : List Step) → From front → IsUnderWay (o.state new) (first + 1)
              way_on told way front from =
                  let u = (o.state mid).held in
                  let v = (o.state new).held in
                  let h = (run (kind_1 ∙ told)).now.agrees in
                  let here = turn_way told way front from in
                  record {
                    safe = safe (kind_1 ∙ told);
                    gate = gate_marked u v (at_marks (first + 1) u v h) here.gate;
                    marked = one_more_stands first few u v h here.marked here.others (there (kind_1 ∙ told));
                    others = others_more first few u v h here.others;
                  }

              pub turn_marked : LaysThousand o first old new start r before now (Ok (n, ended))
              turn_marked = record {
                lays = record {
                  steps = steps;
                  marks = first + 1;
                  tallies = done.tallies;
                  more = omega arith;
                  few = let few = done.few in omega arith;
                  many = let so_many = thousand in omega (arith, so_many);
                  fewer = λ line bad. cc;
                  full = λ same. let so_many = thousand in omega (arith, so_many);
                  next = λ told way front from. next told front from;
                  ends = λ told way front from.
                      subst (λ (b : Bool). LaysTo o text front steps (first + 1) old new r (Ok b)) (sym goes_on) (
                        from_here told front from,
                        record {
                          can = (done.ends told front from).1.can;
                          held = agrees_on (begins mark_front) nowhere (after steps t) (o.state mid).held (o.state new).held (same_image (o.state mid).held steps (held told front from))
                              (at_marks (first + 1) (o.state mid).held (o.state new).held (run (kind_1 ∙ told)).now.agrees);
                          way = way_on told way front from;
                        },
                      );
                  owed = marking;
                  stays_open = λ told way all x is_open from.
                      open_marked journal_text all first x (o.state mid).held (still_open told way all x is_open from) (nodes o sane mid (kind_1 ∙ told)) few
                      (rest told way all x is_open from).0 (rest told way all x is_open from).1 (bare told way all x is_open from) (o.state new).held (run (kind_1 ∙ told)).now.agrees (there (kind_1 ∙ told));
                  left = λ told way all x is_open from c may.
                      let here = way_on told way (take (1000 * first) all) from in
                      (first + 1, same_marks nowhere (o.state new).held c (first + 1) (safe_left (o.state new) c here.safe may) (λ i. refl) here.marked, (let few_more = done.few in omega (arith, few_more)));
                };
                count = done.count;
                marks = ap (λ (b : Bool). cond b first (first + 1)) (sym goes_on);
              }
