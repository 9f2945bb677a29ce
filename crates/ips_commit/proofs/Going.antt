-- Turns of laying one after another.
use Rattle.std.proofs.Common.{◌≡◌, inl, inr, ⊎_elim, ℕ, ◌+◌, ◌*◌, ◌≤◌, min, Bool, true, false, List, [], ◌∷◌, ◌++◌, append_assoc, append-nil, length, length-append, take, Result, Ok, Err, Some, refl, sym, ◌∙◌, ap, subst, arith}
use Rattle.ips_outside.specs.Image.{Image, Agrees}
use Rattle.ips_outside.specs.State.{nowhere}
use Rattle.ips_outside.specs.Outside.{Outside, IsOutside}
use Rattle.ips_outside.proofs.Moments.{agrees_self, agrees_on, within_self}
use Rattle.ips_folder.proofs.Runs.{started, joins}
use Rattle.ips_steps.specs.Steps.{Step, after, feasible, sets}
use Rattle.ips_steps.specs.Private.{mark_front, begins}
use Rattle.ips_steps.specs.Journal.{IsJournal, allowed}
use Rattle.ips_steps.specs.Owed.{IsOpen, FolderOwes}
use Rattle.ips_steps.specs.View.{sort_of}
use Rattle.ips_steps.specs.declared.step.Sort.{Sort}
use Rattle.ips_steps.proofs.Linked.{after_append, after_within, feasible_append, marks_alike}
use Rattle.ips_steps.proofs.Owing.{owes_laying}
use Rattle.ips_steps.proofs.PrivateNames.{mark_private}
use Rattle.ips_kinds.specs.Tallies.{Carrier, counted, all_counted, taken}
use Rattle.ips_kinds.proofs.Counting.{taken_stays}
use Rattle.ips_journal.specs.Text.{journal_text}
use Rattle.ips_journal.specs.Bad.{IsBadLine}
use Rattle.ips_journal.specs.Reading.{ReaderState, IsAt, journal_of}
use Rattle.ips_journal.specs.declared.fault.StepFault.{StepFault}
use Rattle.ips_journal.specs.declared.fault.StepFault.TheVariants.{BadJournal, FolderFault}
use Rattle.ips_apply.proofs.Turns.{allowed_behind}
use Rattle.ips_commit.specs.Phases.{IsUnderWay, AreMarkedOff, IsHeldUp, AreCutOff, LaysTo, Lays, LaysThousand, LaysAll, ended_of}
use Rattle.ips_commit.proofs.CutOff.{allowed_both, but_alike, content_else}
use Rattle.ips_commit.proofs.Lays.{begins_next, front_grown, allowed_before}
use Rattle.ips_commit.proofs.Marked.{journal_laid, journal_marked, same_marks}
use Rattle.ips_commit.proofs.Owing.{nodes, ready_text, safe_left}

-- ---- steps in two parts

pub counted_on : (first second : List Step) (kinds : List Carrier) → all_counted (first ++ second) kinds ≡ all_counted second (all_counted first kinds)
counted_on [] second kinds = refl
counted_on (s ∷ first) second kinds = counted_on first second (counted (sort_of s) kinds)

-- the second part laid on what the first one left, but for marks
module _ (t mid : Image) (first second : List Step) (may_2 : allowed second ≡ true) (h : Agrees (begins mark_front) nowhere (after first t) mid) where
  pub both_feasible : feasible first t ≡ true → feasible second mid ≡ true → feasible (first ++ second) t ≡ true
  both_feasible can can_2 = feasible_append first second t can (sym (marks_alike second (after first t) mid may_2 h).0 ∙ can_2)

  pub both_agree : Agrees (begins mark_front) nowhere (after (first ++ second) t) (after second mid)
  both_agree = subst (λ (u : Image). Agrees (begins mark_front) nowhere u (after second mid)) (sym (after_append first second t)) (marks_alike second (after first t) mid may_2 h).1

  pub both_held : (new : Image) → Agrees (begins mark_front) nowhere (after second mid) new → Agrees (begins mark_front) nowhere (after (first ++ second) t) new
  both_held new last = agrees_on (begins mark_front) nowhere (after (first ++ second) t) (after second mid) new both_agree last

-- a step that can't be laid can't be where only marks are others
pub cannot_alike : (s : Step) (t u : Image) → allowed (s ∷ []) ≡ true → Agrees (begins mark_front) nowhere t u → feasible (s ∷ []) u ≡ false → feasible (s ∷ []) t ≡ false
cannot_alike s t u may h cannot = sym (marks_alike (s ∷ []) t u may h).0 ∙ cannot

module _ {F : Type 0} (o : Outside F) (sane : IsOutside o) (first : ℕ) where
  -- ---- before the first turn

  pub lays_nothing : (old : F) (start : ReaderState) (before : List Carrier) → Lays o first old old start start before before (Ok false)
  lays_nothing old start before = record {
    steps = [];
    marks = first;
    tallies = refl;
    more = omega arith;
    many = omega arith;
    few = omega arith;
    fewer = λ line bad. cc;
    full = λ same. omega arith;
    next = λ told way front at all lists is. begins_next (journal_of (o.state old).held) front [] (start, here told front at) all lists is;
    ends = λ told way front at. (here told front at, record { can = refl; held = agrees_self (begins mark_front) nowhere (o.state old).held; way = way });
    owed = λ told way all b a due is_open at. started o old (FolderOwes journal_text b (Some a) due) (sane.only_now old)
        (owes_laying journal_text all first a b due (o.state old) (o.state old) is_open (nodes o sane old told) way.safe (within_self _ _ (o.state old)));
    stays_open = λ told way all a is_open at. is_open;
    left = λ told way all a is_open at c may. (first, same_marks nowhere (o.state old).held c first (safe_left (o.state old) c way.safe may) (λ i. refl) way.marked, omega arith);
  }
    where
      here : o.tells old ≡ true → (front : List Step) → IsAt (journal_of (o.state old).held) front start → IsAt (journal_of (o.state old).held) (front ++ []) start
      here told front at = subst (λ (l : List Step). IsAt (journal_of (o.state old).held) l start) (sym (append-nil front)) at

  -- ---- a part, and what follows it

  module _ (old mid : F) (start half : ReaderState) (before between : List Carrier) (one : Lays o first old mid start half before between (Ok false)) where
    abbrev t : Image
    t = (o.state old).held

    abbrev text : List ℕ
    text = journal_of t

    module _ (told : o.tells old ≡ true) (way : IsUnderWay (o.state old) first) (front : List Step) (at : IsAt text front start) where
      laid_off : IsAt text (front ++ one.steps) half × AreMarkedOff o one.steps one.marks old mid
      laid_off = one.ends told way front at

      pub may_first : allowed one.steps ≡ true
      may_first = allowed_behind front one.steps laid_off.0.1.listed.names

      pub same_text : journal_of (o.state mid).held ≡ text
      same_text = journal_marked (after one.steps t) (o.state mid).held laid_off.1.held
          ∙ journal_laid one.steps may_first (sets one.steps t) t (after one.steps t) (after_within one.steps t)

      pub way_half : IsUnderWay (o.state mid) one.marks
      way_half = laid_off.1.way

      pub at_half : IsAt (journal_of (o.state mid).held) (front ++ one.steps) half
      at_half = subst (λ (l : List ℕ). IsAt l (front ++ one.steps) half) (sym same_text) laid_off.0

    module _ (new : F) (r : ReaderState) (now : List Carrier) (how : Result Bool StepFault) (marks : ℕ) (are : one.marks ≡ marks) (two : Lays o marks mid new half r between now how) (kind : o.tells mid ≡ o.tells old) where
      abbrev both : List Step
      both = one.steps ++ two.steps

      sum : length both ≡ length one.steps + length two.steps
      sum = length-append one.steps two.steps

      grown : length one.steps + 1000 * first ≡ 1000 * marks
      grown = one.full refl ∙ ap (λ (k : ℕ). 1000 * k) are

      way_on : o.tells old ≡ true → IsUnderWay (o.state old) first → (front : List Step) → IsAt text front start → IsUnderWay (o.state mid) marks
      way_on told way front at = subst (λ (k : ℕ). IsUnderWay (o.state mid) k) are (way_half told way front at)

      module _ (told : o.tells old ≡ true) (way : IsUnderWay (o.state old) first) (front : List Step) (at : IsAt text front start) where
        abbrev assoc : (front ++ one.steps) ++ two.steps ≡ front ++ both
        assoc = append_assoc front one.steps two.steps

        both_next : (all : List Step) → IsJournal all → text ≡ journal_text all → front ++ both ≡ take (length (front ++ both)) all
        both_next all lists is = subst (λ (l : List Step). l ≡ take (length l) all) assoc
            (two.next (kind ∙ told) (way_on told way front at) (front ++ one.steps) (at_half told way front at) all lists (same_text told way front at ∙ is))

        off : allowed two.steps ≡ true → AreMarkedOff o two.steps two.marks mid new → AreMarkedOff o both two.marks old new
        off may_2 last =
            let h = (laid_off told way front at).1.held in
            record {
              can = both_feasible t (o.state mid).held one.steps two.steps may_2 h (laid_off told way front at).1.can last.can;
              held = both_held t (o.state mid).held one.steps two.steps may_2 h (o.state new).held last.held;
              way = last.way;
            }

        -- two moved to the front of the first
        held_up : (line : ℕ) → IsHeldUp o (journal_of (o.state mid).held) (front ++ one.steps) two.steps two.marks line mid new → IsHeldUp o text front both two.marks line old new
        held_up line up =
            let s = up.next.step in
            let h = (laid_off told way front at).1.held in
            let names : allowed (((front ++ one.steps) ++ two.steps) ++ s ∷ []) ≡ true = up.next.stands.1.1.listed.names in
            let last : allowed (s ∷ []) ≡ true = allowed_behind ((front ++ one.steps) ++ two.steps) (s ∷ []) names in
            let may_2 : allowed two.steps ≡ true = allowed_behind (front ++ one.steps) two.steps (allowed_before ((front ++ one.steps) ++ two.steps) (s ∷ []) names) in
            record {
              can = both_feasible t (o.state mid).held one.steps two.steps may_2 h (laid_off told way front at).1.can up.can;
              held = both_held t (o.state mid).held one.steps two.steps may_2 h (o.state new).held up.held;
              next = record {
                step = s;
                stands = (
                  up.next.stands.0,
                  subst (λ (l : List ℕ). IsAt l ((front ++ both) ++ s ∷ []) up.next.stands.0) (same_text told way front at)
                      (subst (λ (l : List Step). IsAt (journal_of (o.state mid).held) (l ++ s ∷ []) up.next.stands.0) assoc up.next.stands.1),
                );
                cannot = cannot_alike s (after both t) (after two.steps (o.state mid).held) last (both_agree t (o.state mid).held one.steps two.steps may_2 h) up.next.cannot;
                number = subst (λ (l : List Step). line ≡ length l + 2) assoc up.next.number;
              };
              marked = up.marked;
              others = up.others;
            }

        cut_off : AreCutOff o (journal_of (o.state mid).held) (front ++ one.steps) two.steps mid new → AreCutOff o text front both old new
        cut_off cut =
            let may = may_first told way front at in
            let h = (laid_off told way front at).1.held in
            let may_2 : allowed two.steps ≡ true = allowed_before two.steps cut.begun cut.names in
            let whole : one.steps ++ (two.steps ++ cut.begun) ≡ both ++ cut.begun = sym (append_assoc one.steps two.steps cut.begun) in
            record {
              begun = cut.begun;
              one_more = cut.one_more;
              names = subst (λ (l : List Step). allowed l ≡ true) whole (allowed_both one.steps (two.steps ++ cut.begun) may cut.names);
              next = λ all lists is. subst (λ (l : List Step). l ≡ take (length l) all) (append_assoc front one.steps (two.steps ++ cut.begun) ∙ ap (λ (l : List Step). front ++ l) whole)
                  (cut.next all lists (same_text told way front at ∙ is));
              can = both_feasible t (o.state mid).held one.steps two.steps may_2 h (laid_off told way front at).1.can cut.can;
              held = but_alike (begins mark_front) mark_private (λ k. (content_else k).0) cut.begun cut.one_more (allowed_behind two.steps cut.begun cut.names) (after both t) (after two.steps (o.state mid).held) (o.state new).held
                  (both_agree t (o.state mid).held one.steps two.steps may_2 h) cut.held;
              gate = cut.gate;
            }

        both_ends : (x : Result Bool StepFault) → LaysTo o (journal_of (o.state mid).held) (front ++ one.steps) two.steps two.marks mid new r x → LaysTo o text front both two.marks old new r x
        both_ends (Ok true) ends =
            let same = same_text told way front at in (
              subst IsJournal assoc ends.0,
              sym same ∙ ends.1 ∙ ap journal_text assoc,
              off (allowed_behind (front ++ one.steps) two.steps ends.0.names) ends.2,
            )
        both_ends (Ok false) ends = (
          subst (λ (l : List ℕ). IsAt l (front ++ both) r) (same_text told way front at) (subst (λ (l : List Step). IsAt (journal_of (o.state mid).held) l r) assoc ends.0),
          off (allowed_behind (front ++ one.steps) two.steps ends.0.1.listed.names) ends.1,
        )
        both_ends (Err (BadJournal line)) ends = ⊎_elim
            (λ bad. inl (subst (λ (l : List ℕ). IsBadLine l line) (same_text told way front at) bad))
            (λ up. inr (held_up line up))
            ends
        both_ends (Err FolderFault) ends = cut_off ends

      module _ (told : o.tells old ≡ true) (way : IsUnderWay (o.state old) first) (all : List Step) (a : Image) (is_open : IsOpen journal_text all first a t) (at : IsAt text (take (1000 * first) all) start) where
        still_open : IsOpen journal_text all marks a (o.state mid).held
        still_open = subst (λ (k : ℕ). IsOpen journal_text all k a (o.state mid).held) are (one.stays_open told way all a is_open at)

        at_next : IsAt (journal_of (o.state mid).held) (take (1000 * marks) all) half
        at_next = subst (λ (l : List Step). IsAt (journal_of (o.state mid).held) l half)
            (front_grown all one.steps first marks (one.next told way (take (1000 * first) all) at all is_open.ready.lists (ready_text all first a t is_open.ready)) grown)
            (at_half told way (take (1000 * first) all) at)

      pub lays_then : Lays o first old new start r before now how
      lays_then = record {
        steps = both;
        marks = two.marks;
        tallies = two.tallies ∙ ap (all_counted two.steps) one.tallies ∙ sym (counted_on one.steps two.steps before);
        more = let up = one.more in let more = two.more in omega (arith, are);
        many = let so_many = two.many in omega (arith, sum, grown);
        few = let so_many = two.few in omega (arith, sum, grown);
        fewer = λ line is. let so_many = two.fewer line is in omega (arith, sum, grown);
        full = λ same. let so_many = two.full same in omega (arith, sum, grown);
        next = both_next;
        ends = λ told way front at. both_ends told way front at how (two.ends (kind ∙ told) (way_on told way front at) (front ++ one.steps) (at_half told way front at));
        owed = λ told way all b a due is_open at. joins o old mid new (FolderOwes journal_text b (Some a) due) (one.owed told way all b a due is_open at)
            (two.owed (kind ∙ told) (way_on told way (take (1000 * first) all) at) all b a due (still_open told way all a is_open at) (at_next told way all a is_open at));
        stays_open = λ told way all a is_open at. two.stays_open (kind ∙ told) (way_on told way (take (1000 * first) all) at) all a (still_open told way all a is_open at) (at_next told way all a is_open at);
        left = λ told way all a is_open at c may.
            let some = two.left (kind ∙ told) (way_on told way (take (1000 * first) all) at) all a (still_open told way all a is_open at) (at_next told way all a is_open at) c may in
            (some.0, some.1, (let so_many = some.2 in omega (arith, sum, grown, so_many)));
      }

-- ---- turn by turn

-- So many turns were made: a thousand steps are laid in each and a mark stands behind each, and no call failed.
pub record Going {F : Type 0} (o : Outside F) (first turn : ℕ) (old now : F) (start r : ReaderState) (before kinds : List Carrier) : Type 0 where
  pub lays : Lays o first old now start r before kinds (Ok false)
  pub marks : lays.marks ≡ first + turn
  pub is_open : r.is_open ≡ true
  pub same_kind : o.tells now ≡ o.tells old
  pub faults : o.faults now ≡ o.faults old
  pub changes : o.changes old ≤ o.changes now

module _ {F : Type 0} (o : Outside F) (sane : IsOutside o) (first turn : ℕ) (old mid : F) (start half : ReaderState) (before between : List Carrier) (g : Going o first turn old mid start half before between) where
  so_many : length g.lays.steps ≡ 1000 * turn
  so_many = let whole = g.lays.full refl in omega (arith, g.marks)

  pub going_way : o.tells old ≡ true → IsUnderWay (o.state old) first → (front : List Step) × IsAt (journal_of (o.state old).held) front start → IsUnderWay (o.state mid) (first + turn)
  going_way told way at = subst (λ (k : ℕ). IsUnderWay (o.state mid) k) g.marks (way_half o sane first old mid start half before between g.lays told way at.0 at.1)

  pub going_at : o.tells old ≡ true → IsUnderWay (o.state old) first → (at : (front : List Step) × IsAt (journal_of (o.state old).held) front start) → (front : List Step) × IsAt (journal_of (o.state mid).held) front half
  going_at told way at = (at.0 ++ g.lays.steps, at_half o sane first old mid start half before between g.lays told way at.0 at.1)

  pub going_takers : ((s : Sort) → taken before s ≡ true) → (s : Sort) → taken between s ≡ true
  going_takers all s = ap (λ (l : List Carrier). taken l s) g.lays.tallies ∙ taken_stays g.lays.steps s before ∙ all s

  -- one turn more
  module _ (new : F) (r : ReaderState) (now : List Carrier) (kind : o.tells new ≡ o.tells mid) where
    module _ (result answer : Result (ℕ × Bool) StepFault) (is : result ≡ answer) (turned : LaysThousand o (first + turn) mid new half r between now result) where
      turn_made : LaysThousand o (first + turn) mid new half r between now answer
      turn_made = subst (λ (x : Result (ℕ × Bool) StepFault). LaysThousand o (first + turn) mid new half r between now x) is turned

      on : Lays o first old new start r before now (ended_of answer)
      on = lays_then o sane first old mid start half before between g.lays new r now (ended_of answer) (first + turn) g.marks turn_made.lays g.same_kind

    pub turn_fails : (result : Result (ℕ × Bool) StepFault) (e : StepFault) → result ≡ Err e → LaysThousand o (first + turn) mid new half r between now result → LaysAll o first old new start r before now (Err e)
    turn_fails result e is turned = record { lays = on result (Err e) is turned; marks = tt; count = tt }

    pub turn_ends : (result : Result (ℕ × Bool) StepFault) (n count : ℕ) → result ≡ Ok (n, true) → LaysThousand o (first + turn) mid new half r between now result
        → count ≡ min (min (turn * 1000) 18446744073709551615 + n) 18446744073709551615 → LaysAll o first old new start r before now (Ok (first + turn, count))
    unfolding on lays_then
    turn_ends result n count is turned total =
        let made = turn_made result (Ok (n, true)) is turned in
        let both = length-append g.lays.steps made.lays.steps in
        record {
          lays = on result (Ok (n, true)) is turned;
          marks = sym made.marks;
          count = let told = made.count in let before = so_many in omega (arith, total, both);
        }

    pub turn_goes : (result : Result (ℕ × Bool) StepFault) (n : ℕ) → result ≡ Ok (n, false) → LaysThousand o (first + turn) mid new half r between now result
        → r.is_open ≡ true → o.faults new ≡ o.faults mid → o.changes mid ≤ o.changes new → Going o first (turn + 1) old new start r before now
    unfolding on lays_then
    turn_goes result n is turned is_open calm more =
        let made = turn_made result (Ok (n, false)) is turned in
        record {
          lays = on result (Ok (n, false)) is turned;
          marks = let up = made.marks in omega (arith, up);
          is_open = is_open;
          same_kind = kind ∙ g.same_kind;
          faults = calm ∙ g.faults;
          changes = let up = g.changes in omega (arith, up, more);
        }

  -- no journal lists so many steps
  pub too_many : (line : ℕ) → 18446744073709552 ≤ turn → LaysAll o first old mid start half before between (Err (BadJournal line))
  too_many line past = record {
    lays = record {
      steps = g.lays.steps;
      marks = g.lays.marks;
      tallies = g.lays.tallies;
      more = g.lays.more;
      many = g.lays.many;
      few = g.lays.few;
      fewer = λ line bad. let so_many = g.lays.full refl in omega (arith, so_many);
      full = λ bad. cc;
      next = g.lays.next;
      ends = λ told way front at.
          let listed = (g.lays.ends told way front at).0.1.listed.count in
          let sum = length-append front g.lays.steps in
          absurd (let many = so_many in omega (arith, listed, sum, many, past));
      owed = g.lays.owed;
      stays_open = λ told way all a is_open at. tt;
      left = g.lays.left;
    };
    marks = tt;
    count = tt;
  }

pub going_start : {F : Type 0} (o : Outside F) (sane : IsOutside o) (first : ℕ) (old : F) (start : ReaderState) (before : List Carrier) → start.is_open ≡ true → Going o first 0 old old start start before before
unfolding lays_nothing
going_start o sane first old start before is_open = record {
  lays = lays_nothing o sane first old start before;
  marks = omega arith;
  is_open = is_open;
  same_kind = refl;
  faults = refl;
  changes = omega arith;
}
