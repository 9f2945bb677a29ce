-- Behind an open gate an image is recovered in one way: its journal lists one list of steps, of which the marks leave one rest; and either all of that can be laid,
-- or one line of the journal is bad.
use Rattle.std.proofs.Common.{◌≡◌, inl, inr, ⊎_elim, ℕ, zero, suc, ◌+◌, ◌*◌, ◌<◌, ◌≤◌, true, false, List, [], ◌∷◌, ◌++◌, append_assoc, length, length-append, take, drop, slice_get, Some, sym, ◌∙◌, ap, subst, arith}
use Rattle.std.proofs.Math.ListN.{drop_of_length-le}
use Rattle.std.proofs.lemmas.Bool.{cases_lt}
use Rattle.std.proofs.lemmas.List.{take_all}
use Rattle.ips_outside.specs.Image.{Image}
use Rattle.ips_steps.specs.Steps.{Step, after, feasible}
use Rattle.ips_steps.specs.Owed.{steps_left}
use Rattle.ips_steps.proofs.AtTurn.{can_at}
use Rattle.ips_steps.proofs.Linked.{after_turn, feasible_parts}
use Rattle.ips_steps.proofs.Lists.{clash}
use Rattle.ips_kinds.specs.Tallies.{Carrier}
use Rattle.ips_journal.specs.Bad.{IsBadLine}
use Rattle.ips_journal.specs.Reading.{IsAt, journal_of}
use Rattle.ips_journal.proofs.JournalLaws.{in_order, none_bad, one_line, one_text}
use Rattle.ips_commit.specs.Recovering.{AreCounted, CanRollForward, IsBadJournal, IsJournalled, IsStuck, IsStuckAt}
use Rattle.ips_commit.proofs.Lays.{front_less, next_of}

-- ---- what the marks leave

-- So many marks and so many others tell the same steps to be laid, and leave the same.
record LeaveTheSame (steps : List Step) (m n : ℕ) : Type 0 where
  front : take (1000 * m) steps ≡ take (1000 * n) steps
  rest : drop (1000 * m) steps ≡ drop (1000 * n) steps

none_left : (steps : List Step) (m n : ℕ) → length steps ≤ 1000 * m → m < n → LeaveTheSame steps m n
none_left steps m n few less =
    let more : length steps ≤ 1000 * n = omega (arith, few, less) in
    record {
      front = take_all (1000 * m) steps few ∙ sym (take_all (1000 * n) steps more);
      rest = drop_of_length-le steps few ∙ sym (drop_of_length-le steps more);
    }

-- where more marks stand, the fewer leave none
fewer_left : (t : Image) (steps : List Step) (m n : ℕ) → AreCounted t (length steps) m → AreCounted t (length steps) n → m < n → LeaveTheSame steps m n
fewer_left t steps m n a b less = none_left steps m n (⊎_elim (λ none. absurd (b.stand m less none)) (λ few. few) a.last) less

left_one : (t : Image) (steps : List Step) (m n : ℕ) → AreCounted t (length steps) m → AreCounted t (length steps) n → LeaveTheSame steps m n
left_one t steps m n a b = elim (cases_lt m n) [
  | inl less ↦ fewer_left t steps m n a b less
  | inr up ↦ elim (cases_lt n m) [
    | inl more ↦ let turned = fewer_left t steps n m b a more in record { front = sym turned.front; rest = sym turned.rest }
    | inr down ↦
        let same : m ≡ n = omega (arith, up, down) in
        record { front = ap (λ (k : ℕ). take (1000 * k) steps) same; rest = ap (λ (k : ℕ). drop (1000 * k) steps) same }
  ]
]

-- ---- the step that can't be laid

-- Behind the front the rest can be laid up to the step at this place, which can't; its line has this number.
record StopsAt (t : Image) (front rest : List Step) (line : ℕ) : Type 0 where
  place : ℕ
  step : Step
  stands : slice_get rest place ≡ Some step
  can : feasible (take place rest) t ≡ true
  cannot : feasible (step ∷ []) (after (take place rest) t) ≡ false
  number : line ≡ length front + place + 2

-- a step before that many can be laid at its turn
laid_before : (rest : List Step) (k n : ℕ) (s : Step) (t : Image) → slice_get rest k ≡ Some s → k < n → feasible (take n rest) t ≡ true → feasible (s ∷ []) (after (take k rest) t) ≡ true
laid_before [] k n s t at less can = cc
laid_before (x ∷ rest) k zero s t at less can = absurd (omega (arith, less))
laid_before (x ∷ rest) zero (suc n) s t at less can = let one : x ≡ s = cc in subst (λ (y : Step). feasible (y ∷ []) t ≡ true) one (feasible_parts x (take n rest) t can).0
laid_before (x ∷ rest) (suc k) (suc n) s t at less can =
    ap (feasible (s ∷ [])) (after_turn x (take k rest) t) ∙ laid_before rest k n s (after (x ∷ []) t) at (omega (arith, less)) (feasible_parts x (take n rest) t can).1

-- so the rest stops at one step
stops_first : (t : Image) (front rest : List Step) (m n : ℕ) (a : StopsAt t front rest m) (b : StopsAt t front rest n) → a.place < b.place → ⊥
stops_first t front rest m n a b less =
    clash (feasible (a.step ∷ []) (after (take a.place rest) t)) (laid_before rest a.place b.place a.step t a.stands less b.can) a.cannot

stops_once : (t : Image) (front rest : List Step) (m n : ℕ) (a : StopsAt t front rest m) (b : StopsAt t front rest n) → m ≡ n
stops_once t front rest m n a b = elim (cases_lt a.place b.place) [
  | inl less ↦ absurd (stops_first t front rest m n a b less)
  | inr up ↦ elim (cases_lt b.place a.place) [
    | inl more ↦ absurd (stops_first t front rest n m b a more)
    | inr down ↦ let first = a.number in let second = b.number in omega (arith, first, second, up, down)
  ]
]

module _ (t u : Image) (before now : List Carrier) (steps : List Step) (count line : ℕ) (is : IsJournalled t steps count) (x : IsStuckAt t u before now steps count line) where
  abbrev front : List Step
  front = take (1000 * count) steps

  abbrev rest : List Step
  rest = steps_left count steps

  -- those that could be laid, and the one that couldn't
  abbrev could : List Step
  could = take x.laid rest

  abbrev s : Step
  s = x.next.step

  begins : front ++ (could ++ s ∷ []) ≡ take (length (front ++ (could ++ s ∷ []))) steps
  begins = subst (λ (l : List Step). l ≡ take (length l) steps) (append_assoc front could (s ∷ []))
      (in_order steps ((front ++ could) ++ s ∷ []) x.next.stands.0 is.lists (subst (λ (l : List ℕ). IsAt l ((front ++ could) ++ s ∷ []) x.next.stands.0) is.text_is x.next.stands.1)).1

  next : could ++ s ∷ [] ≡ take (length (could ++ s ∷ [])) rest
  next = next_of steps (could ++ s ∷ []) (1000 * count) begins

  stands : slice_get rest (length could) ≡ Some s
  stands = at could rest next
    where
      at : (front all : List Step) → front ++ s ∷ [] ≡ take (length (front ++ s ∷ [])) all → slice_get all (length front) ≡ Some s
      at [] [] is = cc
      at [] (x ∷ all) is = let same : s ≡ x = cc in ap Some (sym same)
      at (y ∷ front) [] is = cc
      at (y ∷ front) (x ∷ all) is = let tail : front ++ s ∷ [] ≡ take (length (front ++ s ∷ [])) all = cc in at front all tail

  is_front : could ≡ take (length could) rest
  is_front = front_less could rest s next

  stops : StopsAt t front rest line
  stops = record {
    place = length could;
    step = s;
    stands = stands;
    can = subst (λ (l : List Step). feasible l t ≡ true) is_front x.can;
    cannot = subst (λ (l : List Step). feasible (s ∷ []) (after l t) ≡ false) is_front x.next.cannot;
    number = let many = x.next.number in let sum = length-append front could in omega (arith, many, sum);
  }

-- ---- one journal

module _ (t : Image) (a b : List Step) (m n : ℕ) (x : IsJournalled t a m) (y : IsJournalled t b n) where
  same_steps : a ≡ b
  same_steps = one_text a b x.lists y.lists (sym x.text_is ∙ y.text_is)

  same_left : LeaveTheSame b m n
  same_left = left_one t b m n (subst (λ (l : List Step). AreCounted t (length l) m) same_steps x.marked) y.marked

  -- it stops where the other does
  stops_there : (line : ℕ) → StopsAt t (take (1000 * m) a) (steps_left m a) line → StopsAt t (take (1000 * n) b) (steps_left n b) line
  stops_there line stop =
      let moved = subst (λ (l : List Step). StopsAt t (take (1000 * m) l) (steps_left m l) line) same_steps stop in
      subst (λ (l : List Step). StopsAt t (take (1000 * n) b) l line) same_left.rest (subst (λ (l : List Step). StopsAt t l (steps_left m b) line) same_left.front moved)

  -- what the marks leave can't be laid to its end where it is stuck
  never_both : (line : ℕ) → feasible (steps_left n b) t ≡ true → StopsAt t (take (1000 * m) a) (steps_left m a) line → ⊥
  never_both line can stop =
      let here = stops_there line stop in
      clash (feasible (here.step ∷ []) (after (take here.place (steps_left n b)) t)) (can_at (steps_left n b) here.place here.step t here.stands can) here.cannot

module _ (t : Image) where
  -- the journal of steps has no bad line
  none_in : (steps : List Step) (count line : ℕ) → IsJournalled t steps count → IsBadLine (journal_of t) line → ⊥
  none_in steps count line is bad = none_bad steps line is.lists (subst (λ (l : List ℕ). IsBadLine l line) is.text_is bad)

  stuck_stops : (u : Image) (before now : List Carrier) (line : ℕ) (x : IsStuck t u before now line) → StopsAt t (take (1000 * x.count) x.steps) (steps_left x.count x.steps) line
  stuck_stops u before now line x = stops t u before now x.steps x.count line x.is x.at

  -- one line is bad
  pub bad_once : (u v : Image) (before now earlier later : List Carrier) (m n : ℕ) → IsBadJournal t u before now m → IsBadJournal t v earlier later n → m ≡ n
  bad_once u v before now earlier later m n (inl a) (inl b) = one_line (journal_of t) m n a b
  bad_once u v before now earlier later m n (inl a) (inr y) = absurd (none_in y.steps y.count m y.is a)
  bad_once u v before now earlier later m n (inr x) (inl b) = absurd (none_in x.steps x.count n x.is b)
  bad_once u v before now earlier later m n (inr x) (inr y) = stops_once t (take (1000 * y.count) y.steps) (steps_left y.count y.steps) m n
      (stops_there t x.steps y.steps x.count y.count x.is y.is m (stuck_stops u before now m x)) (stuck_stops v earlier later n y)

  -- and none where the steps that the marks leave can be laid
  pub forward_or_bad : (steps : List Step) (count : ℕ) (u : Image) (before now : List Carrier) (line : ℕ) → CanRollForward t steps count → IsBadJournal t u before now line → ⊥
  forward_or_bad steps count u before now line roll (inl bad) = none_in steps count line roll.is bad
  forward_or_bad steps count u before now line roll (inr x) = never_both t x.steps steps x.count count x.is roll.is line roll.can (stuck_stops u before now line x)
