-- Lists of steps, and the fronts of their texts.
use Rattle.std.proofs.Common.{◌≡◌, ℕ, ◌+◌, ◌^◌, ◌<◌, ◌≤◌, Bool, true, false, ◌&&◌, ◌==◌, List, [], ◌∷◌, ◌++◌, length, inl, inr, ◌⊎◌, refl, sym, ap, ◌∙◌, subst, arith, append-nil, length-append}
use Rattle.std.specs.List.{AllByRecursion}
use Rattle.std.proofs.lemmas.Bool.{and_parts, eqb-true, true≢false}
use Rattle.ips_steps.specs.Steps.{Step, Gone, Fresh, Mode, Put, Symlink, Hard}
use Rattle.ips_steps.specs.Journal.{IsJournal, IsProper, AllProper, allowed, step_allowed, numbered}
use Rattle.ips_journal.specs.Text.{head_line, line, step_line, step_lines, end_line, headed}
use Rattle.ips_text.specs.Cut.{has_byte}
use Rattle.ips_journal.specs.Reading.{puts_in}
use Rattle.ips_journal.specs.Holding.{IsNumberSmall, IsSafe, IsStepLine}
use Rattle.ips_text.proofs.Cuts.{cut_once}
use Rattle.ips_journal.proofs.StepLines.{line_apart, not_end, step_one_line, end_one_line}
use Rattle.ips_text.proofs.Truths.{both_true}
use Rattle.ips_steps.proofs.Lists.{proper_more}

-- ---- one step more

and_assoc : (a b c : Bool) → (a && (b && c)) ≡ ((a && b) && c)
and_assoc true b c = refl
and_assoc false b c = refl

allowed_more : (front more : List Step) → allowed (front ++ more) ≡ (allowed front && allowed more)
allowed_more [] more = refl
allowed_more (s ∷ front) more = ap (λ (b : Bool). step_allowed s && b) (allowed_more front more) ∙ and_assoc (step_allowed s) (allowed front) (allowed more)

numbered_more : (n : ℕ) (front more : List Step) → numbered n (front ++ more) ≡ (numbered n front && numbered (n + puts_in front) more)
numbered_more n [] more = let same : n ≡ n + 0 = omega arith in ap (λ (k : ℕ). numbered k more) same
numbered_more n (Gone p ∷ front) more = numbered_more n front more
numbered_more n (Fresh m p ∷ front) more = numbered_more n front more
numbered_more n (Mode m p ∷ front) more = numbered_more n front more
numbered_more n (Put k m p ∷ front) more =
    let same : n + 1 + puts_in front ≡ n + (1 + puts_in front) = omega arith in
    ap (λ (b : Bool). (k == n) && b) (numbered_more (n + 1) front more ∙ ap (λ (j : ℕ). numbered (n + 1) front && numbered j more) same) ∙ and_assoc (k == n) (numbered (n + 1) front) (numbered (n + (1 + puts_in front)) more)
numbered_more n (Symlink p target ∷ front) more = numbered_more n front more
numbered_more n (Hard p to ∷ front) more = numbered_more n front more

proper_parts : (front more : List Step) → AllProper (front ++ more) → AllProper front × AllProper more
proper_parts [] more h = (tt, h)
proper_parts (s ∷ front) more h = let rest = proper_parts front more h.1 in ((h.0, rest.0), rest.1)

pub puts_few : (steps : List Step) → puts_in steps ≤ length steps
puts_few [] = omega arith
puts_few (Gone p ∷ rest) = omega (arith, puts_few rest)
puts_few (Fresh m p ∷ rest) = omega (arith, puts_few rest)
puts_few (Mode m p ∷ rest) = omega (arith, puts_few rest)
puts_few (Put n m p ∷ rest) = omega (arith, puts_few rest)
puts_few (Symlink p target ∷ rest) = omega (arith, puts_few rest)
puts_few (Hard p to ∷ rest) = omega (arith, puts_few rest)

pub puts_more : (front more : List Step) → puts_in (front ++ more) ≡ puts_in front + puts_in more
puts_more [] more = omega arith
puts_more (Gone p ∷ front) more = puts_more front more
puts_more (Fresh m p ∷ front) more = puts_more front more
puts_more (Mode m p ∷ front) more = puts_more front more
puts_more (Put n m p ∷ front) more = omega (arith, puts_more front more)
puts_more (Symlink p target ∷ front) more = puts_more front more
puts_more (Hard p to ∷ front) more = puts_more front more

-- a journal that goes on with a step that may stand next
pub journal_more : (front : List Step) (s : Step) → IsJournal front → IsSafe s → numbered (puts_in front) (s ∷ []) ≡ true → length front + 1 < 2 ^ 64 → IsJournal (front ++ s ∷ [])
journal_more front s h safe number few = record {
  count = omega (arith, length-append front (s ∷ []));
  proper = proper_more front (s ∷ []) h.proper (safe.0, tt);
  names = allowed_more front (s ∷ []) ∙ both_true (allowed front) (allowed (s ∷ [])) h.names (both_true (step_allowed s) true safe.1 refl);
  numbers = numbered_more 0 front (s ∷ []) ∙ both_true (numbered 0 front) (numbered (0 + puts_in front) (s ∷ [])) h.numbers (let same : 0 + puts_in front ≡ puts_in front = omega arith in ap (λ (k : ℕ). numbered k (s ∷ [])) same ∙ number);
}

-- the front of a journal is one
pub journal_front : (front more : List Step) → IsJournal (front ++ more) → IsJournal front
journal_front front more h = record {
  count = omega (arith, h.count, length-append front more);
  proper = (proper_parts front more h.proper).0;
  names = (and_parts (allowed front) (allowed more) (sym (allowed_more front more) ∙ h.names)).0;
  numbers = (and_parts (numbered 0 front) (numbered (0 + puts_in front) more) (sym (numbered_more 0 front more) ∙ h.numbers)).0;
}

-- what its last step is
pub record IsNext (put : ℕ) (s : Step) : Type 0 where
  pub safe : IsSafe s
  pub number : numbered put (s ∷ []) ≡ true

pub journal_last : (front : List Step) (s : Step) → IsJournal (front ++ s ∷ []) → IsNext (puts_in front) s
journal_last front s h =
    let names = and_parts (allowed front) (allowed (s ∷ [])) (sym (allowed_more front (s ∷ [])) ∙ h.names) in
    let numbers = and_parts (numbered 0 front) (numbered (0 + puts_in front) (s ∷ [])) (sym (numbered_more 0 front (s ∷ [])) ∙ h.numbers) in
    let same : 0 + puts_in front ≡ puts_in front = omega arith in
    record {
      safe = ((proper_parts front (s ∷ []) h.proper).1.0, (and_parts (step_allowed s) true names.1).0);
      number = ap (λ (k : ℕ). numbered k (s ∷ [])) (sym same) ∙ numbers.1;
    }

-- ---- numbers below 2^64

pub number_small : (n : ℕ) (s : Step) → n < 2 ^ 64 → numbered n (s ∷ []) ≡ true → IsNumberSmall s
number_small n (Gone p) lt e = tt
number_small n (Fresh m p) lt e = tt
number_small n (Mode m p) lt e = tt
number_small n (Put k m p) lt e = let is : k ≡ n = eqb-true k n (and_parts (k == n) true e).0 in omega arith
number_small n (Symlink p target) lt e = tt
number_small n (Hard p to) lt e = tt

-- a step that a line can tell
abbrev pub IsTold : Step → Type 0
IsTold s = IsProper s × IsNumberSmall s

abbrev pub AllTold : List Step → Type 0
AllTold steps = AllByRecursion IsTold steps

told_from : (n : ℕ) (steps : List Step) → AllProper steps → numbered n steps ≡ true → n + length steps < 2 ^ 64 → AllTold steps
told_from n [] h e lt = tt
told_from n (Gone p ∷ rest) h e lt = ((h.0, tt), told_from n rest h.1 e (omega arith))
told_from n (Fresh m p ∷ rest) h e lt = ((h.0, tt), told_from n rest h.1 e (omega arith))
told_from n (Mode m p ∷ rest) h e lt = ((h.0, tt), told_from n rest h.1 e (omega arith))
told_from n (Put k m p ∷ rest) h e lt =
    let both = and_parts (k == n) (numbered (n + 1) rest) e in
    let is : k ≡ n = eqb-true k n both.0 in
    ((h.0, omega arith), told_from (n + 1) rest h.1 both.1 (omega arith))
told_from n (Symlink p target ∷ rest) h e lt = ((h.0, tt), told_from n rest h.1 e (omega arith))
told_from n (Hard p to ∷ rest) h e lt = ((h.0, tt), told_from n rest h.1 e (omega arith))

pub journal_told : (steps : List Step) → IsJournal steps → AllTold steps
journal_told steps h = told_from 0 steps h.proper h.numbers (omega (arith, h.count))

-- the last step of a journal is told by its line
pub last_told : (front : List Step) (s : Step) → IsJournal (front ++ s ∷ []) → IsTold s
last_told front s h =
    let next = journal_last front s h in
    (next.safe.0, number_small (puts_in front) s (omega (arith, h.count, puts_few front, length-append front (s ∷ []))) next.number)

-- ---- one line after another

-- two lines at the front of one text are one
lines_once : (x y : List ℕ) (a b : List ℕ) → line x a ≡ line y b → has_byte 10 x ≡ false → has_byte 10 y ≡ false → (x ≡ y) × (a ≡ b)
lines_once x y a b e hx hy = cut_once 10 x a y b hx hy e

step_once : (s t : Step) (a b : List ℕ) → IsTold s → IsTold t → line (step_line s) a ≡ line (step_line t) b → (s ≡ t) × (a ≡ b)
step_once s t a b hs ht e =
    let cut = lines_once (step_line s) (step_line t) a b e (step_one_line s hs.0 hs.1) (step_one_line t ht.0 ht.1) in
    (line_apart s t hs.0 ht.0 hs.1 ht.1 cut.0, cut.1)

pub step_or_end : (s : Step) (n : ℕ) (a b : List ℕ) → IsTold s → n < 2 ^ 64 → line (step_line s) a ≡ line (end_line n) b → ⊥
step_or_end s n a b hs lt e = not_end s n (lines_once (step_line s) (end_line n) a b e (step_one_line s hs.0 hs.1) (end_one_line n lt)).0

pub end_once : (m n : ℕ) (a b : List ℕ) → m < 2 ^ 64 → n < 2 ^ 64 → line (end_line m) a ≡ line (end_line n) b → a ≡ b
end_once m n a b lm ln e = (lines_once (end_line m) (end_line n) a b e (end_one_line m lm) (end_one_line n ln)).1

-- The second list goes on where the first ends, and so do their texts.
pub record GoesOnFrom (a b : List Step) (x y : List ℕ) : Type 0 where
  pub more : List Step
  pub parts : b ≡ a ++ more
  pub behind : x ≡ step_lines more y

one_more : (s t : Step) (a b : List Step) (x y : List ℕ) → s ≡ t → GoesOnFrom a b x y → GoesOnFrom (s ∷ a) (t ∷ b) x y
one_more s t a b x y e h = record { more = h.more; parts = rw (e, h.parts) refl; behind = h.behind }

-- of two fronts of one text the one goes on where the other ends
pub fronts : (a b : List Step) (x y : List ℕ) → AllTold a → AllTold b → step_lines a x ≡ step_lines b y → GoesOnFrom a b x y ⊎ GoesOnFrom b a y x
fronts [] b x y ha hb e = inl (record { more = b; parts = refl; behind = e })
fronts (s ∷ a) [] x y ha hb e = inr (record { more = s ∷ a; parts = refl; behind = sym e })
fronts (s ∷ a) (t ∷ b) x y ha hb e =
    let once = step_once s t (step_lines a x) (step_lines b y) ha.0 hb.0 e in
    elim (fronts a b x y ha.1 hb.1 once.1) [ inl h ↦ inl (one_more s t a b x y once.0 h) | inr h ↦ inr (one_more t s b a y x (sym once.0) h) ]

pub behind_head : (x y : List ℕ) → line head_line x ≡ line head_line y → x ≡ y
behind_head x y e = cc

-- the text of one step more
pub lines_more : (front : List Step) (s : Step) (x : List ℕ) → step_lines (front ++ s ∷ []) x ≡ step_lines front (line (step_line s) x)
lines_more [] s x = refl
lines_more (t ∷ front) s x = ap (λ (l : List ℕ). line (step_line t) l) (lines_more front s x)

-- each line has a byte
pub lines_long : (front : List Step) (x : List ℕ) → length front + length x ≤ length (step_lines front x)
lines_long [] x = omega arith
lines_long (s ∷ front) x = omega (arith, lines_long front x, length-append (step_line s) (10 ∷ step_lines front x))

pub headed_long : (front : List Step) (x : List ℕ) → length front + length x + 10 ≤ length (headed front x)
headed_long front x = omega (arith, lines_long front x)

-- a front that the whole text begins with is the front of its list
pub front_of : (steps front : List Step) (n : ℕ) (x rest : List ℕ) → n < 2 ^ 64 → AllTold steps → AllTold front → step_lines steps (line (end_line n) x) ≡ step_lines front rest
    → GoesOnFrom front steps rest (line (end_line n) x)
front_of steps front n x rest lt hs hf e = elim (fronts steps front (line (end_line n) x) rest hs hf e) [
  | inl h ↦ whole h.more h.parts h.behind (subst AllTold h.parts hf)
  | inr h ↦ h
]
  where
    told_behind : (a more : List Step) → AllTold (a ++ more) → AllTold more
    told_behind [] more h = h
    told_behind (s ∷ a) more h = told_behind a more h.1

    whole : (more : List Step) → front ≡ steps ++ more → line (end_line n) x ≡ step_lines more rest → AllTold (steps ++ more) → GoesOnFrom front steps rest (line (end_line n) x)
    whole [] parts behind told = record { more = []; parts = sym (append-nil front ∙ parts ∙ append-nil steps); behind = sym behind }
    whole (s ∷ more) parts behind told = absurd (step_or_end s n (step_lines more rest) x (told_behind steps (s ∷ more) told).0 lt (sym behind))

-- ---- a line that tells a step

-- another step that the line tells is that one
pub told_once : (s t : Step) (put : ℕ) (bytes : List ℕ) → put < 2 ^ 64 → IsProper t → IsNumberSmall t → bytes ≡ step_line t → IsStepLine bytes put s → s ≡ t
told_once s t put bytes lt ht nt e is = line_apart s t is.safe.0 ht (number_small put s lt is.number) nt (sym is.spelled ∙ e)

-- so it may name its paths, and its number is right
pub told_allowed : (s t : Step) (put : ℕ) (bytes : List ℕ) (b : Bool) → put < 2 ^ 64 → IsProper t → IsNumberSmall t → bytes ≡ step_line t → b ≡ step_allowed t → b ≡ false → IsStepLine bytes put s → ⊥
told_allowed s t put bytes b lt ht nt e is off h = true≢false (sym h.safe.1 ∙ ap step_allowed (told_once s t put bytes lt ht nt e h) ∙ sym is ∙ off)

pub told_next : (s t : Step) (put : ℕ) (bytes : List ℕ) (b : Bool) → put < 2 ^ 64 → IsProper t → IsNumberSmall t → bytes ≡ step_line t → b ≡ numbered put (t ∷ []) → b ≡ false → IsStepLine bytes put s → ⊥
told_next s t put bytes b lt ht nt e is off h = true≢false (sym h.number ∙ ap (λ (x : Step). numbered put (x ∷ [])) (told_once s t put bytes lt ht nt e h) ∙ sym is ∙ off)
