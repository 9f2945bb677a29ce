-- Laws of the texts of journals.
use Rattle.std.proofs.Common.{◌≡◌, ℕ, zero, suc, ◌^◌, ◌<◌, ◌≤◌, List, [], ◌∷◌, ◌++◌, length, take, inl, inr, ◌⊎◌, refl, sym, ap, ◌∙◌, subst, arith, append_assoc, append-nil, length-append}
use Rattle.std.proofs.Math.Seq.{take-append_seam}
use Rattle.ips_steps.specs.Steps.{Step}
use Rattle.ips_steps.specs.Journal.{IsJournal}
use Rattle.ips_journal.specs.Text.{line, step_line, step_lines, end_line, headed, journal_text}
use Rattle.ips_journal.specs.Bad.{HasBadStep, GoesOn, IsBadLine}
use Rattle.ips_journal.specs.Reading.{ReaderState, IsAt}
use Rattle.ips_journal.proofs.Journals.{journal_front, journal_told, last_told, step_or_end, end_once, GoesOnFrom, fronts, behind_head, front_of}

-- a front of a journal, and the step behind it
next_of : (front : List Step) (s : Step) (more : List Step) → IsJournal (front ++ s ∷ more) → IsJournal (front ++ s ∷ [])
next_of front s more h = journal_front (front ++ s ∷ []) more (subst IsJournal (sym (append_assoc front (s ∷ []) more)) h)

-- a line that begins as that of a step and as the last is none
no_such : (front : List Step) (s : Step) (more : List Step) (n : ℕ) (a b : List ℕ) → IsJournal (front ++ s ∷ more) → n < 2 ^ 64 → line (end_line n) b ≡ line (step_line s) a → ⊥
no_such front s more n a b h lt e = step_or_end s n a b (last_told front s (next_of front s more h)) lt (sym e)

-- the whole text of a list, seen from a front of it
whole_front : (steps front : List Step) (rest : List ℕ) → IsJournal steps → IsJournal front → journal_text steps ≡ headed front rest → GoesOnFrom front steps rest (line (end_line (length steps)) [])
whole_front steps front rest hs hf e =
    front_of steps front (length steps) [] rest hs.count (journal_told steps hs) (journal_told front hf) (behind_head (step_lines steps (line (end_line (length steps)) [])) (step_lines front rest) e)

-- the same, where the last line of the front stands behind it
ended : (steps front : List Step) (rest : List ℕ) → IsJournal steps → IsJournal front → journal_text steps ≡ headed front (line (end_line (length front)) rest) → (front ≡ steps) × (rest ≡ [])
ended steps front rest hs hf e =
    let h = whole_front steps front (line (end_line (length front)) rest) hs hf e in
    go h.more h.parts h.behind
  where
    go : (more : List Step) → steps ≡ front ++ more → line (end_line (length front)) rest ≡ step_lines more (line (end_line (length steps)) []) → (front ≡ steps) × (rest ≡ [])
    go [] parts behind = (sym (append-nil front) ∙ sym parts, end_once (length front) (length steps) rest [] hf.count hs.count behind)
    go (s ∷ more) parts behind = absurd (no_such front s more (length front) (step_lines more (line (end_line (length steps)) [])) rest (subst IsJournal parts hs) hf.count behind)

pub one_text : (a b : List Step) → IsJournal a → IsJournal b → journal_text a ≡ journal_text b → a ≡ b
one_text a b ha hb e = (ended b a [] hb ha (sym e)).0

-- the text of a list has no bad line
no_bad_step : (steps : List Step) (count : ℕ) → IsJournal steps → HasBadStep (journal_text steps) count → ⊥
no_bad_step steps count hs bad =
    let h = whole_front steps bad.front bad.rest hs bad.listed bad.parts in
    go h.more h.parts h.behind
  where
    go : (more : List Step) → steps ≡ bad.front ++ more → bad.rest ≡ step_lines more (line (end_line (length steps)) []) → ⊥
    go [] parts behind =
        let same : length steps ≡ count = ap length (parts ∙ append-nil bad.front) ∙ bad.counted in
        bad.no_end [] (behind ∙ ap (λ (n : ℕ). line (end_line n) []) same)
    go (s ∷ more) parts behind = bad.no_step s (step_lines more (line (end_line (length steps)) [])) (next_of bad.front s more (subst IsJournal parts hs)) behind

pub none_bad : (steps : List Step) (number : ℕ) → IsJournal steps → IsBadLine (journal_text steps) number → ⊥
none_bad steps zero hs bad = bad
none_bad steps (suc zero) hs bad = bad (step_lines steps (line (end_line (length steps)) [])) refl
none_bad steps (suc (suc count)) hs bad = elim bad [
  | inl step ↦ no_bad_step steps count hs step
  | inr on ↦ let e = ended steps on.front on.rest hs on.listed on.parts in omega (arith, on.there, ap length e.1)
]

-- ---- one bad line

module _ (text : List ℕ) where
  two_steps : (m n : ℕ) (a : HasBadStep text m) (b : HasBadStep text n) → GoesOnFrom a.front b.front a.rest b.rest → m ≡ n
  two_steps m n a b h = go h.more h.parts h.behind
    where
      go : (more : List Step) → b.front ≡ a.front ++ more → a.rest ≡ step_lines more b.rest → m ≡ n
      go [] parts behind = sym a.counted ∙ sym (ap length (parts ∙ append-nil a.front)) ∙ b.counted
      go (s ∷ more) parts behind = absurd (a.no_step s (step_lines more b.rest) (next_of a.front s more (subst IsJournal parts b.listed)) behind)

  step_then_end : (m n : ℕ) (a : HasBadStep text m) (b : GoesOn text n) → GoesOnFrom a.front b.front a.rest (line (end_line (length b.front)) b.rest) → ⊥
  step_then_end m n a b h = go h.more h.parts h.behind
    where
      go : (more : List Step) → b.front ≡ a.front ++ more → a.rest ≡ step_lines more (line (end_line (length b.front)) b.rest) → ⊥
      go [] parts behind =
          let same : length b.front ≡ m = ap length (parts ∙ append-nil a.front) ∙ a.counted in
          a.no_end b.rest (behind ∙ ap (λ (k : ℕ). line (end_line k) b.rest) same)
      go (s ∷ more) parts behind = a.no_step s (step_lines more (line (end_line (length b.front)) b.rest)) (next_of a.front s more (subst IsJournal parts b.listed)) behind

  end_then_step : (m n : ℕ) (a : HasBadStep text m) (b : GoesOn text n) → GoesOnFrom b.front a.front (line (end_line (length b.front)) b.rest) a.rest → ⊥
  end_then_step m n a b h = go h.more h.parts h.behind
    where
      go : (more : List Step) → a.front ≡ b.front ++ more → line (end_line (length b.front)) b.rest ≡ step_lines more a.rest → ⊥
      go [] parts behind =
          let same : length b.front ≡ m = sym (ap length (parts ∙ append-nil b.front)) ∙ a.counted in
          a.no_end b.rest (sym behind ∙ ap (λ (k : ℕ). line (end_line k) b.rest) same)
      go (s ∷ more) parts behind = no_such b.front s more (length b.front) (step_lines more a.rest) b.rest (subst IsJournal parts a.listed) b.listed.count behind

  two_ends : (m n : ℕ) (a : GoesOn text m) (b : GoesOn text n) → GoesOnFrom a.front b.front (line (end_line (length a.front)) a.rest) (line (end_line (length b.front)) b.rest) → m ≡ n
  two_ends m n a b h = go h.more h.parts h.behind
    where
      go : (more : List Step) → b.front ≡ a.front ++ more → line (end_line (length a.front)) a.rest ≡ step_lines more (line (end_line (length b.front)) b.rest) → m ≡ n
      go [] parts behind =
          let same : length b.front ≡ length a.front = ap length (parts ∙ append-nil a.front) in
          omega (arith, same, a.counted, b.counted)
      go (s ∷ more) parts behind = absurd (no_such a.front s more (length a.front) (step_lines more (line (end_line (length b.front)) b.rest)) a.rest (subst IsJournal parts b.listed) a.listed.count behind)

  either : (a b : List Step) (x y : List ℕ) → IsJournal a → IsJournal b → text ≡ headed a x → text ≡ headed b y → GoesOnFrom a b x y ⊎ GoesOnFrom b a y x
  either a b x y ha hb ea eb = fronts a b x y (journal_told a ha) (journal_told b hb) (behind_head (step_lines a x) (step_lines b y) (sym ea ∙ eb))

  step_and_end : (m n : ℕ) → HasBadStep text m → GoesOn text n → ⊥
  step_and_end m n a b = elim (either a.front b.front a.rest (line (end_line (length b.front)) b.rest) a.listed b.listed a.parts b.parts) [
    | inl h ↦ step_then_end m n a b h
    | inr h ↦ end_then_step m n a b h
  ]

  behind_same : (m n : ℕ) → HasBadStep text m ⊎ GoesOn text m → HasBadStep text n ⊎ GoesOn text n → m ≡ n
  behind_same m n (inl a) (inl b) = elim (either a.front b.front a.rest b.rest a.listed b.listed a.parts b.parts) [ inl h ↦ two_steps m n a b h | inr h ↦ sym (two_steps n m b a h) ]
  behind_same m n (inl a) (inr b) = absurd (step_and_end m n a b)
  behind_same m n (inr a) (inl b) = absurd (step_and_end n m b a)
  behind_same m n (inr a) (inr b) =
      elim (either a.front b.front (line (end_line (length a.front)) a.rest) (line (end_line (length b.front)) b.rest) a.listed b.listed a.parts b.parts) [ inl h ↦ two_ends m n a b h | inr h ↦ sym (two_ends n m b a h) ]

  no_head : (n : ℕ) → IsBadLine text 1 → HasBadStep text n ⊎ GoesOn text n → ⊥
  no_head n bad (inl a) = bad (step_lines a.front a.rest) a.parts
  no_head n bad (inr b) = bad (step_lines b.front (line (end_line (length b.front)) b.rest)) b.parts

pub one_line : (text : List ℕ) (m n : ℕ) → IsBadLine text m → IsBadLine text n → m ≡ n
one_line text zero n a b = absurd a
one_line text (suc m) zero a b = absurd b
one_line text (suc zero) (suc zero) a b = refl
one_line text (suc zero) (suc (suc n)) a b = absurd (no_head text n a b)
one_line text (suc (suc m)) (suc zero) a b = absurd (no_head text m b a)
one_line text (suc (suc m)) (suc (suc n)) a b = ap (λ (k : ℕ). suc (suc k)) (behind_same text m n a b)

-- ---- steps in their order

read_front : (steps front : List Step) (rest : List ℕ) → IsJournal steps → IsJournal front → journal_text steps ≡ headed front rest → (length front ≤ length steps) × (front ≡ take (length front) steps)
read_front steps front rest hs hf e =
    let h = whole_front steps front rest hs hf e in
    (omega (arith, ap length h.parts, length-append front h.more), sym (ap (take (length front)) h.parts ∙ take-append_seam front h.more))

pub in_order : (steps front : List Step) (r : ReaderState) → IsJournal steps → IsAt (journal_text steps) front r → (length front ≤ length steps) × (front ≡ take (length front) steps)
in_order steps [] r hs at = (omega arith, refl)
in_order steps (s ∷ front) r hs at = read_front steps (s ∷ front) _ hs at.1.listed at.1.begins
