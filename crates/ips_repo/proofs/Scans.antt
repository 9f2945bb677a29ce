-- The search for a mark line tells whether there is one.
use Rattle.std.proofs.Common.{◌≡◌, ℕ, ◌+◌, ◌<◌, ◌≤◌, Bool, true, false, ◌||◌, ◌&&◌, ◌==◌, cond, nat_lt, List, [], ◌∷◌, slice_index, drop, fold, Option, Some, None, refl, sym, ◌∙◌, ap, subst, arith, drop-cons, add-one, ⊎_elim}
use Rattle.std.specs.Cmp.Lexicographic.{pointwise}
use Rattle.std.specs.List.{slice_split, list_any, onto_first}
use borrow.Author.Tests.{ltb-true}
use Rattle.std.proofs.lemmas.Bool.{agree_below_at, and_parts, cases_lt}
use Rattle.std.proofs.lemmas.Bool.Decides.{nat_tests}
use Rattle.ips_repo.specs.Mark.{is_blank, mark, without_blanks, is_mark_line, has_mark_line}
use Rattle.ips_repo.specs.Scan.{Scanned, is_whole, advanced, stepped, scanned, finds}
use Rattle.ips_text.proofs.Truths.{or_false, or_assoc}

-- so many bytes of the mark
abbrev IsCount : Option ℕ → Type 0
IsCount None = Unit {0}
IsCount (Some n) = n ≤ 9

-- the bytes, without blanks, are what the mark has behind so many of its bytes
abbrev completes : Option ℕ → List ℕ → Bool
completes None line = false
completes (Some n) line = pointwise ◌==◌ (without_blanks line) (drop n mark)

-- the first line completes the mark, or a later one is a mark line
abbrev finds_in : Option ℕ → List (List ℕ) → Bool
finds_in m [] = false
finds_in m (line ∷ lines) = completes m line || list_any is_mark_line lines

finds_in-new : (lines : List (List ℕ)) → finds_in (Some 0) lines ≡ list_any is_mark_line lines
finds_in-new [] = refl
finds_in-new (line ∷ lines) = refl

whole_at : (n : ℕ) → n < 10 → (n == 9) ≡ pointwise ◌==◌ [] (drop n mark)
whole_at n lt = agree_below_at (λ n. n == 9) (λ n. pointwise ◌==◌ [] (drop n mark)) 10 n refl lt

completes-end : (m : Option ℕ) → IsCount m → is_whole m ≡ completes m []
completes-end None c = refl
completes-end (Some n) c = whole_at n (omega arith)

completes-blank : (m : Option ℕ) (b : ℕ) (line : List ℕ) → is_blank b ≡ true → completes m line ≡ completes m (b ∷ line)
completes-blank None b line blank = refl
completes-blank (Some n) b line blank = rw blank refl

completes-cond : (t : Bool) (m : Option ℕ) (line : List ℕ) → completes (cond t m None) line ≡ (t && completes m line)
completes-cond true m line = refl
completes-cond false m line = refl

-- the next byte of the mark, in front of what is left
mark_from : (n : ℕ) → n < 9 → drop n mark ≡ slice_index mark n ∷ drop (n + 1) mark
mark_from n lt = drop-cons mark n 0 lt ∙ rw (add-one n) refl

next_before : (n b : ℕ) (line : List ℕ) → n < 9 → completes (advanced (Some n) b) line ≡ pointwise ◌==◌ (b ∷ without_blanks line) (drop n mark)
next_before n b line lt =
    let test : nat_lt n 9 ≡ true = grind (arith, nat_tests) in
    completes-cond (nat_lt n 9 && (b == slice_index mark n)) (Some (n + 1)) line ∙ rw test (rw (mark_from n lt) refl)

-- behind a byte of the line that is no blank
completes-next : (m : Option ℕ) (b : ℕ) (line : List ℕ) → IsCount m → is_blank b ≡ false → completes (advanced m b) line ≡ completes m (b ∷ line)
completes-next None b line c plain = refl
completes-next (Some n) b line c plain =
    ⊎_elim (λ lt. next_before n b line lt ∙ rw plain refl)
    (λ past. let whole : 9 ≡ n = omega arith in subst (λ (k : ℕ). completes (advanced (Some k) b) line ≡ completes (Some k) (b ∷ line)) whole (rw plain refl)) (cases_lt n 9)

-- a step, by what the byte is
abbrev step_by : Bool → Bool → Scanned → ℕ → Scanned
step_by newline blank s b = cond newline (record { found = s.found || is_whole s.matched; matched = Some 0 }) (cond blank s (record { found = s.found; matched = advanced s.matched b }))

finds-step : (newline blank : Bool) (s : Scanned) (b : ℕ) (line : List ℕ) (lines : List (List ℕ)) → is_blank b ≡ blank → IsCount s.matched
    → ((step_by newline blank s b).found || finds_in (step_by newline blank s b).matched (line ∷ lines)) ≡ (s.found || finds_in s.matched (cond newline ([] ∷ line ∷ lines) (onto_first b (line ∷ lines))))
finds-step true blank s b line lines is c = or_assoc s.found (is_whole s.matched) (finds_in (Some 0) (line ∷ lines)) ∙ ap (λ (t : Bool). s.found || (t || list_any is_mark_line (line ∷ lines))) (completes-end s.matched c)
finds-step false true s b line lines is c = ap (λ (t : Bool). s.found || (t || list_any is_mark_line lines)) (completes-blank s.matched b line is)
finds-step false false s b line lines is c = ap (λ (t : Bool). s.found || (t || list_any is_mark_line lines)) (completes-next s.matched b line c is)

count-cond : (n : ℕ) (t more : Bool) → (nat_lt n 9 && more) ≡ t → IsCount (cond t (Some (n + 1)) None)
count-cond n true more is = let lt = ltb-true n 9 (and_parts (nat_lt n 9) more is).0 in omega arith
count-cond n false more is = tt

count-advanced : (m : Option ℕ) (b : ℕ) → IsCount (advanced m b)
count-advanced None b = tt
count-advanced (Some n) b = count-cond n _ (b == slice_index mark n) refl

count-step : (newline blank : Bool) (s : Scanned) (b : ℕ) → IsCount s.matched → IsCount (step_by newline blank s b).matched
count-step true blank s b c = omega arith
count-step false true s b c = c
count-step false false s b c = count-advanced s.matched b

-- there is a first line
first_line : (newline : Bool) (b : ℕ) (lines : List (List ℕ)) → (line : List ℕ) × (others : List (List ℕ)) × (cond newline ([] ∷ lines) (onto_first b lines) ≡ line ∷ others)
first_line true b lines = ([], lines, refl)
first_line false b [] = (b ∷ [], [], refl)
first_line false b (line ∷ lines) = (b ∷ line, lines, refl)

has_line : (bytes : List ℕ) → (line : List ℕ) × (others : List (List ℕ)) × (slice_split (λ b. b == 10) bytes ≡ line ∷ others)
has_line [] = ([], [], refl)
has_line (b ∷ bytes) = first_line (b == 10) b (slice_split (λ b. b == 10) bytes)

finds-fold : (bytes : List ℕ) (s : Scanned) → IsCount s.matched → finds (fold stepped s bytes) ≡ (s.found || finds_in s.matched (slice_split (λ b. b == 10) bytes))
finds-fold [] s c = ap (λ (t : Bool). s.found || t) (completes-end s.matched c ∙ or_false (completes s.matched []))
finds-fold (b ∷ bytes) s c =
    let split = has_line bytes in
    finds-fold bytes (stepped s b) (count-step (b == 10) (is_blank b) s b c)
    ∙ subst (λ (lines : List (List ℕ)). ((stepped s b).found || finds_in (stepped s b).matched lines) ≡ (s.found || finds_in s.matched (cond (b == 10) ([] ∷ lines) (onto_first b lines)))) (sym split.2)
    (finds-step (b == 10) (is_blank b) s b split.0 split.1 refl c)

pub finds_mark : (bytes : List ℕ) → finds (scanned bytes) ≡ has_mark_line bytes
finds_mark bytes = finds-fold bytes (record { found = false; matched = Some 0 }) (omega arith) ∙ finds_in-new (slice_split (λ b. b == 10) bytes)
