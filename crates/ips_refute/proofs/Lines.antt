-- The lines of a refutation's text are read as they are spelled.
use Rattle.std.proofs.Common.{◌≡◌, ℕ, zero, suc, ◌+◌, ◌<◌, ◌≤◌, ◌^◌, ◌%◌, ◌&&◌, Bool, true, false, cond, eqb, ltb, ne_eqb, drop, List, [], ◌∷◌, ◌++◌, All, Result, Ok, Err, refl, sym, ap, subst, ◌∙◌, append_assoc, arith, inl, inr, ◌⊎◌}
use Rattle.std.proofs.lemmas.Bool.{eqb-true, eq-eqb, and_parts, and_from, and_right, lt-ltb, ltb-true, cases_lt}
use Rattle.std.proofs.lemmas.Fmt.{decimal_by_steps}
use Rattle.std.proofs.lemmas.Bool.Decides.{nat_tests}
use Rattle.std.specs.Fmt.{decimal}
use Rattle.ips_text.specs.Reading.{◌>>=◌, next_is, via}
use Rattle.ips_text.specs.Number.{number_at}
use Rattle.ips_text.proofs.Readers.{bind_ok, chosen, ok_is, ok_not_err, next_parts}
use Rattle.ips_text.proofs.Numbers.{NoDigit, Reads-number}
use Rattle.ips_refute.specs.declared.nogoods.Pair.{Pair}
use Rattle.ips_refute.specs.declared.nogoods.Reason.{Reason}
use Rattle.ips_refute.specs.declared.nogoods.Reason.TheVariants.{Test, Earlier}
use Rattle.ips_refute.specs.Meaning.{Ascends}
use Rattle.ips_refute.specs.declared.runs.Run.{Run}
use Rattle.ips_refute.specs.Text.{RefutationEntry, Written, IsWritten, IsRun, IsSmallPair, IsSmallReason, pair_text, set_text, reason_text, count_text, run_text, runs_text, line_text, meant, most, most_of, bar}
use Rattle.ips_refute.specs.Reading.{Scanner, stop_at, small_at, mark_at, nothing, bar_at, pair_of, pair_at, pairs_at, ascends, set_at, reason_at, count_at, run, run_at, runs_at, between, stem_at, Fields, fields_at, written_from, entry_from, entry_at}
use Rattle.ips_refute.proofs.Scanners.{Stopped, Scans, Scans-both, Scans-via, Scans-listed, AllFollow, NoDash, all_follow}

-- ---- a filter

-- what is read, where it passes a test
abbrev pub kept : {A : Type 0} → (A → Bool) → Scanner A → Scanner A
kept test r bytes = r bytes >>= λ x. cond (test x.0) (Ok x) (Err (stop_at bytes))

pub Scans-kept : {A : Type 0} {spell : A → List ℕ} {Fits : A → Type 0} {Follows : A → List ℕ → Type 0} {r : Scanner A} (Fits' : A → Type 0) (test : A → Bool) → Scans spell Fits Follows r
    → ((x : A) → Fits x → test x ≡ true → Fits' x) → ((x : A) → Fits' x → Fits x × (test x ≡ true)) → Scans spell Fits' Follows (kept test r)
Scans-kept {A} {spell} {Fits} {Follows} {r} Fits' test reads to from = record {
  takes = λ bytes z e.
      let a = bind_ok (r bytes) (λ x. cond (test x.0) (Ok x) (Err (stop_at bytes))) z e in
      elim (chosen (test a.0.0) (Ok a.0) (Err (stop_at bytes)) (Ok z) a.2) [
        | inl w ↦
            let t = reads.takes bytes a.0 a.1 in
            subst (λ (p : A × List ℕ). (bytes ≡ spell p.0 ++ p.1) × Fits' p.0) (ok_is {E = Stopped} a.0 z w.1) (t.0, to a.0.0 t.1 w.0)
        | inr w ↦ absurd (ok_not_err z (stop_at bytes) (sym w.1))
      ];
  again = λ x rest fits fol.
      let f = from x fits in
      ap (λ (v : Result (A × List ℕ) Stopped). v >>= λ y. cond (test y.0) (Ok y) (Err (stop_at (spell x ++ rest)))) (reads.again x rest f.0 fol)
      ∙ ap (λ (b : Bool). cond b (Ok (x, rest)) (Err (stop_at (spell x ++ rest)))) f.1;
}

-- ---- numbers and marks

abbrev pub IsSmall : ℕ → Type 0
IsSmall n = n < 2 ^ 32

abbrev pub NumberFollows : ℕ → List ℕ → Type 0
NumberFollows n rest = NoDigit rest

abbrev wide : ℕ → Type 0
wide n = n < 2 ^ 64

scans_wide : Scans decimal wide NumberFollows (number_at tt)
scans_wide = record {
  takes = λ bytes x e. let t = (Reads-number tt).takes bytes x e in (t.0, t.1);
  again = λ n rest fits fol. (Reads-number tt).again n rest fits fol;
}

abbrev is_small : ℕ → Bool
is_small n = ltb n (2 ^ 32)

pub Scans-small : Scans decimal IsSmall NumberFollows small_at
unfolding small_at
Scans-small = Scans-kept IsSmall is_small scans_wide (λ n w t. ltb-true n (2 ^ 32) t) (λ n lt. (omega arith, lt-ltb n (2 ^ 32) lt))

abbrev pub Always : {A : Type 0} → A → List ℕ → Type 0
Always x rest = Unit {0}

abbrev pub NoFact : Unit {0} → Type 0
NoFact x = Unit {0}

mark_takes : (mark : ℕ) (bytes : List ℕ) (x : Unit {0} × List ℕ) → mark_at mark bytes ≡ Ok x → (bytes ≡ mark ∷ x.1) × NoFact x.0
unfolding mark_at
mark_takes mark [] x e = absurd (ok_not_err x (stop_at []) (sym e))
mark_takes mark (b ∷ bytes) x e =
    elim (chosen (eqb b mark) (Ok (tt, bytes)) (Err (stop_at (b ∷ bytes))) (Ok x) e) [
      | inl w ↦
          let made : Unit {0} × List ℕ = (tt, bytes) in
          subst (λ (p : Unit {0} × List ℕ). (b ∷ bytes ≡ mark ∷ p.1) × NoFact p.0) (ok_is {E = Stopped} made x w.1) (ap (λ (n : ℕ). n ∷ bytes) (eqb-true b mark w.0), tt)
      | inr w ↦ absurd (ok_not_err x (stop_at (b ∷ bytes)) (sym w.1))
    ]

mark_again : (mark : ℕ) (rest : List ℕ) → mark_at mark (mark ∷ rest) ≡ Ok (tt, rest)
unfolding mark_at
mark_again mark rest = ap (λ (b : Bool). cond b (Ok (tt, rest)) (Err (stop_at (mark ∷ rest)))) (eq-eqb mark mark refl)

abbrev pub mark_text : ℕ → Unit {0} → List ℕ
mark_text mark x = mark ∷ []

pub Scans-mark : (mark : ℕ) → Scans (mark_text mark) NoFact Always (mark_at mark)
Scans-mark mark = record { takes = mark_takes mark; again = λ x rest fits fol. mark_again mark rest }

abbrev pub bar_text : Unit {0} → List ℕ
bar_text x = bar

pub Scans-bar : Scans bar_text NoFact Always bar_at
unfolding bar_at
Scans-bar =
    let r : Scans bar_text NoFact (λ y rest. Unit {0} × (Unit {0} × Unit {0})) bar_at =
    Scans-via bar_text NoFact nothing (λ y. (tt, (tt, tt))) (Scans-both (Scans-mark 32) (Scans-both (Scans-mark 124) (Scans-mark 32))) (λ x f. (refl, tt)) (λ y f. (refl, refl, (tt, (tt, tt)))) in
    record { takes = r.takes; again = λ x rest fits fol. r.again x rest fits (tt, (tt, tt)) }

-- ---- pairs and sets

abbrev pub PairFollows : Pair → List ℕ → Type 0
PairFollows q rest = NoDigit rest

pub Scans-pair : Scans pair_text IsSmallPair PairFollows pair_at
unfolding pair_at
Scans-pair =
    let three = Scans-both Scans-small (Scans-both (Scans-mark 46) Scans-small) in
    let r = Scans-via pair_text IsSmallPair pair_of (λ (q : Pair). (q.stem, (tt, q.candidate))) three
    (λ x f. (refl, (f.0, f.1.1))) (λ q f. (refl, refl, (f.0, (tt, f.1)))) in
    record { takes = r.takes; again = λ q rest fits fol. r.again q rest fits (refl, (tt, fol)) }

digit_no_dash : (n : ℕ) → n < 10 → eqb (48 + n) 45 ≡ false
digit_no_dash n h = grind (arith, nat_tests)

number_no_dash : (n : ℕ) → n < 2 ^ 64 → (rest : List ℕ) → next_is 45 (decimal n ++ rest) ≡ false
number_no_dash n lt =
    decimal_by_steps (λ k ds. (rest : List ℕ) → next_is 45 (ds ++ rest) ≡ false)
    (λ k h rest. digit_no_dash k h)
    (λ k ds h before rest. ap (next_is 45) (append_assoc ds ((48 + k % 10) ∷ []) rest) ∙ before ((48 + k % 10) ∷ rest))
    n lt

pair_no_dash : NoDash pair_text IsSmallPair
pair_no_dash q rest f = ap (next_is 45) (append_assoc (decimal q.stem) (46 ∷ decimal q.candidate) rest) ∙ number_no_dash q.stem (omega (arith, f.0)) ((46 ∷ decimal q.candidate) ++ rest)

abbrev pub PairsFollow : List Pair → List ℕ → Type 0
PairsFollow = AllFollow 44 pair_text PairFollows

pub Scans-pairs : Scans set_text (All IsSmallPair) PairsFollow pairs_at
unfolding pairs_at
Scans-pairs = Scans-listed 44 pair_text IsSmallPair PairFollows pair_at Scans-pair pair_no_dash

Ascends-more : (p q : Pair) (set : List Pair) → p.stem < q.stem → Ascends (q ∷ set) → Ascends (p ∷ q ∷ set)
Ascends-more p q set lt up i zero d l h = absurd (omega arith)
Ascends-more p q set lt up zero (suc zero) d l h = lt
Ascends-more p q set lt up zero (suc (suc j)) d l h = let more = up 0 (suc j) d (omega arith) (omega arith) in omega (arith, lt, more)
Ascends-more p q set lt up (suc i) (suc j) d l h = up i j d (omega arith) (omega arith)

pub ascends_up : (set : List Pair) → ascends set ≡ true → Ascends set
ascends_up [] e = λ i j d l h. absurd (omega arith)
ascends_up (p ∷ []) e = λ i j d l h. absurd (omega arith)
ascends_up (p ∷ q ∷ set) e =
    let r = and_parts (ltb p.stem q.stem) (ascends (q ∷ set)) e in
    Ascends-more p q set (ltb-true p.stem q.stem r.0) (ascends_up (q ∷ set) r.1)

pub up_ascends : (set : List Pair) → Ascends set → ascends set ≡ true
up_ascends [] up = refl
up_ascends (p ∷ []) up = refl
up_ascends (p ∷ q ∷ set) up =
    and_from (ltb p.stem q.stem) (ascends (q ∷ set)) (lt-ltb p.stem q.stem (up 0 1 p (omega arith) (omega arith))) (up_ascends (q ∷ set) (λ i j d l h. up (suc i) (suc j) d (omega arith) (omega arith)))

abbrev pub IsSet : List Pair → Type 0
IsSet set = Ascends set × All IsSmallPair set

pub Scans-set : Scans set_text IsSet PairsFollow set_at
unfolding set_at
Scans-set = Scans-kept IsSet ascends Scans-pairs (λ set f t. (ascends_up set t, f)) (λ set f. (f.1, up_ascends set f.0))

-- ---- reasons

abbrev pub ReasonFollows : Reason → List ℕ → Type 0
ReasonFollows r rest = NoDigit rest

reason_takes : (bytes : List ℕ) (x : Reason × List ℕ) → reason_at bytes ≡ Ok x → (bytes ≡ reason_text x.0 ++ x.1) × IsSmallReason x.0
unfolding reason_at
reason_takes [] x e = absurd (ok_not_err x (stop_at []) (sym e))
reason_takes (b ∷ bytes) x e =
    let P : Reason × List ℕ → Type 0 = λ p. (b ∷ bytes ≡ reason_text p.0 ++ p.1) × IsSmallReason p.0 in
    let other = cond (eqb b 110) (via (λ n. Earlier n) small_at bytes) (Err (stop_at (b ∷ bytes))) in
    elim (chosen (eqb b 116) (via (λ t. Test t) small_at bytes) other (Ok x) e) [
      | inl w ↦
          let a = bind_ok (small_at bytes) (λ y. Ok (Test y.0, y.1)) x w.1 in
          let t = Scans-small.takes bytes a.0 a.1 in
          let made : Reason × List ℕ = (Test a.0.0, a.0.1) in
          subst P (ok_is {E = Stopped} made x a.2) (ap (λ (n : ℕ). n ∷ bytes) (eqb-true b 116 w.0) ∙ ap (λ (l : List ℕ). 116 ∷ l) t.0, t.1)
      | inr v ↦
          elim (chosen (eqb b 110) (via (λ n. Earlier n) small_at bytes) (Err (stop_at (b ∷ bytes))) (Ok x) v.1) [
            | inl w ↦
                let a = bind_ok (small_at bytes) (λ y. Ok (Earlier y.0, y.1)) x w.1 in
                let t = Scans-small.takes bytes a.0 a.1 in
                let made : Reason × List ℕ = (Earlier a.0.0, a.0.1) in
                subst P (ok_is {E = Stopped} made x a.2) (ap (λ (n : ℕ). n ∷ bytes) (eqb-true b 110 w.0) ∙ ap (λ (l : List ℕ). 110 ∷ l) t.0, t.1)
            | inr w ↦ absurd (ok_not_err x (stop_at (b ∷ bytes)) (sym w.1))
          ]
    ]

reason_again : (r : Reason) (rest : List ℕ) → IsSmallReason r → ReasonFollows r rest → reason_at (reason_text r ++ rest) ≡ Ok (r, rest)
unfolding reason_at
reason_again (Test t) rest fits fol = ap (λ (v : Result (ℕ × List ℕ) Stopped). v >>= λ y. Ok (Test y.0, y.1)) (Scans-small.again t rest fits fol)
reason_again (Earlier n) rest fits fol = ap (λ (v : Result (ℕ × List ℕ) Stopped). v >>= λ y. Ok (Earlier y.0, y.1)) (Scans-small.again n rest fits fol)

pub Scans-reason : Scans reason_text IsSmallReason ReasonFollows reason_at
Scans-reason = record { takes = reason_takes; again = reason_again }

reason_no_dash : NoDash reason_text IsSmallReason
reason_no_dash (Test t) rest f = refl
reason_no_dash (Earlier n) rest f = refl

-- ---- runs

abbrev pub IsCount : ℕ → Type 0
IsCount n = (1 < n) × (n ≤ most)

abbrev is_count : ℕ → Bool
is_count n = ltb 1 n && ltb n (most + 1)

count_told : (n : ℕ) → is_count n ≡ true → IsCount n
count_told n t =
    let p = and_parts (ltb 1 n) (ltb n (most + 1)) t in
    let low = ltb-true 1 n p.0 in
    let high = ltb-true n (most + 1) p.1 in
    (low, omega arith)

count_tells : (n : ℕ) → IsCount n → is_count n ≡ true
count_tells n f = let high : n < most + 1 = omega (arith, f.1) in and_from (ltb 1 n) (ltb n (most + 1)) (lt-ltb 1 n f.0) (lt-ltb n (most + 1) high)

Scans-count : Scans decimal IsCount NumberFollows count_at
unfolding count_at
Scans-count = Scans-kept IsCount is_count Scans-small (λ n w t. count_told n t) (λ n f. (omega (arith, f.1), count_tells n f))

-- what comes behind a reason
abbrev behind : Bool → Reason × List ℕ → Result (Run × List ℕ) Stopped
behind counts x = cond (counts && next_is 42 x.1) (via (run x.0) count_at (drop 1 x.1)) (Ok (run x.0 1, x.1))

abbrev pub RunFollows : Run → List ℕ → Type 0
RunFollows r rest = NoDigit rest × (next_is 42 rest ≡ false)

counted_text : (n : ℕ) → 1 < n → count_text n ≡ 42 ∷ decimal n
counted_text n lt = ap (λ (b : Bool). cond b [] (42 ∷ decimal n)) (ne_eqb n 1 (λ e. omega arith))

some_of : (counts : Bool) → 1 ≤ most_of counts
some_of true = omega arith
some_of false = omega arith

run_takes : (counts : Bool) (bytes : List ℕ) (z : Run × List ℕ) → run_at counts bytes ≡ Ok z → (bytes ≡ run_text z.0 ++ z.1) × IsRun counts z.0
unfolding run_at
run_takes counts bytes z e =
    let P : Run × List ℕ → Type 0 = λ p. (bytes ≡ run_text p.0 ++ p.1) × IsRun counts p.0 in
    let a = bind_ok (reason_at bytes) (behind counts) z e in
    let x = a.0.0 in
    let after = a.0.1 in
    let t = reason_takes bytes a.0 a.1 in
    elim (chosen (counts && next_is 42 after) (via (run x) count_at (drop 1 after)) (Ok (run x 1, after)) (Ok z) a.2) [
      | inl w ↦
          let b = bind_ok (count_at (drop 1 after)) (λ y. Ok (run x y.0, y.1)) z w.1 in
          let n = b.0.0 in
          let u = Scans-count.takes (drop 1 after) b.0 b.1 in
          let flags = and_parts counts (next_is 42 after) w.0 in
          let cut = next_parts 42 after flags.1 in
          let made : Run × List ℕ = (run x n, b.0.1) in
          let tail : after ≡ count_text n ++ b.0.1 = cut ∙ ap (λ (l : List ℕ). 42 ∷ l) u.0 ∙ ap (λ (l : List ℕ). l ++ b.0.1) (sym (counted_text n u.1.0)) in
          let parts : bytes ≡ run_text (run x n) ++ b.0.1 = t.0 ∙ ap (λ (l : List ℕ). reason_text x ++ l) tail ∙ sym (append_assoc (reason_text x) (count_text n) b.0.1) in
          let few : n ≤ most_of counts = subst (λ (c : Bool). n ≤ most_of c) (sym flags.0) u.1.1 in
          subst P (ok_is {E = Stopped} made z b.2) (parts, (t.1, omega (arith, u.1.0), few))
      | inr w ↦
          let made : Run × List ℕ = (run x 1, after) in
          let parts : bytes ≡ run_text (run x 1) ++ after = t.0 ∙ sym (append_assoc (reason_text x) [] after) in
          subst P (ok_is {E = Stopped} made z w.1) (parts, (t.1, omega arith, some_of counts))
    ]

-- a reason alone
once_again : (counts : Bool) (x : Reason) (rest : List ℕ) → IsSmallReason x → RunFollows (run x 1) rest → run_at counts (run_text (run x 1) ++ rest) ≡ Ok (run x 1, rest)
unfolding run_at
once_again counts x rest small fol =
    ap (λ (l : List ℕ). reason_at l >>= behind counts) (append_assoc (reason_text x) [] rest)
    ∙ ap (λ (v : Result (Reason × List ℕ) Stopped). v >>= behind counts) (reason_again x rest small fol.0)
    ∙ ap (λ (b : Bool). cond b (via (run x) count_at (drop 1 rest)) (Ok (run x 1, rest))) (and_right counts (next_is 42 rest) fol.1)

-- a reason with its count
counted_again : (x : Reason) (n : ℕ) (rest : List ℕ) → IsSmallReason x → IsCount n → NoDigit rest → run_at true (run_text (run x n) ++ rest) ≡ Ok (run x n, rest)
unfolding run_at
counted_again x n rest small is fol =
    ap (λ (l : List ℕ). reason_at l >>= behind true) (append_assoc (reason_text x) (count_text n) rest ∙ ap (λ (l : List ℕ). reason_text x ++ (l ++ rest)) (counted_text n is.0))
    ∙ ap (λ (v : Result (Reason × List ℕ) Stopped). v >>= behind true) (reason_again x (42 ∷ (decimal n ++ rest)) small refl)
    ∙ ap (λ (v : Result (ℕ × List ℕ) Stopped). v >>= λ y. Ok (run x y.0, y.1)) (Scans-count.again n rest is fol)

one_or_more_of : (n : ℕ) → 0 < n → (n ≡ 1) ⊎ (1 < n)
one_or_more_of n lt = elim (cases_lt 1 n) [ inl h ↦ inr h | inr h ↦ inl (omega arith) ]

run_again : (counts : Bool) (r : Run) (rest : List ℕ) → IsRun counts r → RunFollows r rest → run_at counts (run_text r ++ rest) ≡ Ok (r, rest)
run_again counts r rest f fol = go counts r.reason r.count f fol
  where
    go : (counts : Bool) (x : Reason) (n : ℕ) → IsRun counts (run x n) → RunFollows (run x n) rest → run_at counts (run_text (run x n) ++ rest) ≡ Ok (run x n, rest)
    go counts x n f fol = elim (one_or_more_of n f.1) [
      | inl one ↦ subst (λ (k : ℕ). run_at counts (run_text (run x k) ++ rest) ≡ Ok (run x k, rest)) (sym one) (once_again counts x rest f.0 fol)
      | inr more ↦ many counts f.2 more
    ]
      where
        many : (c : Bool) → n ≤ most_of c → 1 < n → run_at c (run_text (run x n) ++ rest) ≡ Ok (run x n, rest)
        many true few more = counted_again x n rest f.0 (more, few) fol.0
        many false few more = absurd (omega arith)

pub Scans-run : (counts : Bool) → Scans run_text (IsRun counts) RunFollows (run_at counts)
Scans-run counts = record { takes = run_takes counts; again = run_again counts }

run_no_dash : (counts : Bool) → NoDash run_text (IsRun counts)
run_no_dash counts r rest f = ap (next_is 45) (append_assoc (reason_text r.reason) (count_text r.count) rest) ∙ reason_no_dash r.reason (count_text r.count ++ rest) f.0

abbrev pub RunsFollow : List Run → List ℕ → Type 0
RunsFollow = AllFollow 32 run_text RunFollows

pub Scans-runs : (counts : Bool) → Scans runs_text (All (IsRun counts)) RunsFollow (runs_at counts)
unfolding runs_at
Scans-runs counts = Scans-listed 32 run_text (IsRun counts) RunFollows (run_at counts) (Scans-run counts) (run_no_dash counts)

-- ---- lines

abbrev pub stem_text : ℕ → List ℕ
stem_text n = bar ++ decimal n ++ bar

pub Scans-stem : Scans stem_text IsSmall Always stem_at
unfolding stem_at
Scans-stem =
    let three = Scans-both Scans-bar (Scans-both Scans-small Scans-bar) in
    let r = Scans-via stem_text IsSmall between (λ (n : ℕ). (tt, (n, tt))) three
    (λ x f. (append_assoc bar (decimal x.1.0) bar, f.1.0)) (λ n f. (refl, append_assoc bar (decimal n) bar, (tt, (f, tt)))) in
    record { takes = r.takes; again = λ n rest fits fol. r.again n rest fits (tt, (refl, tt)) }

abbrev four_text : Fields → List ℕ
four_text x = set_text x.0 ++ (stem_text x.1.0 ++ (runs_text x.1.1.0 ++ mark_text 10 x.1.1.1))

line_same : (set : List Pair) (n : ℕ) (runs : List Run) → line_text (record { set = set; stem = n; runs = runs }) ≡ four_text (set, (n, (runs, tt)))
line_same set n runs = simp append_assoc

pub Scans-line : (counts : Bool) → Scans line_text (IsWritten counts) Always (via written_from (fields_at counts))
unfolding fields_at
Scans-line counts =
    let four = Scans-both Scans-set (Scans-both Scans-stem (Scans-both (Scans-runs counts) (Scans-mark 10))) in
    let r = Scans-via line_text (IsWritten counts) written_from (λ (w : Written). (w.set, (w.stem, (w.runs, tt)))) four
    (λ x f. (line_same x.0 x.1.0 x.1.1.0, record { ascends = f.0.0; pairs = f.0.1; stem = f.1.0; runs = f.1.1.0 }))
    (λ w f. (refl, line_same w.set w.stem w.runs, ((f.ascends, f.pairs), (f.stem, (f.runs, tt))))) in
    record {
      takes = r.takes;
      again = λ w rest fits fol. r.again w rest fits (
        all_follow 44 pair_text PairFollows w.set _ (λ x tail. refl) (λ x. refl) refl,
        (tt, (all_follow 32 run_text RunFollows w.runs _ (λ x tail. (refl, refl)) (λ x. (refl, refl)) refl, tt)),
      );
    }

-- what a line means is what it is read as
abbrev meaning : Written × List ℕ → Result (RefutationEntry × List ℕ) Stopped
meaning w = Ok (meant w.0, w.1)

abbrev line_of : Fields × List ℕ → Result (Written × List ℕ) Stopped
line_of x = Ok (written_from x.0, x.1)

abbrev entry_in : Fields × List ℕ → Result (RefutationEntry × List ℕ) Stopped
entry_in x = Ok (entry_from x.0, x.1)

means_so : (v : Result (Fields × List ℕ) Stopped) → (v >>= entry_in) ≡ ((v >>= line_of) >>= meaning)
means_so (Ok x) = refl
means_so (Err e) = refl

means_read : (counts : Bool) (bytes : List ℕ) → entry_at counts bytes ≡ (via written_from (fields_at counts) bytes >>= meaning)
unfolding entry_at
means_read counts bytes = means_so (fields_at counts bytes)

-- a line that was read
pub line_read : (counts : Bool) (bytes : List ℕ) (e : RefutationEntry) (after : List ℕ) → entry_at counts bytes ≡ Ok (e, after) → (w : Written) × (meant w ≡ e) × (bytes ≡ line_text w ++ after) × IsWritten counts w
line_read counts bytes e after is =
    let a = bind_ok (via written_from (fields_at counts) bytes) meaning (e, after) (sym (means_read counts bytes) ∙ is) in
    let t = (Scans-line counts).takes bytes a.0 a.1 in
    let left : RefutationEntry × List ℕ = (meant a.0.0, a.0.1) in
    let right : RefutationEntry × List ℕ = (e, after) in
    let same : left ≡ right = ok_is {E = Stopped} left right a.2 in
    (a.0.0, ap (λ (p : RefutationEntry × List ℕ). p.0) same, t.0 ∙ ap (λ (p : RefutationEntry × List ℕ). line_text a.0.0 ++ p.1) same, t.1)

-- and a line that stands there is read
pub line_again : (counts : Bool) (w : Written) (rest : List ℕ) → IsWritten counts w → entry_at counts (line_text w ++ rest) ≡ Ok (meant w, rest)
line_again counts w rest is =
    means_read counts (line_text w ++ rest) ∙ ap (λ (v : Result (Written × List ℕ) Stopped). v >>= meaning) ((Scans-line counts).again w rest is tt)
