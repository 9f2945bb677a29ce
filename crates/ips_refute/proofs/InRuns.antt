-- The runs of reasons.
use Rattle.std.proofs.Common.{◌≡◌, ℕ, ◌+◌, ◌<◌, ◌≤◌, ◌&&◌, Bool, true, false, ltb, List, [], ◌∷◌, ◌++◌, map, replicate, All, refl, sym, ap, subst, ◌∙◌, append_assoc, arith, eqb-true, inl, inr}
use Rattle.std.proofs.lemmas.Bool.{and_parts, and_from, and_left, and_right, lt-ltb, ltb-true, cases_Bool, cond-true, cond-false, both_ways, false_from_ne_true}
use Rattle.std.specs.List.{join_with_byte}
use Rattle.std.proofs.lemmas.List.{replicate_more}
use Rattle.std.proofs.lemmas.List.Elements.{All-append, All-cons, All-replicate, All-tail}
use Rattle.ips_refute.specs.declared.nogoods.Reason.{Reason}
use Rattle.ips_refute.specs.declared.nogoods.Reason.TheVariants.{Test, Earlier}
use Rattle.ips_refute.specs.declared.runs.Run.{Run}
use Rattle.ips_refute.specs.Reading.{run}
use Rattle.ips_refute.specs.Text.{RefutationEntry, Written, IsEntry, IsWritten, IsRun, IsSmallReason, is_same, meant, most, reasons_of, run_text, runs_behind, runs_of, runs_text, written}

one_reason : (x y : Reason) → is_same x y ≡ true → x ≡ y
one_reason (Test t) (Test u) e = ap (λ (n : ℕ). Test n) (eqb-true t u e)
one_reason (Test t) (Earlier n) e = absurd (both_ways false refl e)
one_reason (Earlier n) (Test t) e = absurd (both_ways false refl e)
one_reason (Earlier n) (Earlier m) e = ap (λ (k : ℕ). Earlier k) (eqb-true n m e)

abbrev pub grows : Reason → ℕ → Reason → Bool
grows x n y = is_same x y && ltb n most

-- the runs stand for the reasons
behind_back : (x : Reason) (n : ℕ) (ys : List Reason) → reasons_of (runs_behind x n ys) ≡ replicate n x ++ ys
behind_back x n [] = refl
behind_back x n (y ∷ ys) = elim (cases_Bool (grows x n y)) [
  | inl e ↦
      let same = one_reason x y (and_parts (is_same x y) (ltb n most) e).0 in
      ap reasons_of (cond-true (grows x n y) (runs_behind x (n + 1) ys) (run x n ∷ runs_behind y 1 ys) e) ∙ behind_back x (n + 1) ys
      ∙ ap (λ (l : List Reason). l ++ ys) (sym (replicate_more n x)) ∙ append_assoc (replicate n x) (x ∷ []) ys ∙ ap (λ (z : Reason). replicate n x ++ z ∷ ys) same
  | inr e ↦
      ap reasons_of (cond-false (grows x n y) (runs_behind x (n + 1) ys) (run x n ∷ runs_behind y 1 ys) e)
      ∙ ap (λ (l : List Reason). replicate n x ++ l) (behind_back y 1 ys)
]

runs_back : (xs : List Reason) → reasons_of (runs_of xs) ≡ xs
runs_back [] = refl
runs_back (x ∷ xs) = behind_back x 1 xs

-- they are runs of the grammar
behind_good : (x : Reason) (n : ℕ) (ys : List Reason) → IsSmallReason x → 0 < n → n ≤ most → All IsSmallReason ys → All (IsRun true) (runs_behind x n ys)
behind_good x n [] small some few rest = All-cons (IsRun true) (run x n) [] (small, some, few) (λ k d l. absurd (omega arith))
behind_good x n (y ∷ ys) small some few rest = elim (cases_Bool (grows x n y)) [
  | inl e ↦
      let more = ltb-true n most (and_parts (is_same x y) (ltb n most) e).1 in
      subst (All (IsRun true)) (sym (cond-true (grows x n y) (runs_behind x (n + 1) ys) (run x n ∷ runs_behind y 1 ys) e)) (behind_good x (n + 1) ys small (omega arith) (omega (arith, more)) (All-tail IsSmallReason y ys rest))
  | inr e ↦
      subst (All (IsRun true)) (sym (cond-false (grows x n y) (runs_behind x (n + 1) ys) (run x n ∷ runs_behind y 1 ys) e))
      (All-cons (IsRun true) (run x n) (runs_behind y 1 ys) (small, some, few) (behind_good y 1 ys (rest 0 y (omega arith)) (omega arith) (omega arith) (All-tail IsSmallReason y ys rest)))
]

runs_good : (xs : List Reason) → All IsSmallReason xs → All (IsRun true) (runs_of xs)
runs_good [] small = λ k d l. absurd (omega arith)
runs_good (x ∷ xs) small = behind_good x 1 xs (small 0 x (omega arith)) (omega arith) (omega arith) (All-tail IsSmallReason x xs small)

-- a nogood in its spelling means that nogood
pub written_back : (e : RefutationEntry) → meant (written e) ≡ e
written_back e = ap (λ (rs : List Reason). let f : RefutationEntry = record { set = e.set; stem = e.stem; reasons = rs } in f) (runs_back e.reasons)

pub written_good : (e : RefutationEntry) → IsEntry e → IsWritten true (written e)
written_good e is = record { ascends = is.ascends; pairs = is.pairs; stem = is.stem; runs = runs_good e.reasons is.reasons }

-- the reasons of runs of the grammar are of the grammar
many_small : (n : ℕ) (x : Reason) (ys : List Reason) → IsSmallReason x → All IsSmallReason ys → All IsSmallReason (replicate n x ++ ys)
many_small n x ys small rest = All-append IsSmallReason (replicate n x) ys (All-replicate IsSmallReason n x small) rest

reasons_small : (counts : Bool) (runs : List Run) → All (IsRun counts) runs → All IsSmallReason (reasons_of runs)
reasons_small counts [] all = λ k d l. absurd (omega arith)
reasons_small counts (r ∷ runs) all = many_small r.count r.reason (reasons_of runs) (all 0 r (omega arith)).0 (reasons_small counts runs (All-tail (IsRun counts) r runs all))

pub meant_good : (counts : Bool) (w : Written) → IsWritten counts w → IsEntry (meant w)
meant_good counts w is = record { ascends = is.ascends; pairs = is.pairs; stem = is.stem; reasons = reasons_small counts w.runs is.runs }

-- there is a first run
pub first_run : (x : Reason) (n : ℕ) (ys : List Reason) → (r : Run) × (rs : List Run) × (runs_behind x n ys ≡ r ∷ rs)
first_run x n [] = (run x n, [], refl)
first_run x n (y ∷ ys) = elim (cases_Bool (grows x n y)) [
  | inl e ↦ let (r, rs, is) = first_run x (n + 1) ys in (r, rs, cond-true (grows x n y) (runs_behind x (n + 1) ys) (run x n ∷ runs_behind y 1 ys) e ∙ is)
  | inr e ↦ (run x n, runs_behind y 1 ys, cond-false (grows x n y) (runs_behind x (n + 1) ys) (run x n ∷ runs_behind y 1 ys) e)
]

-- one more reason of a run, and the first reason of another
pub run_grown : (x : Reason) (n : ℕ) (y : Reason) (ys : List Reason) → grows x n y ≡ true → runs_behind x n (y ∷ ys) ≡ runs_behind x (n + 1) ys
run_grown x n y ys e = cond-true (grows x n y) (runs_behind x (n + 1) ys) (run x n ∷ runs_behind y 1 ys) e

pub run_ended : (x : Reason) (n : ℕ) (y : Reason) (ys : List Reason) → grows x n y ≡ false → runs_behind x n (y ∷ ys) ≡ run x n ∷ runs_behind y 1 ys
run_ended x n y ys e = cond-false (grows x n y) (runs_behind x (n + 1) ys) (run x n ∷ runs_behind y 1 ys) e

-- ---- how runs are written

abbrev pub joined_runs : Reason → ℕ → List Reason → List ℕ
joined_runs x n ys = join_with_byte 32 (map run_text (runs_behind x n ys))

-- the runs are written as a list
pub listed_runs : (x : Reason) (n : ℕ) (ys : List Reason) → joined_runs x n ys ≡ runs_text (runs_behind x n ys)
listed_runs x n ys = let (r, rs, is) = first_run x n ys in ap (λ (l : List Run). join_with_byte 32 (map run_text l)) is ∙ sym (ap runs_text is)

-- a run that grows by a reason
pub grown_text : (x : Reason) (n : ℕ) (y : Reason) (ys : List Reason) → is_same x y ≡ true → n < most → joined_runs x (n + 1) ys ≡ joined_runs x n (y ∷ ys)
grown_text x n y ys one lt = sym (ap (λ (l : List Run). join_with_byte 32 (map run_text l)) (run_grown x n y ys (and_from (is_same x y) (ltb n most) one (lt-ltb n most lt))))

-- a run that ends before a reason
pub ended_text : (x : Reason) (n : ℕ) (y : Reason) (ys : List Reason) → grows x n y ≡ false → run_text (run x n) ++ (32 ∷ joined_runs y 1 ys) ≡ joined_runs x n (y ∷ ys)
ended_text x n y ys e =
    let (r, rs, is) = first_run y 1 ys in
    ap (λ (l : List Run). run_text (run x n) ++ (32 ∷ join_with_byte 32 (map run_text l))) is
    ∙ sym (ap (λ (l : List Run). join_with_byte 32 (map run_text l)) (run_ended x n y ys e ∙ ap (λ (l : List Run). run x n ∷ l) is))

pub full_run : (x : Reason) (n : ℕ) (y : Reason) → most ≤ n → grows x n y ≡ false
full_run x n y many = and_right (is_same x y) (ltb n most) (false_from_ne_true (ltb n most) (λ e. let l = ltb-true n most e in omega arith))

pub other_reason : (x : Reason) (n : ℕ) (y : Reason) → is_same x y ≡ false → grows x n y ≡ false
other_reason x n y e = and_left (is_same x y) (ltb n most) e
