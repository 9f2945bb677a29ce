-- Scanners give what is spelled, and the ways to join them keep that.
use Rattle.std.proofs.Common.{◌≡◌, ℕ, zero, suc, ◌<◌, ◌≤◌, Bool, true, false, cond, List, [], ◌∷◌, ◌++◌, length, drop, All, Result, Ok, Err, refl, sym, ap, subst, ◌∙◌, append_assoc, arith, inl, inr}
use Rattle.std.proofs.lemmas.List.{length-append}
use Rattle.std.proofs.lemmas.List.Elements.{All-cons}
use Rattle.std.specs.Prelude.{map}
use Rattle.std.specs.List.{join_with_byte}
use Rattle.ips_text.specs.declared.refusal.Stop.{Stop}
use Rattle.ips_text.specs.Reading.{◌>>=◌, next_is, both, via, separated, one_or_more, OneOrMore}
use Rattle.ips_text.proofs.Readers.{bind_ok, chosen, ok_is, next_parts, next_same, one_more, fit_cons, spell_cons, count_length}
use Rattle.ips_text.specs.declared.refusal.Or.{Or}
use Rattle.ips_text.specs.declared.refusal.Or.TheVariants.{Bad, OutOfMemory}
use Rattle.ips_text.specs.Reading.{Fails}
use Rattle.ips_text.proofs.Loops.{with_front, reads_stop, bind_same, cond_same, is_shorter}
use Rattle.ips_refute.specs.Text.{listed_text}
use Rattle.ips_refute.specs.Reading.{Scanner, listed_at}

abbrev pub Stopped : Type 0
Stopped = Stop (Unit {0})

regroup : {A : Type 0} (front : List A) (x : A) (read : Result (List A × List ℕ) Stopped) → with_front front (read >>= λ xs. Ok (x ∷ xs.0, xs.1)) ≡ with_front (front ++ x ∷ []) read
regroup {A} front x (Ok z) = ap (λ (xs : List A). Ok (xs, z.1)) (sym (append_assoc front (x ∷ []) z.0))
regroup front x (Err d) = refl

-- r gives the values that fit, spelled so, where what follows may follow
pub record Scans {A : Type 0} (spell : A → List ℕ) (Fits : A → Type 0) (Follows : A → List ℕ → Type 0) (r : Scanner A) : Type 0 where
  pub takes : (bytes : List ℕ) (x : A × List ℕ) → r bytes ≡ Ok x → (bytes ≡ spell x.0 ++ x.1) × Fits x.0
  pub again : (x : A) (rest : List ℕ) → Fits x → Follows x rest → r (spell x ++ rest) ≡ Ok (x, rest)

-- ---- one after the other

pub Scans-both : {A B : Type 0} {spell : A → List ℕ} {Fits : A → Type 0} {Follows : A → List ℕ → Type 0} {r : Scanner A} {spell' : B → List ℕ} {Fits' : B → Type 0} {Follows' : B → List ℕ → Type 0} {s : Scanner B}
    → Scans spell Fits Follows r → Scans spell' Fits' Follows' s
    → Scans (λ (p : A × B). spell p.0 ++ spell' p.1) (λ p. Fits p.0 × Fits' p.1) (λ p rest. Follows p.0 (spell' p.1 ++ rest) × Follows' p.1 rest) (both r s)
Scans-both {A} {B} {spell} {Fits} {Follows} {r} {spell'} {Fits'} {Follows'} {s} first second = record {
  takes = λ bytes z e.
      let a = bind_ok (r bytes) (λ x. s x.1 >>= λ y. Ok ((x.0, y.0), y.1)) z e in
      let b = bind_ok (s a.0.1) (λ y. Ok ((a.0.0, y.0), y.1)) z a.2 in
      let ta = first.takes bytes a.0 a.1 in
      let tb = second.takes a.0.1 b.0 b.1 in
      let made : (A × B) × List ℕ = ((a.0.0, b.0.0), b.0.1) in
      let parts : bytes ≡ (spell a.0.0 ++ spell' b.0.0) ++ b.0.1 = ta.0 ∙ ap (λ (t : List ℕ). spell a.0.0 ++ t) tb.0 ∙ sym (append_assoc (spell a.0.0) (spell' b.0.0) b.0.1) in
      subst (λ (p : (A × B) × List ℕ). (bytes ≡ (spell p.0.0 ++ spell' p.0.1) ++ p.1) × (Fits p.0.0 × Fits' p.0.1)) (ok_is {E = Stopped} made z b.2) (parts, (ta.1, tb.1));
  again = λ x rest fits fol.
      ap (both r s) (append_assoc (spell x.0) (spell' x.1) rest)
      ∙ ap (λ (v : Result (A × List ℕ) Stopped). v >>= λ x. s x.1 >>= λ y. Ok ((x.0, y.0), y.1)) (first.again x.0 (spell' x.1 ++ rest) fits.0 fol.0)
      ∙ ap (λ (v : Result (B × List ℕ) Stopped). v >>= λ y. Ok ((x.0, y.0), y.1)) (second.again x.1 rest fits.1 fol.1);
}

-- ---- a value made of what was read

pub Scans-via : {A B : Type 0} {spell : A → List ℕ} {Fits : A → Type 0} {Follows : A → List ℕ → Type 0} {r : Scanner A} (spell' : B → List ℕ) (Fits' : B → Type 0) (f : A → B) (g : B → A)
    → Scans spell Fits Follows r → ((x : A) → Fits x → (spell' (f x) ≡ spell x) × Fits' (f x)) → ((y : B) → Fits' y → (f (g y) ≡ y) × (spell' y ≡ spell (g y)) × Fits (g y))
    → Scans spell' Fits' (λ y. Follows (g y)) (via f r)
Scans-via {A} {B} {spell} {Fits} {Follows} {r} spell' Fits' f g reads back forth = record {
  takes = λ bytes z e.
      let a = bind_ok (r bytes) (λ x. Ok (f x.0, x.1)) z e in
      let t = reads.takes bytes a.0 a.1 in
      let made : B × List ℕ = (f a.0.0, a.0.1) in
      let b = back a.0.0 t.1 in
      let parts : bytes ≡ spell' (f a.0.0) ++ a.0.1 = t.0 ∙ ap (λ (l : List ℕ). l ++ a.0.1) (sym b.0) in
      subst (λ (p : B × List ℕ). (bytes ≡ spell' p.0 ++ p.1) × Fits' p.0) (ok_is {E = Stopped} made z a.2) (parts, b.1);
  again = λ y rest fits fol.
      let b = forth y fits in
      ap (λ (l : List ℕ). via f r (l ++ rest)) b.1
      ∙ ap (λ (v : Result (A × List ℕ) Stopped). v >>= λ x. Ok (f x.0, x.1)) (reads.again (g y) rest b.2 fol) ∙ ap (λ (v : B). Ok (v, rest)) b.0;
}

-- ---- one or more, with a mark between them

abbrev pub AllFollow : {A : Type 0} → ℕ → (A → List ℕ) → (A → List ℕ → Type 0) → List A → List ℕ → Type 0
AllFollow mark spell Follows [] rest = Unit {0}
AllFollow mark spell Follows (x ∷ []) rest = Follows x rest × (next_is mark rest ≡ false)
AllFollow mark spell Follows (x ∷ y ∷ xs) rest = Follows x ((mark ∷ join_with_byte mark (map spell (y ∷ xs))) ++ rest) × AllFollow mark spell Follows (y ∷ xs) rest

separated_takes : {A : Type 0} (mark : ℕ) (spell : A → List ℕ) (Fits : A → Type 0) (Follows : A → List ℕ → Type 0) (r : Scanner A) → Scans spell Fits Follows r
    → (count : ℕ) (bytes : List ℕ) (z : List A × List ℕ) → length bytes < count → separated mark r count bytes ≡ Ok z
    → (bytes ≡ join_with_byte mark (map spell z.0) ++ z.1) × OneOrMore Fits z.0
unfolding separated
separated_takes mark spell Fits Follows r reads zero bytes z lt e = absurd (omega arith)
separated_takes {A} mark spell Fits Follows r reads (suc count) bytes z lt e =
    let a = bind_ok (r bytes) (one_more mark r count) z e in
    let t = reads.takes bytes a.0 a.1 in
    elim (chosen (next_is mark a.0.1) (via (λ xs. a.0.0 ∷ xs) (separated mark r count) (drop 1 a.0.1)) (Ok (a.0.0 ∷ [], a.0.1)) (Ok z) a.2) [
      | inl w ↦
          let b = bind_ok (separated mark r count (drop 1 a.0.1)) (λ xs. Ok (a.0.0 ∷ xs.0, xs.1)) z w.1 in
          let cut = next_parts mark a.0.1 w.0 in
          let shorter : length (drop 1 a.0.1) < count = omega (arith, ap length cut, ap length t.0, length-append (spell a.0.0) a.0.1) in
          let u = separated_takes mark spell Fits Follows r reads count (drop 1 a.0.1) b.0 shorter b.1 in
          let rest : a.0.1 ≡ mark ∷ (join_with_byte mark (map spell b.0.0) ++ b.0.1) = cut ∙ ap (λ (l : List ℕ). mark ∷ l) u.0 in
          let parts : bytes ≡ join_with_byte mark (map spell (a.0.0 ∷ b.0.0)) ++ b.0.1
          = t.0 ∙ ap (λ (l : List ℕ). spell a.0.0 ++ l) rest ∙ sym (append_assoc (spell a.0.0) (mark ∷ join_with_byte mark (map spell b.0.0)) b.0.1)
          ∙ ap (λ (l : List ℕ). l ++ b.0.1) (sym (spell_cons mark spell Fits a.0.0 b.0.0 u.1)) in
          let made : List A × List ℕ = (a.0.0 ∷ b.0.0, b.0.1) in
          subst (λ (p : List A × List ℕ). (bytes ≡ join_with_byte mark (map spell p.0) ++ p.1) × OneOrMore Fits p.0) (ok_is {E = Stopped} made z b.2) (parts, fit_cons Fits a.0.0 b.0.0 t.1 u.1)
      | inr w ↦
          let made : List A × List ℕ = (a.0.0 ∷ [], a.0.1) in
          subst (λ (p : List A × List ℕ). (bytes ≡ join_with_byte mark (map spell p.0) ++ p.1) × OneOrMore Fits p.0) (ok_is {E = Stopped} made z w.1) (t.0, t.1)
    ]

separated_again : {A : Type 0} (mark : ℕ) (spell : A → List ℕ) (Fits : A → Type 0) (Follows : A → List ℕ → Type 0) (r : Scanner A) → Scans spell Fits Follows r
    → (count : ℕ) (xs : List A) (rest : List ℕ) → length xs ≤ count → OneOrMore Fits xs → AllFollow mark spell Follows xs rest → separated mark r count (join_with_byte mark (map spell xs) ++ rest) ≡ Ok (xs, rest)
unfolding separated
separated_again mark spell Fits Follows r reads count [] rest le fits fol = absurd fits
separated_again mark spell Fits Follows r reads zero (x ∷ xs) rest le fits fol = absurd (omega arith)
separated_again {A} mark spell Fits Follows r reads (suc count) (x ∷ []) rest le fits fol =
    ap (λ (v : Result (A × List ℕ) Stopped). v >>= one_more mark r count) (reads.again x rest fits fol.0)
    ∙ ap (λ (b : Bool). cond b (via (λ xs. x ∷ xs) (separated mark r count) (drop 1 rest)) (Ok (x ∷ [], rest))) fol.1
separated_again {A} mark spell Fits Follows r reads (suc count) (x ∷ y ∷ xs) rest le fits fol =
    let others = join_with_byte mark (map spell (y ∷ xs)) in
    ap (λ (l : List ℕ). separated mark r (suc count) l) (append_assoc (spell x) (mark ∷ others) rest)
    ∙ ap (λ (v : Result (A × List ℕ) Stopped). v >>= one_more mark r count) (reads.again x ((mark ∷ others) ++ rest) fits.0 fol.0)
    ∙ ap (λ (b : Bool). cond b (via (λ xs. x ∷ xs) (separated mark r count) (others ++ rest)) (Ok (x ∷ [], mark ∷ (others ++ rest)))) (next_same mark)
    ∙ ap (λ (v : Result (List A × List ℕ) Stopped). v >>= λ xs. Ok (x ∷ xs.0, xs.1)) (separated_again mark spell Fits Follows r reads count (y ∷ xs) rest (omega arith) fits.1 fol.1)

-- where each value may stand before a mark, and the last one before the rest
pub all_follow : {A : Type 0} (mark : ℕ) (spell : A → List ℕ) (Follows : A → List ℕ → Type 0) (xs : List A) (rest : List ℕ)
    → ((x : A) (tail : List ℕ) → Follows x (mark ∷ tail)) → ((x : A) → Follows x rest) → next_is mark rest ≡ false → AllFollow mark spell Follows xs rest
all_follow mark spell Follows [] rest inner last none = tt
all_follow mark spell Follows (x ∷ []) rest inner last none = (last x, none)
all_follow mark spell Follows (x ∷ y ∷ xs) rest inner last none = (inner x (join_with_byte mark (map spell (y ∷ xs)) ++ rest), all_follow mark spell Follows (y ∷ xs) rest inner last none)

pub Scans-one_or_more : {A : Type 0} (mark : ℕ) (spell : A → List ℕ) (Fits : A → Type 0) (Follows : A → List ℕ → Type 0) (r : Scanner A) → Scans spell Fits Follows r
    → Scans (λ (xs : List A). join_with_byte mark (map spell xs)) (OneOrMore Fits) (AllFollow mark spell Follows) (one_or_more mark r)
Scans-one_or_more {A} mark spell Fits Follows r reads = record {
  takes = λ bytes z e. separated_takes mark spell Fits Follows r reads (suc (length bytes)) bytes z (omega arith) e;
  again = λ xs rest fits fol.
      separated_again mark spell Fits Follows r reads (suc (length (join_with_byte mark (map spell xs) ++ rest))) xs rest (omega (arith, count_length mark spell xs, length-append (join_with_byte mark (map spell xs)) rest)) fits fol;
}

-- ---- lists, or a dash

pub all_fit : {A : Type 0} (Fits : A → Type 0) (xs : List A) → OneOrMore Fits xs → All Fits xs
all_fit Fits [] h = absurd h
all_fit Fits (x ∷ []) h = All-cons Fits x [] h (λ k d l. absurd (omega arith))
all_fit Fits (x ∷ y ∷ xs) h = All-cons Fits x (y ∷ xs) h.0 (all_fit Fits (y ∷ xs) h.1)

pub fit_all : {A : Type 0} (Fits : A → Type 0) (x : A) (xs : List A) → All Fits (x ∷ xs) → OneOrMore Fits (x ∷ xs)
fit_all Fits x [] h = h 0 x (omega arith)
fit_all Fits x (y ∷ xs) h = (h 0 x (omega arith), fit_all Fits y xs (λ k d l. h (suc k) d (omega arith)))

-- no value is written with a dash at its front
abbrev pub NoDash : {A : Type 0} → (A → List ℕ) → (A → Type 0) → Type 0
NoDash {A} spell Fits = (x : A) (rest : List ℕ) → Fits x → next_is 45 (spell x ++ rest) ≡ false

joined_front : {A : Type 0} (mark : ℕ) (spell : A → List ℕ) (Fits : A → Type 0) → NoDash spell Fits → (x : A) (xs : List A) (rest : List ℕ) → Fits x → next_is 45 (join_with_byte mark (map spell (x ∷ xs)) ++ rest) ≡ false
joined_front mark spell Fits none x [] rest f = none x rest f
joined_front mark spell Fits none x (y ∷ xs) rest f =
    ap (next_is 45) (append_assoc (spell x) (mark ∷ join_with_byte mark (map spell (y ∷ xs))) rest) ∙ none x ((mark ∷ join_with_byte mark (map spell (y ∷ xs))) ++ rest) f

listed_again : {A : Type 0} (mark : ℕ) (spell : A → List ℕ) (Fits : A → Type 0) (Follows : A → List ℕ → Type 0) (r : Scanner A) → Scans spell Fits Follows r → NoDash spell Fits
    → (xs : List A) (rest : List ℕ) → All Fits xs → AllFollow mark spell Follows xs rest → listed_at mark r (listed_text mark spell xs ++ rest) ≡ Ok (xs, rest)
listed_again {A} mark spell Fits Follows r reads none [] rest fits fol = refl
listed_again {A} mark spell Fits Follows r reads none (x ∷ xs) rest fits fol =
    let text = join_with_byte mark (map spell (x ∷ xs)) ++ rest in
    ap (λ (b : Bool). cond b (Ok ([], drop 1 text)) (one_or_more mark r text)) (joined_front mark spell Fits none x xs rest (fits 0 x (omega arith)))
    ∙ (Scans-one_or_more mark spell Fits Follows r reads).again (x ∷ xs) rest (fit_all Fits x xs fits) fol

listed_takes : {A : Type 0} (mark : ℕ) (spell : A → List ℕ) (Fits : A → Type 0) (xs : List A) → OneOrMore Fits xs → listed_text mark spell xs ≡ join_with_byte mark (map spell xs)
listed_takes mark spell Fits [] h = absurd h
listed_takes mark spell Fits (x ∷ xs) h = refl

pub Scans-listed : {A : Type 0} (mark : ℕ) (spell : A → List ℕ) (Fits : A → Type 0) (Follows : A → List ℕ → Type 0) (r : Scanner A) → Scans spell Fits Follows r → NoDash spell Fits
    → Scans (listed_text mark spell) (All Fits) (AllFollow mark spell Follows) (listed_at mark r)
Scans-listed {A} mark spell Fits Follows r reads none = record {
  takes = λ bytes z e.
      elim (chosen (next_is 45 bytes) (Ok ([], drop 1 bytes)) (one_or_more mark r bytes) (Ok z) e) [
        | inl w ↦
            let made : List A × List ℕ = ([], drop 1 bytes) in
            subst (λ (p : List A × List ℕ). (bytes ≡ listed_text mark spell p.0 ++ p.1) × All Fits p.0) (ok_is {E = Stopped} made z w.1) (next_parts 45 bytes w.0, λ k d l. absurd (omega arith))
        | inr w ↦
            let t = (Scans-one_or_more mark spell Fits Follows r reads).takes bytes z w.1 in
            (t.0 ∙ ap (λ (l : List ℕ). l ++ z.1) (sym (listed_takes mark spell Fits z.0 t.1)), all_fit Fits z.0 t.1)
      ];
  again = listed_again mark spell Fits Follows r reads none;
}

-- ---- what comes next, in a loop

-- a count that is large enough is as good as another
enough : {A : Type 0} (mark : ℕ) (spell : A → List ℕ) (Fits : A → Type 0) (Follows : A → List ℕ → Type 0) (r : Scanner A) → Scans spell Fits Follows r
    → (m n : ℕ) (bytes : List ℕ) → length bytes < m → length bytes < n → separated mark r m bytes ≡ separated mark r n bytes
unfolding separated
enough mark spell Fits Follows r reads zero n bytes lm ln = absurd (omega arith)
enough mark spell Fits Follows r reads (suc m) zero bytes lm ln = absurd (omega arith)
enough {A} mark spell Fits Follows r reads (suc m) (suc n) bytes lm ln =
    bind_same (r bytes) (one_more mark r m) (one_more mark r n) (λ x e.
    cond_same (next_is mark x.1) (via (λ xs. x.0 ∷ xs) (separated mark r m) (drop 1 x.1)) (via (λ xs. x.0 ∷ xs) (separated mark r n) (drop 1 x.1)) (Ok (x.0 ∷ [], x.1)) (λ there.
    let t = reads.takes bytes x e in
    let cut = next_parts mark x.1 there in
    let shorter = is_shorter bytes (spell x.0) x.1 (drop 1 x.1) mark t.0 cut in
    ap (λ (v : Result (List A × List ℕ) Stopped). v >>= λ xs. Ok (x.0 ∷ xs.0, xs.1)) (enough mark spell Fits Follows r reads m n (drop 1 x.1) (omega arith) (omega arith))))

-- a value and its mark, and then the rest
pub scans_on : {A : Type 0} (mark : ℕ) (spell : A → List ℕ) (Fits : A → Type 0) (Follows : A → List ℕ → Type 0) (r : Scanner A) → Scans spell Fits Follows r
    → (front : List A) (bytes : List ℕ) (x : A) (after more : List ℕ) (total : Result (List A × List ℕ) Stopped) → r bytes ≡ Ok (x, after) → after ≡ mark ∷ more
    → with_front front (one_or_more mark r bytes) ≡ total → with_front (front ++ x ∷ []) (one_or_more mark r more) ≡ total
unfolding separated
scans_on {A} mark spell Fits Follows r reads front bytes x after more total e0 cut so_far =
    let e : r bytes ≡ Ok (x, mark ∷ more) = e0 ∙ ap (λ (l : List ℕ). Ok (x, l)) cut in
    let t = reads.takes bytes (x, mark ∷ more) e in
    let shorter = is_shorter bytes (spell x) (mark ∷ more) more mark t.0 refl in
    let one : one_or_more mark r bytes ≡ via (λ xs. x ∷ xs) (one_or_more mark r) more
    = ap (λ (v : Result (A × List ℕ) Stopped). v >>= one_more mark r (length bytes)) e
    ∙ ap (λ (b : Bool). cond b (via (λ xs. x ∷ xs) (separated mark r (length bytes)) more) (Ok (x ∷ [], mark ∷ more))) (next_same mark)
    ∙ ap (λ (v : Result (List A × List ℕ) Stopped). v >>= λ xs. Ok (x ∷ xs.0, xs.1)) (enough mark spell Fits Follows r reads (length bytes) (suc (length more)) more shorter (omega arith)) in
    sym (ap (with_front front) one ∙ regroup front x (one_or_more mark r more)) ∙ so_far

pub scans_stop : {A : Type 0} (mark : ℕ) (r : Scanner A) (e : Or Stopped) (front : List A) (bytes : List ℕ) (total : Result (List A × List ℕ) Stopped) → Fails e (r bytes)
    → with_front front (one_or_more mark r bytes) ≡ total → Fails e total
scans_stop mark r (Bad s) front bytes total h so_far = reads_stop mark r front bytes s total h so_far
scans_stop mark r OutOfMemory front bytes total h so_far = tt

pub scans_shorter : {A : Type 0} (mark : ℕ) (spell : A → List ℕ) (Fits : A → Type 0) (Follows : A → List ℕ → Type 0) (r : Scanner A) → Scans spell Fits Follows r
    → (bytes : List ℕ) (x : A) (after more : List ℕ) → r bytes ≡ Ok (x, after) → after ≡ mark ∷ more → length more < length bytes
scans_shorter mark spell Fits Follows r reads bytes x after more e cut = is_shorter bytes (spell x) after more mark (reads.takes bytes (x, after) e).0 cut
