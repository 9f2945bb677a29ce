-- Reading to the end of a text, in steps: what each step reads, and the first place at which a text goes wrong.
use Rattle.std.proofs.Common.{◌≡◌, ℕ, suc, ◌-◌, ◌<◌, ◌≤◌, Bool, true, false, cond, eqb, List, [], ◌∷◌, ◌++◌, length, take, drop, Result, Ok, Err, refl, sym, ap, subst, ◌∙◌, append_assoc, arith, inl, inr, ◌⊎◌}
use Rattle.std.proofs.lemmas.List.{append-nil, length-append, take_at}
use Rattle.std.proofs.lemmas.Bool.{eqb-true, eqb-false, eq-eqb, true≢false, false_from_ne_true}
use Rattle.std.proofs.lemmas.Bool.Decides.{Decides-eqb}
use Rattle.std.proofs.lemmas.Slice.Eq.{starts_is}
use Rattle.std.proofs.Math.Seq.{drop-append_seam}
use Rattle.std.specs.List.{starts_with}
use Rattle.ips_text.specs.declared.refusal.Stop.{Stop}
use Rattle.ips_text.specs.Reading.{◌>>=◌, Reader, next_is, whole, Begins, IsFirstBad}
use Rattle.ips_text.proofs.Readers.{Reads, SameBefore, bind_ok, bind_err, ok_is, ok_not_err, chosen, next_parts, NoText, whole_found, whole_only, whole_stops}
use Rattle.ips_text.specs.Quote.{fits_name}
use Rattle.ips_fmri.specs.declared.fault.Part.{Part}
use Rattle.ips_fmri.specs.Reading.{expected, limited}

-- a text goes wrong where so many bytes are left: what stands before begins a text of the language, and the next byte continues none
pub record GoesWrong (Lang : List ℕ → Type 0) (text : List ℕ) (left : ℕ) : Type 0 where
  pub front : List ℕ
  pub tail : List ℕ
  pub parts : text ≡ front ++ tail
  pub left_is : length tail ≡ left
  pub begins : Begins Lang front
  pub no_further : (c : ℕ) (rest more : List ℕ) → tail ≡ c ∷ rest → Lang (front ++ (c ∷ more)) → ⊥

-- read answers the values that texts write, and where other texts go wrong
pub record Judges {K A : Type 0} (Writes : A → List ℕ → Type 0) (Lang : List ℕ → Type 0) (read : List ℕ → Result A (Stop K)) : Type 0 where
  pub found : (text : List ℕ) (x : A) → read text ≡ Ok x → Writes x text
  pub only : (text : List ℕ) (x : A) → Writes x text → read text ≡ Ok x
  pub wrong : (text : List ℕ) (s : Stop K) → read text ≡ Err s → GoesWrong Lang text s.left
  pub inside : (text : List ℕ) (x : A) → Writes x text → Lang text
  pub word : List ℕ
  pub some : Lang word

-- ---- the place

cut_place : (front tail : List ℕ) → length (front ++ tail) - length tail ≡ length front
cut_place front tail = omega (arith, length-append front tail)

next_taken : (front : List ℕ) (c : ℕ) (rest : List ℕ) → take (suc (length front)) (front ++ (c ∷ rest)) ≡ front ++ (c ∷ [])
next_taken front c rest =
    ap (λ (l : List ℕ). take (suc (length front)) l) (sym (append_assoc front (c ∷ []) rest)) ∙ take_at (front ++ (c ∷ [])) rest (suc (length front)) (omega (arith, length-append front (c ∷ [])))

first_bad_at : (Lang : List ℕ → Type 0) (front tail : List ℕ) → Begins Lang front → ((c : ℕ) (rest more : List ℕ) → tail ≡ c ∷ rest → Lang (front ++ (c ∷ more)) → ⊥) → IsFirstBad Lang (front ++ tail) (length front)
first_bad_at Lang front [] begins no_further = record {
  within = omega (arith, length-append front []);
  begins = subst (Begins Lang) (sym (take_at front [] (length front) refl)) begins;
  no_further = λ lt. absurd (omega (arith, length-append front []));
}
first_bad_at Lang front (c ∷ rest) begins no_further = record {
  within = omega (arith, length-append front (c ∷ rest));
  begins = subst (Begins Lang) (sym (take_at front (c ∷ rest) (length front) refl)) begins;
  no_further = λ lt b. no_further c rest b.0 refl (subst Lang (ap (λ (l : List ℕ). l ++ b.0) (next_taken front c rest) ∙ append_assoc front (c ∷ []) b.0) b.1);
}

pub first_bad : (Lang : List ℕ → Type 0) (text : List ℕ) (left : ℕ) → GoesWrong Lang text left → (left ≤ length text) × IsFirstBad Lang text (length text - left)
first_bad Lang text left w =
    let place : length text - left ≡ length w.front = omega (arith, ap length w.parts, length-append w.front w.tail, w.left_is) in (
      omega (arith, ap length w.parts, length-append w.front w.tail, w.left_is),
      subst (λ (n : ℕ). IsFirstBad Lang text n) (sym place) (subst (λ (t : List ℕ). IsFirstBad Lang t (length w.front)) (sym w.parts) (first_bad_at Lang w.front w.tail w.begins w.no_further)),
    )

-- ---- one reader, and what it is followed by

-- whatever follows the next byte, a reader stops there
stopped_before : {K A : Type 0} (r : Reader K A) (front tail : List ℕ) (kind : K) (c : ℕ) (rest more : List ℕ) (x : A × List ℕ) → SameBefore r front tail kind → tail ≡ c ∷ rest → r (front ++ (c ∷ more)) ≡ Ok x → ⊥
stopped_before r front tail kind c rest more x same is e =
    let at : SameBefore r front (c ∷ rest) kind = subst (λ (t : List ℕ). SameBefore r front t kind) is same in
    ok_not_err x (record { kind = kind; left = length (c ∷ more) }) (sym e ∙ at more)

-- what follows a value depends on its first byte alone
follows_same : {A : Type 0} (Follows : A → List ℕ → Type 0) (head : (x : A) (c : ℕ) (tail more : List ℕ) → Follows x (c ∷ tail) → Follows x (c ∷ more)) (x : A) (front tail : List ℕ) (c : ℕ) (rest more : List ℕ) → tail ≡ c ∷ rest → Follows x (front ++ tail) → Follows x (front ++ (c ∷ more))
follows_same Follows head x [] tail c rest more is h = head x c rest more (subst (Follows x) is h)
follows_same Follows head x (d ∷ front) tail c rest more is h = head x d (front ++ tail) (front ++ (c ∷ more)) h

-- the value, and what is written behind it
abbrev pub Behind : {A B : Type 0} → (A → List ℕ) → (A → Type 0) → (A → B → List ℕ → Type 0) → B → List ℕ → Type 0
Behind {A} spell Fits Writes y text = (x : A) × Fits x × (rest : List ℕ) × (text ≡ spell x ++ rest) × Writes x y rest

abbrev pub BehindIn : {A : Type 0} → (A → List ℕ) → (A → Type 0) → (A → List ℕ → Type 0) → List ℕ → Type 0
BehindIn {A} spell Fits Lang text = (x : A) × Fits x × (rest : List ℕ) × (text ≡ spell x ++ rest) × Lang x rest

pub judges_behind : {K A B : Type 0} (spell : A → List ℕ) (Fits : A → Type 0) (Follows : A → List ℕ → Type 0) (r : Reader K A) (Writes : A → B → List ℕ → Type 0) (Lang : A → List ℕ → Type 0) (next : A → List ℕ → Result B (Stop K))
    → Reads spell Fits Follows r → ((x : A) → Fits x → Judges (Writes x) (Lang x) (next x)) → ((x : A) (text : List ℕ) → Fits x → Lang x text → Follows x text) → (x : A) → Fits x
    → Judges (Behind spell Fits Writes) (BehindIn spell Fits Lang) (λ text. r text >>= λ x. next x.0 x.1)
judges_behind {K} {A} {B} spell Fits Follows r Writes Lang next reads then follow some some_fits = record {
  found = λ text y e.
      let a = bind_ok (r text) (λ x. next x.0 x.1) y e in
      let t = reads.takes text a.0 a.1 in
      (a.0.0, t.1, a.0.1, t.0, (then a.0.0 t.1).found a.0.1 y a.2);
  only = λ text y w.
      let j = then w.0 w.1 in
      ap (λ (l : List ℕ). r l >>= λ x. next x.0 x.1) w.3
      ∙ ap (λ (v : Result (A × List ℕ) (Stop K)). v >>= λ x. next x.0 x.1) (reads.again w.0 w.2 w.1 (follow w.0 w.2 w.1 (j.inside w.2 y w.4)))
      ∙ j.only w.2 y w.4;
  wrong = λ text s e.
      elim (bind_err (r text) (λ x. next x.0 x.1) s e) [
        | inl e1 ↦
            let t = reads.stops text s e1 in
            let j = then t.value t.fits in
            record {
              front = t.front;
              tail = t.tail;
              parts = t.parts;
              left_is = t.left;
              begins = (t.more ++ j.word, (t.value, t.fits, j.word, sym (append_assoc t.front t.more j.word) ∙ ap (λ (l : List ℕ). l ++ j.word) t.begins, j.some));
              no_further = λ c rest more is w. stopped_before r t.front t.tail s.kind c rest more (w.0, w.2) t.local is (ap r w.3 ∙ reads.again w.0 w.2 w.1 (follow w.0 w.2 w.1 w.4));
            }
        | inr v ↦
            let t = reads.takes text v.0 v.1 in
            let h = (then v.0.0 t.1).wrong v.0.1 s v.2 in
            record {
              front = spell v.0.0 ++ h.front;
              tail = h.tail;
              parts = t.0 ∙ ap (λ (l : List ℕ). spell v.0.0 ++ l) h.parts ∙ sym (append_assoc (spell v.0.0) h.front h.tail);
              left_is = h.left_is;
              begins = (h.begins.0, (v.0.0, t.1, h.front ++ h.begins.0, append_assoc (spell v.0.0) h.front h.begins.0, h.begins.1));
              no_further = λ c rest more is w.
                  let behind : List ℕ = h.front ++ (c ∷ more) in
                  let fol = follows_same Follows reads.head v.0.0 h.front h.tail c rest more is (subst (Follows v.0.0) h.parts t.2) in
                  let one : r (spell v.0.0 ++ behind) ≡ Ok (v.0.0, behind) = reads.again v.0.0 behind t.1 fol in
                  let two : r (spell v.0.0 ++ behind) ≡ Ok (w.0, w.2) = ap r (sym (append_assoc (spell v.0.0) h.front (c ∷ more)) ∙ w.3) ∙ reads.again w.0 w.2 w.1 (follow w.0 w.2 w.1 w.4) in
                  let same : (let p : A × List ℕ = (w.0, w.2) in p) ≡ (v.0.0, behind) = ok_is {E = Stop K} (w.0, w.2) (v.0.0, behind) (sym two ∙ one) in
                  h.no_further c rest more is (subst (λ (p : A × List ℕ). Lang p.0 p.1) same w.4);
            }
      ];
  inside = λ text y w. (w.0, w.1, w.2, w.3, (then w.0 w.1).inside w.2 y w.4);
  word = spell some ++ (then some some_fits).word;
  some = (some, some_fits, (then some some_fits).word, refl, (then some some_fits).some);
}

-- ---- a value made of what was read

abbrev pub MadeOf : {A B : Type 0} → (A → B) → (A → List ℕ → Type 0) → B → List ℕ → Type 0
MadeOf {A} f Writes y text = (x : A) × (f x ≡ y) × Writes x text

pub judges_made : {K A B : Type 0} (f : A → B) (Writes : A → List ℕ → Type 0) (Lang : List ℕ → Type 0) (read : List ℕ → Result A (Stop K)) → Judges Writes Lang read
    → Judges (MadeOf f Writes) Lang (λ text. read text >>= λ x. Ok (f x))
judges_made {K} {A} {B} f Writes Lang read j = record {
  found = λ text y e. let a = bind_ok (read text) (λ x. Ok (f x)) y e in (a.0, ok_is {E = Stop K} (f a.0) y a.2, j.found text a.0 a.1);
  only = λ text y w. ap (λ (v : Result A (Stop K)). v >>= λ x. Ok (f x)) (j.only text w.0 w.2) ∙ ap (λ (v : B). Ok v) w.1;
  wrong = λ text s e. elim (bind_err (read text) (λ x. Ok (f x)) s e) [ inl e1 ↦ j.wrong text s e1 | inr v ↦ absurd (ok_not_err (f v.0) s v.2) ];
  inside = λ text y w. j.inside text w.0 w.2;
  word = j.word;
  some = j.some;
}

-- ---- other words for what is written, and for the language

pub judges_like : {K A : Type 0} {Writes : A → List ℕ → Type 0} {Lang : List ℕ → Type 0} {read : List ℕ → Result A (Stop K)} (Writes' : A → List ℕ → Type 0) (Lang' : List ℕ → Type 0)
    → Judges Writes Lang read → ((x : A) (text : List ℕ) → Writes x text → Writes' x text) → ((x : A) (text : List ℕ) → Writes' x text → Writes x text)
    → ((text : List ℕ) → Lang text → Lang' text) → ((text : List ℕ) → Lang' text → Lang text) → Judges Writes' Lang' read
judges_like {K} {A} {Writes} {Lang} {read} Writes' Lang' j to from into out = record {
  found = λ text x e. to x text (j.found text x e);
  only = λ text x w. j.only text x (from x text w);
  wrong = λ text s e.
      let h = j.wrong text s e in
      record {
        front = h.front;
        tail = h.tail;
        parts = h.parts;
        left_is = h.left_is;
        begins = (h.begins.0, into (h.front ++ h.begins.0) h.begins.1);
        no_further = λ c rest more is w. h.no_further c rest more is (out (h.front ++ (c ∷ more)) w);
      };
  inside = λ text x w. into text (j.inside text x (from x text w));
  word = j.word;
  some = into j.word j.some;
}

-- ---- a mark that has to stand first

abbrev pub Marked : ℕ → (List ℕ → Type 0) → List ℕ → Type 0
Marked mark Lang text = (rest : List ℕ) × (text ≡ mark ∷ rest) × Lang rest

pub behind_mark : (mark : ℕ) (Lang : List ℕ → Type 0) (bytes : List ℕ) (left : ℕ) → GoesWrong Lang bytes left → GoesWrong (Marked mark Lang) (mark ∷ bytes) left
behind_mark mark Lang bytes left h = record {
  front = mark ∷ h.front;
  tail = h.tail;
  parts = ap (λ (l : List ℕ). mark ∷ l) h.parts;
  left_is = h.left_is;
  begins = (h.begins.0, (h.front ++ h.begins.0, refl, h.begins.1));
  no_further = λ c rest more is w. let same : h.front ++ (c ∷ more) ≡ w.0 = cc (w.1) in h.no_further c rest more is (subst Lang (sym same) w.2);
}

other_mark : (mark : ℕ) (Lang : List ℕ → Type 0) (bytes word : List ℕ) → Lang word → ((rest : List ℕ) → bytes ≡ mark ∷ rest → ⊥) → GoesWrong (Marked mark Lang) bytes (length bytes)
other_mark mark Lang bytes word some other = record {
  front = [];
  tail = bytes;
  parts = refl;
  left_is = refl;
  begins = (mark ∷ word, (word, refl, some));
  no_further = λ c rest more is w. let same : c ≡ mark = cc (w.1) in other rest (is ∙ ap (λ (b : ℕ). b ∷ rest) same);
}

pub left_of : {K A : Type 0} (kind : K) (left : ℕ) (s : Stop K) → (let e : Result A (Stop K) = Err (record { kind = kind; left = left }) in e) ≡ Err s → left ≡ s.left
left_of kind left s e = cc

not_marked : (mark b : ℕ) (bytes rest : List ℕ) → eqb b mark ≡ false → b ∷ bytes ≡ mark ∷ rest → ⊥
not_marked mark b bytes rest ne is = eqb-false b mark ne (cc)

pub judges_expected : {A : Type 0} (kind : Part) (mark : ℕ) (Writes : A → List ℕ → Type 0) (Lang : List ℕ → Type 0) (next : List ℕ → Result A (Stop Part)) → Judges Writes Lang next
    → Judges (λ (x : A). Marked mark (Writes x)) (Marked mark Lang) (expected kind mark next)
unfolding expected
judges_expected {A} kind mark Writes Lang next j = record {
  found = found;
  only = λ text x w. ap (expected kind mark next) w.1 ∙ ap (λ (b : Bool). cond b (next w.0) (Err (record { kind = kind; left = length (mark ∷ w.0) }))) (eq-eqb mark mark refl) ∙ j.only w.0 x w.2;
  wrong = wrong;
  inside = λ text x w. (w.0, w.1, j.inside w.0 x w.2);
  word = mark ∷ j.word;
  some = (j.word, refl, j.some);
}
  where
    found : (text : List ℕ) (x : A) → expected kind mark next text ≡ Ok x → Marked mark (Writes x) text
    found [] x e = absurd (ok_not_err x (record { kind = kind; left = 0 }) (sym e))
    found (b ∷ bytes) x e =
        elim (chosen (eqb b mark) (next bytes) (Err (record { kind = kind; left = length (b ∷ bytes) })) (Ok x) e) [
          | inl w ↦ (bytes, ap (λ (c : ℕ). c ∷ bytes) (eqb-true b mark w.0), j.found bytes x w.1)
          | inr w ↦ absurd (ok_not_err x (record { kind = kind; left = length (b ∷ bytes) }) (sym w.1))
        ]

    wrong : (text : List ℕ) (s : Stop Part) → expected kind mark next text ≡ Err s → GoesWrong (Marked mark Lang) text s.left
    wrong [] s e = subst (GoesWrong (Marked mark Lang) []) (left_of {A = A} kind 0 s e) (other_mark mark Lang [] j.word j.some (λ rest is. absurd cc))
    wrong (b ∷ bytes) s e =
        elim (chosen (eqb b mark) (next bytes) (Err (record { kind = kind; left = length (b ∷ bytes) })) (Err s) e) [
          | inl w ↦ subst (λ (c : ℕ). GoesWrong (Marked mark Lang) (c ∷ bytes) s.left) (sym (eqb-true b mark w.0)) (behind_mark mark Lang bytes s.left (j.wrong bytes s w.1))
          | inr w ↦ subst (GoesWrong (Marked mark Lang) (b ∷ bytes)) (left_of {A = A} kind (length (b ∷ bytes)) s w.1) (other_mark mark Lang (b ∷ bytes) j.word j.some (λ rest is. not_marked mark b bytes rest w.0 is))
        ]

pub not_nothing : (front : List ℕ) (c : ℕ) (more : List ℕ) → front ++ (c ∷ more) ≡ [] → ⊥
not_nothing [] c more is = absurd cc
not_nothing (d ∷ front) c more is = absurd cc

-- the first byte is the same, whatever follows the next one
same_next : (mark : ℕ) (front : List ℕ) (c : ℕ) (rest more : List ℕ) → next_is mark (front ++ (c ∷ rest)) ≡ next_is mark (front ++ (c ∷ more))
same_next mark [] c rest more = refl
same_next mark (d ∷ front) c rest more = refl

marked_front : (mark : ℕ) (front bytes tail : List ℕ) (c : ℕ) (more rest : List ℕ) → mark ∷ bytes ≡ front ++ tail → tail ≡ c ∷ rest → next_is mark (front ++ (c ∷ more)) ≡ true
marked_front mark front bytes tail c more rest parts is =
    sym (same_next mark front c rest more) ∙ ap (next_is mark) (sym (parts ∙ ap (λ (l : List ℕ). front ++ l) is)) ∙ eq-eqb mark mark refl

-- ---- a part that may be too long

-- behind a part that is too long nothing stands
abbrev pub UnlessLong : List ℕ → (List ℕ → Type 0) → List ℕ → Type 0
UnlessLong part Lang text = (text ≡ []) ⊎ ((fits_name part ≡ true) × Lang text)

nothing_behind : (part : List ℕ) (Lang : List ℕ → Type 0) (text : List ℕ) → fits_name part ≡ false → GoesWrong (UnlessLong part Lang) text (length text)
nothing_behind part Lang text long = record {
  front = [];
  tail = text;
  parts = refl;
  left_is = refl;
  begins = ([], inl refl);
  no_further = λ c rest more is w. elim w [ inl none ↦ absurd cc | inr v ↦ absurd (true≢false (sym v.0 ∙ long)) ];
}

some_behind : (part : List ℕ) (Lang : List ℕ → Type 0) (text : List ℕ) (left : ℕ) → fits_name part ≡ true → GoesWrong Lang text left → GoesWrong (UnlessLong part Lang) text left
some_behind part Lang text left short h = record {
  front = h.front;
  tail = h.tail;
  parts = h.parts;
  left_is = h.left_is;
  begins = (h.begins.0, inr (short, h.begins.1));
  no_further = λ c rest more is w. elim w [ inl none ↦ absurd (not_nothing h.front c more none) | inr v ↦ h.no_further c rest more is v.1 ];
}

pub judges_limited : {A : Type 0} (kind : Part) (part : List ℕ) (Writes : A → List ℕ → Type 0) (Lang : List ℕ → Type 0) (next : List ℕ → Result A (Stop Part)) → Judges Writes Lang next
    → Judges (λ (x : A) text. (fits_name part ≡ true) × Writes x text) (UnlessLong part Lang) (limited kind part next)
unfolding limited
judges_limited {A} kind part Writes Lang next j = record {
  found = λ text x e.
      elim (chosen (fits_name part) (next text) (Err (record { kind = kind; left = length text })) (Ok x) e) [
        | inl w ↦ (w.0, j.found text x w.1)
        | inr w ↦ absurd (ok_not_err x (record { kind = kind; left = length text }) (sym w.1))
      ];
  only = λ text x w. ap (λ (b : Bool). cond b (next text) (Err (record { kind = kind; left = length text }))) w.0 ∙ j.only text x w.1;
  wrong = λ text s e.
      elim (chosen (fits_name part) (next text) (Err (record { kind = kind; left = length text })) (Err s) e) [
        | inl w ↦ some_behind part Lang text s.left w.0 (j.wrong text s w.1)
        | inr w ↦ subst (GoesWrong (UnlessLong part Lang) text) (left_of {A = A} kind (length text) s w.1) (nothing_behind part Lang text w.0)
      ];
  inside = λ text x w. inr (w.0, j.inside text x w.1);
  word = [];
  some = inl refl;
}

-- ---- one way behind a mark, and another where it doesn't stand

abbrev pub EitherWay : ℕ → (List ℕ → Type 0) → (List ℕ → Type 0) → List ℕ → Type 0
EitherWay mark One Two text = Marked mark One text ⊎ Two text

pub judges_either : {A : Type 0} (mark : ℕ) (WritesOne WritesTwo : A → List ℕ → Type 0) (One Two : List ℕ → Type 0) (one two : List ℕ → Result A (Stop Part))
    → Judges WritesOne One one → Judges WritesTwo Two two → ((text : List ℕ) → Two text → next_is mark text ≡ false)
    → Judges (λ (x : A). EitherWay mark (WritesOne x) (WritesTwo x)) (EitherWay mark One Two) (λ text. cond (next_is mark text) (one (drop 1 text)) (two text))
judges_either {A} mark WritesOne WritesTwo One Two one two j k other = record {
  found = λ text x e.
      elim (chosen (next_is mark text) (one (drop 1 text)) (two text) (Ok x) e) [
        | inl w ↦ inl (drop 1 text, next_parts mark text w.0, j.found (drop 1 text) x w.1)
        | inr w ↦ inr (k.found text x w.1)
      ];
  only = λ text x w.
      elim w [
        | inl v ↦
            ap (λ (l : List ℕ). cond (next_is mark l) (one (drop 1 l)) (two l)) v.1
            ∙ ap (λ (b : Bool). cond b (one v.0) (two (mark ∷ v.0))) (eq-eqb mark mark refl) ∙ j.only v.0 x v.2
        | inr v ↦ ap (λ (b : Bool). cond b (one (drop 1 text)) (two text)) (other text (k.inside text x v)) ∙ k.only text x v
      ];
  wrong = λ text s e.
      elim (chosen (next_is mark text) (one (drop 1 text)) (two text) (Err s) e) [
        | inl w ↦
            let h = behind_mark mark One (drop 1 text) s.left (j.wrong (drop 1 text) s w.1) in
            let cut = next_parts mark text w.0 in
            record {
              front = h.front;
              tail = h.tail;
              parts = cut ∙ h.parts;
              left_is = h.left_is;
              begins = (h.begins.0, inl h.begins.1);
              no_further = λ c rest more is v.
                  elim v [
                    | inl one ↦ h.no_further c rest more is one
                    | inr two ↦ true≢false (sym (marked_front mark h.front (drop 1 text) h.tail c more rest h.parts is) ∙ other (h.front ++ (c ∷ more)) two)
                  ];
            }
        | inr w ↦
            let h = k.wrong text s w.1 in
            record {
              front = h.front;
              tail = h.tail;
              parts = h.parts;
              left_is = h.left_is;
              begins = (h.begins.0, inr h.begins.1);
              no_further = λ c rest more is v.
                  elim v [
                    | inl one ↦ true≢false (sym (ap (next_is mark) (h.parts ∙ ap (λ (l : List ℕ). h.front ++ l) is) ∙ same_next mark h.front c rest more ∙ ap (next_is mark) one.1 ∙ eq-eqb mark mark refl) ∙ w.0)
                    | inr two ↦ h.no_further c rest more is two
                  ];
            }
      ];
  inside = λ text x w. elim w [ inl v ↦ inl (v.0, v.1, j.inside v.0 x v.2) | inr v ↦ inr (k.inside text x v) ];
  word = k.word;
  some = inr k.some;
}

-- ---- all of the text, by one reader

abbrev pub Spelled : {A : Type 0} → (A → List ℕ) → (A → Type 0) → A → List ℕ → Type 0
Spelled spell Fits x text = Fits x × (text ≡ spell x)

abbrev pub Spellings : {A : Type 0} → (A → List ℕ) → (A → Type 0) → List ℕ → Type 0
Spellings {A} spell Fits text = (x : A) × Fits x × (text ≡ spell x)

stops_after : {K A : Type 0} (kind : A → K) (r : Reader K A) (front tail : List ℕ) (c : ℕ) (rest more : List ℕ) (x : A) → NoText kind r front tail → tail ≡ c ∷ rest → whole kind r (front ++ (c ∷ more)) ≡ Ok x → ⊥
stops_after kind r front tail c rest more x h is e = let at : NoText kind r front (c ∷ rest) = subst (λ (t : List ℕ). NoText kind r front t) is h in at more x e

pub judges_whole : {K A : Type 0} (spell : A → List ℕ) (Fits : A → Type 0) (Follows : A → List ℕ → Type 0) (r : Reader K A) (kind : A → K) → Reads spell Fits Follows r → ((x : A) → Fits x → Follows x []) → (x : A) → Fits x
    → Judges (Spelled spell Fits) (Spellings spell Fits) (whole kind r)
judges_whole {K} {A} spell Fits Follows r kind reads ends some some_fits = record {
  found = λ text x e. whole_found spell Fits Follows r kind reads text x e;
  only = λ text x w. ap (whole kind r) w.1 ∙ whole_only spell Fits Follows r kind reads ends x w.0;
  wrong = λ text s e.
      let t = whole_stops spell Fits Follows r kind reads text s e in
      record {
        front = t.front;
        tail = t.tail;
        parts = t.parts;
        left_is = t.left;
        begins = (t.more, (t.value, t.fits, t.begins));
        no_further = λ c rest more is w. stops_after kind r t.front t.tail c rest more w.0 t.local is (ap (whole kind r) w.2 ∙ whole_only spell Fits Follows r kind reads ends w.0 w.1);
      };
  inside = λ text x w. (x, w.0, w.1);
  word = spell some;
  some = (some, some_fits, refl);
}

at_the_end : (Lang : List ℕ → Type 0) (text : List ℕ) → Lang text → GoesWrong Lang text 0
at_the_end Lang text h = record {
  front = text;
  tail = [];
  parts = sym (append-nil text);
  left_is = refl;
  begins = ([], subst Lang (sym (append-nil text)) h);
  no_further = λ c rest more is w. absurd cc;
}

-- a text that is too long goes wrong at its end
pub judges_short : {K A : Type 0} (kind : K) (short : A → Bool) (Writes : A → List ℕ → Type 0) (Lang : List ℕ → Type 0) (read : List ℕ → Result A (Stop K)) → Judges Writes Lang read → (x : A)
    → Judges (λ (x : A) text. (short x ≡ true) × Writes x text) Lang (λ text. read text >>= λ x. cond (short x) (Ok x) (Err (record { kind = kind; left = 0 })))
judges_short {K} {A} kind short Writes Lang read j some = record {
  found = λ text x e.
      let a = bind_ok (read text) (λ x. cond (short x) (Ok x) (Err (record { kind = kind; left = 0 }))) x e in
      elim (chosen (short a.0) (Ok a.0) (Err (record { kind = kind; left = 0 })) (Ok x) a.2) [
        | inl w ↦ subst (λ (y : A). (short y ≡ true) × Writes y text) (ok_is {E = Stop K} a.0 x w.1) (w.0, j.found text a.0 a.1)
        | inr w ↦ absurd (ok_not_err x (record { kind = kind; left = 0 }) (sym w.1))
      ];
  only = λ text x w.
      ap (λ (v : Result A (Stop K)). v >>= λ x. cond (short x) (Ok x) (Err (record { kind = kind; left = 0 }))) (j.only text x w.1)
      ∙ ap (λ (b : Bool). cond b (Ok x) (Err (record { kind = kind; left = 0 }))) w.0;
  wrong = λ text s e.
      elim (bind_err (read text) (λ x. cond (short x) (Ok x) (Err (record { kind = kind; left = 0 }))) s e) [
        | inl e1 ↦ j.wrong text s e1
        | inr v ↦
            elim (chosen (short v.0) (Ok v.0) (Err (record { kind = kind; left = 0 })) (Err s) v.2) [
              | inl w ↦ absurd (ok_not_err v.0 s w.1)
              | inr w ↦ subst (GoesWrong Lang text) (left_of {A = A} kind 0 s w.1) (at_the_end Lang text (j.inside text v.0 (j.found text v.0 v.1)))
            ]
      ];
  inside = λ text x w. j.inside text x w.1;
  word = j.word;
  some = j.some;
}

-- ---- one way behind a literal text, and another where it doesn't stand

abbrev pub Literal : List ℕ → (List ℕ → Type 0) → List ℕ → Type 0
Literal literal Lang text = (rest : List ℕ) × (text ≡ literal ++ rest) × Lang rest

-- of two beginnings of one list, one begins the other
pub overlap : (a x b y : List ℕ) → a ++ x ≡ b ++ y → ((z : List ℕ) × (a ≡ b ++ z)) ⊎ ((z : List ℕ) × (b ≡ a ++ z) × (0 < length z))
overlap a x [] y e = inl (a, refl)
overlap [] x (d ∷ b) y e = inr (d ∷ b, refl, omega arith)
overlap (c ∷ a) x (d ∷ b) y e =
    let head : c ≡ d = cc in
    let tail : a ++ x ≡ b ++ y = cc in
    elim (overlap a x b y tail) [
      | inl w ↦ inl (w.0, rw (head, w.1) refl)
      | inr w ↦ inr (w.0, rw (head, w.1) refl, w.2)
    ]

pub cancel_front : (a x y : List ℕ) → a ++ x ≡ a ++ y → x ≡ y
cancel_front [] x y e = e
cancel_front (c ∷ a) x y e = cancel_front a x y (cc)

starts : (text literal : List ℕ) → (starts_with eqb text literal ≡ true → text ≡ literal ++ drop (length literal) text) × ((rest : List ℕ) → text ≡ literal ++ rest → starts_with eqb text literal ≡ true)
starts text literal = let s = starts_is Decides-eqb text literal (starts_with eqb text literal) refl in (s.0, s.1)

pub judges_literal : {A : Type 0} (literal : List ℕ) (WritesOne WritesTwo : A → List ℕ → Type 0) (One Two : List ℕ → Type 0) (one two : List ℕ → Result A (Stop Part))
    → Judges WritesOne One one → Judges WritesTwo Two two
    → ((text rest : List ℕ) → Two text → text ≡ literal ++ rest → ⊥) → ((front rest : List ℕ) → literal ≡ front ++ rest → 0 < length rest → Begins Two front)
    → Judges (λ (x : A) text. Literal literal (WritesOne x) text ⊎ WritesTwo x text) (λ text. Literal literal One text ⊎ Two text) (λ text. cond (starts_with eqb text literal) (one (drop (length literal) text)) (two text))
judges_literal {A} literal WritesOne WritesTwo One Two one two j k apart begun = record {
  found = λ text x e.
      elim (chosen (starts_with eqb text literal) (one (drop (length literal) text)) (two text) (Ok x) e) [
        | inl w ↦ inl (drop (length literal) text, (starts text literal).0 w.0, j.found (drop (length literal) text) x w.1)
        | inr w ↦ inr (k.found text x w.1)
      ];
  only = λ text x w.
      elim w [
        | inl v ↦
            ap (λ (b : Bool). cond b (one (drop (length literal) text)) (two text)) ((starts text literal).1 v.0 v.1)
            ∙ ap one (ap (drop (length literal)) v.1 ∙ drop-append_seam literal v.0) ∙ j.only v.0 x v.2
        | inr v ↦
            ap (λ (b : Bool). cond b (one (drop (length literal) text)) (two text)) (false_from_ne_true (starts_with eqb text literal) (λ is. apart text (drop (length literal) text) (k.inside text x v) ((starts text literal).0 is)))
            ∙ k.only text x v
      ];
  wrong = λ text s e.
      elim (chosen (starts_with eqb text literal) (one (drop (length literal) text)) (two text) (Err s) e) [
        | inl w ↦
            let h = j.wrong (drop (length literal) text) s w.1 in
            record {
              front = literal ++ h.front;
              tail = h.tail;
              parts = (starts text literal).0 w.0 ∙ ap (λ (l : List ℕ). literal ++ l) h.parts ∙ sym (append_assoc literal h.front h.tail);
              left_is = h.left_is;
              begins = (h.begins.0, inl (h.front ++ h.begins.0, append_assoc literal h.front h.begins.0, h.begins.1));
              no_further = λ c rest more is v.
                  elim v [
                    | inl lit ↦ h.no_further c rest more is (subst One (sym (cancel_front literal (h.front ++ (c ∷ more)) lit.0 (sym (append_assoc literal h.front (c ∷ more)) ∙ lit.1))) lit.2)
                    | inr other ↦ apart ((literal ++ h.front) ++ (c ∷ more)) (h.front ++ (c ∷ more)) other (append_assoc literal h.front (c ∷ more))
                  ];
            }
        | inr w ↦
            let h = k.wrong text s w.1 in
            record {
              front = h.front;
              tail = h.tail;
              parts = h.parts;
              left_is = h.left_is;
              begins = (h.begins.0, inr h.begins.1);
              no_further = λ c rest more is v.
                  elim v [
                    | inr other ↦ h.no_further c rest more is other
                    | inl lit ↦
                        let read : (h.front ++ (c ∷ [])) ++ more ≡ literal ++ lit.0 = append_assoc h.front (c ∷ []) more ∙ lit.1 in
                        elim (overlap (h.front ++ (c ∷ [])) more literal lit.0 read) [
                          | inl u ↦
                              let all : text ≡ literal ++ (u.0 ++ rest)
                              = h.parts ∙ ap (λ (l : List ℕ). h.front ++ l) is ∙ sym (append_assoc h.front (c ∷ []) rest) ∙ ap (λ (l : List ℕ). l ++ rest) u.1 ∙ append_assoc literal u.0 rest in
                              true≢false (sym ((starts text literal).1 (u.0 ++ rest) all) ∙ w.0)
                          | inr u ↦
                              let b = begun (h.front ++ (c ∷ [])) u.0 u.1 u.2 in
                              h.no_further c rest b.0 is (subst Two (append_assoc h.front (c ∷ []) b.0) b.1)
                        ]
                  ];
            }
      ];
  inside = λ text x w. elim w [ inl v ↦ inl (v.0, v.1, j.inside v.0 x v.2) | inr v ↦ inr (k.inside text x v) ];
  word = k.word;
  some = inr k.some;
}
