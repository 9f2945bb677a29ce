-- Runs of bytes are read as they are written.
use Rattle.std.proofs.Common.{◌≡◌, ℕ, zero, suc, ◌+◌, ◌<◌, ◌≤◌, Bool, true, false, not, ◌&&◌, eqb, List, [], ◌∷◌, ◌++◌, length, take, drop, get_or, Ok, Err, refl, sym, ap, subst, ◌∙◌, arith, inl, inr, ◌⊎◌}
use Rattle.std.specs.List.{list_all}
use Rattle.std.proofs.lemmas.Bool.{eqb-true, and_parts, true≢false}
use Rattle.std.proofs.Math.Dec.{eqb-suc-zero}
use Rattle.std.specs.Str.{IsUtf8, IsCharBoundary}
use Rattle.std.proofs.lemmas.Str.{IsCharBoundary-end, IsCharBoundary-start, IsCharBoundary-after_ascii}
use Rattle.ips_text.specs.declared.refusal.Stop.{Stop}
use Rattle.ips_text.specs.Reading.{next_is, run}
use Rattle.ips_text.proofs.Readers.{Stops, Reads, SameBefore, chosen, ok_is, ok_not_err, err_same}
use Rattle.ips_line.specs.declared.fault.Part.{Part}
use Rattle.ips_line.specs.declared.classes.Class.{Class}
use Rattle.ips_line.specs.declared.classes.Class.TheVariants as class
use Rattle.ips_line.specs.Line.{is_blank, in_word, in_payload, in_key, IsRunOfBytes}
use Rattle.ips_line.specs.Classes.{passes}
use Rattle.ips_line.specs.Reading.{is_none, is_key, wrong_at, some_at, equals_at}
use Rattle.ips_text.proofs.Runs.{run_is, run_again, Ends}

-- ---- where a run ends, a text may be cut

low_word : (b : ℕ) → in_word b ≡ false → b < 128
low_word b e = grind arith

low_payload : (b : ℕ) → in_payload b ≡ false → b < 128
low_payload b e = grind arith

low_key : (b : ℕ) → in_key b ≡ false → b < 128
low_key b e = grind arith

pub low_blank : (b : ℕ) → is_blank b ≡ true → b < 128
low_blank b e = grind arith

last_of : (test : ℕ → Bool) (bytes : List ℕ) (i : ℕ) → i < length bytes → list_all test (take (suc i) bytes) ≡ true → test (get_or bytes i 0) ≡ true
last_of test [] i lt all = absurd (omega arith)
last_of test (b ∷ bytes) zero lt all = (and_parts (test b) true all).0
last_of test (b ∷ bytes) (suc i) lt all = last_of test bytes i (omega arith) (and_parts (test b) (list_all test (take (suc i) bytes)) all).1

-- a run of blanks ends behind one
cut_blank : (bytes : List ℕ) (i : ℕ) → IsUtf8 bytes → i ≤ length bytes → list_all is_blank (take i bytes) ≡ true → IsCharBoundary bytes i
cut_blank bytes zero utf8 le all = IsCharBoundary-start bytes utf8
cut_blank bytes (suc i) utf8 le all =
    let low : get_or bytes i 0 < 128 = low_blank (get_or bytes i 0) (last_of is_blank bytes i le all) in
    let at : i + 1 ≡ suc i = omega arith in
    subst (IsCharBoundary bytes) at (IsCharBoundary-after_ascii bytes i utf8 le low)

-- other runs end before an ASCII byte
cut_low : (test : ℕ → Bool) (bytes : List ℕ) (i : ℕ) → ((b : ℕ) → test b ≡ false → b < 128) → i ≤ length bytes → (i ≡ length bytes) ⊎ (test (get_or bytes i 0) ≡ false) → IsCharBoundary bytes i
cut_low test bytes i low le (inl e) = subst (IsCharBoundary bytes) (sym e) (IsCharBoundary-end bytes)
cut_low test bytes i low le (inr e) = go (take i bytes) (drop i bytes)
  where
    go : List ℕ → List ℕ → IsCharBoundary bytes i
    go front tail = (le, λ lt high. absurd (omega (arith, low (get_or bytes i 0) e)))

pub run_cut : (class : Class) (bytes : List ℕ) (i : ℕ) → IsUtf8 bytes → i ≤ length bytes → list_all (passes class) (take i bytes) ≡ true → (i ≡ length bytes) ⊎ (passes class (get_or bytes i 0) ≡ false) → IsCharBoundary bytes i
run_cut class.Blank bytes i utf8 le all end = cut_blank bytes i utf8 le all
run_cut class.Word bytes i utf8 le all end = cut_low in_word bytes i low_word le end
run_cut class.Payload bytes i utf8 le all end = cut_low in_payload bytes i low_payload le end
run_cut class.Key bytes i utf8 le all end = cut_low in_key bytes i low_key le end

-- ---- one byte or more

abbrev pub itself : List ℕ → List ℕ
itself x = x

abbrev pub RunFollows : (ℕ → Bool) → List ℕ → List ℕ → Type 0
RunFollows test x rest = Ends test rest

some_takes : (test : ℕ → Bool) (bytes : List ℕ) (z : List ℕ × List ℕ) → some_at test bytes ≡ Ok z → (bytes ≡ z.0 ++ z.1) × IsRunOfBytes test z.0 × RunFollows test z.0 z.1
unfolding some_at
some_takes test [] z e = absurd (ok_not_err z (wrong_at []) (sym e))
some_takes test (b ∷ bytes) z e =
    let r = run_is test bytes in
    let made : List ℕ × List ℕ = (b ∷ (run test bytes).0, (run test bytes).1) in
    elim (chosen (test b) (Ok made) (Err (wrong_at (b ∷ bytes))) (Ok z) e) [
      | inl w ↦
          subst (λ (p : List ℕ × List ℕ). (b ∷ bytes ≡ p.0 ++ p.1) × IsRunOfBytes test p.0 × RunFollows test p.0 p.1) (ok_is {E = Stop Part} made z w.1)
          (ap (λ (l : List ℕ). b ∷ l) r.parts, rw (w.0) r.all, r.ends)
      | inr w ↦ absurd (ok_not_err z (wrong_at (b ∷ bytes)) (sym w.1))
    ]

some_again : (test : ℕ → Bool) (x rest : List ℕ) → IsRunOfBytes test x → RunFollows test x rest → some_at test (x ++ rest) ≡ Ok (x, rest)
unfolding some_at
some_again test [] rest fits fol = absurd fits
some_again test (b ∷ x) rest fits fol =
    let h = and_parts (test b) (list_all test x) fits in
    let more = run_again test x rest h.1 fol in
    rw (h.0, more) refl

-- where the byte `one` passes
some_stops : (test : ℕ → Bool) (one : ℕ) → test one ≡ true → (bytes : List ℕ) (s : Stop Part) → some_at test bytes ≡ Err s → Stops itself (IsRunOfBytes test) (λ front tail. SameBefore (some_at test) front tail s.kind) bytes s
unfolding some_at
some_stops test one passing [] s e =
    let same : (let d : Stop Part = wrong_at [] in d) ≡ s = err_same {A = List ℕ × List ℕ} (wrong_at []) s e in
    record { front = []; tail = []; parts = refl; left = ap (λ (d : Stop Part). d.left) same; value = one ∷ []; more = one ∷ []; fits = rw passing refl; begins = refl; local = tt }
some_stops test one passing (b ∷ bytes) s e =
    let made : List ℕ × List ℕ = (b ∷ (run test bytes).0, (run test bytes).1) in
    elim (chosen (test b) (Ok made) (Err (wrong_at (b ∷ bytes))) (Err s) e) [
      | inl w ↦ absurd (ok_not_err made s w.1)
      | inr w ↦
          let same : (let d : Stop Part = wrong_at (b ∷ bytes) in d) ≡ s = err_same {A = List ℕ × List ℕ} (wrong_at (b ∷ bytes)) s w.1 in
          record {
            front = [];
            tail = b ∷ bytes;
            parts = refl;
            left = ap (λ (d : Stop Part). d.left) same;
            value = one ∷ [];
            more = one ∷ [];
            fits = rw passing refl;
            begins = refl;
            local = subst (λ (d : Stop Part). (more : List ℕ) → some_at test (b ∷ more) ≡ Err (record { kind = d.kind; left = length (b ∷ more) })) same (λ more. rw (w.0) refl);
          }
    ]

pub Reads-some : (test : ℕ → Bool) (one : ℕ) → test one ≡ true → Reads itself (IsRunOfBytes test) (RunFollows test) (some_at test)
Reads-some test one passing = record {
  takes = some_takes test;
  again = some_again test;
  head = λ x c tail more h. h;
  stops = some_stops test one passing;
}

-- ---- an `=`

abbrev pub equals_text : Unit {0} → List ℕ
equals_text u = 61 ∷ []

equals_takes : (bytes : List ℕ) (z : (Unit {0}) × List ℕ) → equals_at bytes ≡ Ok z → (bytes ≡ 61 ∷ z.1)
unfolding equals_at
equals_takes [] z e = absurd (ok_not_err z (wrong_at []) (sym e))
equals_takes (b ∷ bytes) z e =
    let made : (Unit {0}) × List ℕ = (tt, bytes) in
    elim (chosen (eqb b 61) (Ok made) (Err (wrong_at (b ∷ bytes))) (Ok z) e) [
      | inl w ↦ subst (λ (p : (Unit {0}) × List ℕ). b ∷ bytes ≡ 61 ∷ p.1) (ok_is {E = Stop Part} made z w.1) (ap (λ (c : ℕ). c ∷ bytes) (eqb-true b 61 w.0))
      | inr w ↦ absurd (ok_not_err z (wrong_at (b ∷ bytes)) (sym w.1))
    ]

equals_stops : (bytes : List ℕ) (s : Stop Part) → equals_at bytes ≡ Err s → Stops equals_text (λ u. Unit {0}) (λ front tail. SameBefore equals_at front tail s.kind) bytes s
unfolding equals_at
equals_stops [] s e =
    let same : (let d : Stop Part = wrong_at [] in d) ≡ s = err_same {A = (Unit {0}) × List ℕ} (wrong_at []) s e in
    record { front = []; tail = []; parts = refl; left = ap (λ (d : Stop Part). d.left) same; value = tt; more = 61 ∷ []; fits = tt; begins = refl; local = tt }
equals_stops (b ∷ bytes) s e =
    let made : (Unit {0}) × List ℕ = (tt, bytes) in
    elim (chosen (eqb b 61) (Ok made) (Err (wrong_at (b ∷ bytes))) (Err s) e) [
      | inl w ↦ absurd (ok_not_err made s w.1)
      | inr w ↦
          let same : (let d : Stop Part = wrong_at (b ∷ bytes) in d) ≡ s = err_same {A = (Unit {0}) × List ℕ} (wrong_at (b ∷ bytes)) s w.1 in
          record {
            front = [];
            tail = b ∷ bytes;
            parts = refl;
            left = ap (λ (d : Stop Part). d.left) same;
            value = tt;
            more = 61 ∷ [];
            fits = tt;
            begins = refl;
            local = subst (λ (d : Stop Part). (more : List ℕ) → equals_at (b ∷ more) ≡ Err (record { kind = d.kind; left = length (b ∷ more) })) same (λ more. rw (w.0) refl);
          }
    ]

pub Reads-equals : Reads equals_text (λ u. Unit {0}) (λ u rest. Unit {0}) equals_at
unfolding equals_at
Reads-equals = record {
  takes = λ bytes z e. (equals_takes bytes z e, tt, tt);
  again = λ u rest fits fol. refl;
  head = λ u c tail more h. tt;
  stops = equals_stops;
}

pub equals_on : (text : List ℕ) → next_is 61 text ≡ true → equals_at text ≡ Ok (tt, drop 1 text)
unfolding equals_at
equals_on [] h = absurd (true≢false (sym h))
equals_on (b ∷ text) h = rw h refl

pub equals_none : (text : List ℕ) → next_is 61 text ≡ false → equals_at text ≡ Err (wrong_at text)
unfolding equals_at
equals_none [] h = refl
equals_none (b ∷ text) h = rw h refl

-- ---- a key

is_nothing : (xs : List ℕ) → is_none xs ≡ true → xs ≡ []
is_nothing [] e = refl
is_nothing (x ∷ xs) e = absurd (true≢false (sym e))

-- the run is all, where each byte passes
pub run_rest : (test : ℕ → Bool) (bytes : List ℕ) → list_all test bytes ≡ is_none (run test bytes).1
run_rest test [] = refl
run_rest test (b ∷ bytes) = go (test b) refl (run_rest test bytes)
  where
    go : (t : Bool) → test b ≡ t → list_all test bytes ≡ is_none (run test bytes).1 → list_all test (b ∷ bytes) ≡ is_none (run test (b ∷ bytes)).1
    go true e h = rw e h
    go false e h = rw e refl

-- a word is a key where the longest run of a key's bytes is all of it
pub key_told : (word : List ℕ) → is_key word ≡ (not (is_none (run in_key word).0) && is_none (run in_key word).1)
key_told [] = refl
key_told (b ∷ word) = go (in_key b) refl
  where
    go : (t : Bool) → in_key b ≡ t → is_key (b ∷ word) ≡ (not (is_none (run in_key (b ∷ word)).0) && is_none (run in_key (b ∷ word)).1)
    go true e = rw e (run_rest in_key word)
    go false e = rw e refl

pub empty_told : (xs : List ℕ) → eqb (length xs) 0 ≡ is_none xs
empty_told [] = refl
empty_told (x ∷ xs) = eqb-suc-zero (length xs)

pub key_test : (word key rest : List ℕ) → run in_key word ≡ (key, rest) → eqb (length key) 0 ≡ false → eqb (length rest) 0 ≡ is_key word
key_test word key rest e some =
    let told : is_key word ≡ (not (is_none key) && is_none rest) = key_told word ∙ ap (λ (p : List ℕ × List ℕ). not (is_none p.0) && is_none p.1) e in
    let has : is_none key ≡ false = sym (empty_told key) ∙ some in
    empty_told rest ∙ sym (told ∙ ap (λ (b : Bool). not b && is_none rest) has)
