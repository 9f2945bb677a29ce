-- Each `key=value` is read as it is written.
use Rattle.std.proofs.Common.{◌≡◌, ℕ, true, false, List, [], ◌∷◌, ◌++◌, length, Option, Some, None, Result, Ok, Err, refl, sym, ap, subst, ◌∙◌, append_assoc, arith, inl, inr}
use Rattle.std.specs.List.{list_all}
use Rattle.std.proofs.lemmas.Bool.{and_parts}
use Rattle.std.proofs.lemmas.List.{append-nil}
use Rattle.ips_text.specs.declared.refusal.Stop.{Stop}
use Rattle.ips_text.specs.Reading.{◌>>=◌, both, run}
use Rattle.ips_text.proofs.Readers.{Stops, Reads, SameBefore, in_turn, Reads-via, chosen, bind_ok, bind_err, ok_is, ok_not_err, err_same}
use Rattle.ips_line.specs.declared.fault.Part.{Part}
use Rattle.ips_line.specs.declared.fault.Part.TheVariants as part
use Rattle.ips_line.specs.Line.{is_blank, is_quote, in_word, in_key, IsRunOfBytes, Written, Plain, Quoted, written_text, IsPlain, IsWritten, Attribute, attribute_written, IsAttribute}
use Rattle.ips_line.specs.Reading.{wrong_at, some_at, equals_at, closing, closed, plain_at, written_at, made, attribute_at}
use Rattle.ips_line.proofs.Runs.{equals_text, Reads-some, Reads-equals}
use Rattle.ips_line.proofs.Quotes.{closing_takes, closing_again, closing_open, extra}
use Rattle.ips_text.proofs.Runs.{Ends}

-- ---- a written value

-- behind a plain value a blank follows, or the end
abbrev pub WrittenFollows : Written → List ℕ → Type 0
WrittenFollows (Plain w) rest = Ends in_word rest
WrittenFollows (Quoted q inside) rest = Unit {0}

abbrev Cut : Type 0
Cut = Written × List ℕ

abbrev Taken : List ℕ → Cut → Type 0
Taken bytes z = (bytes ≡ written_text z.0 ++ z.1) × IsWritten z.0 × WrittenFollows z.0 z.1

closed_takes : (q : ℕ) (bytes : List ℕ) (left : ℕ) (o : Option (List ℕ × List ℕ)) (z : Cut) → is_quote q ≡ true → closing q bytes ≡ o → closed q left o ≡ Ok z → Taken (q ∷ bytes) z
closed_takes q bytes left None z is_q e h = absurd (ok_not_err z (record { kind = part.Quote left; left = 0 }) (sym h))
closed_takes q bytes left (Some x) z is_q e h =
    let t = closing_takes q bytes x e in
    let made : Cut = (Quoted q x.0, x.1) in
    subst (Taken (q ∷ bytes)) (ok_is {E = Stop Part} made z h) (ap (λ (l : List ℕ). q ∷ l) (t.0 ∙ sym (append_assoc x.0 (q ∷ []) x.1)), (is_q, t.1), tt)

plain_fits : (b : ℕ) (bytes w rest : List ℕ) → is_quote b ≡ false → b ∷ bytes ≡ w ++ rest → IsRunOfBytes in_word w → IsPlain w
plain_fits b bytes [] rest ne e fits = absurd fits
plain_fits b bytes (c ∷ w) rest ne e fits = let same : b ≡ c = cc in (subst (λ (d : ℕ). is_quote d ≡ false) same ne, fits)

plain_takes : (b : ℕ) (bytes : List ℕ) (z : Cut) → is_quote b ≡ false → plain_at (b ∷ bytes) ≡ Ok z → Taken (b ∷ bytes) z
plain_takes b bytes z ne e =
    let a = bind_ok (some_at in_word (b ∷ bytes)) (λ x. Ok (Plain x.0, x.1)) z e in
    let t = (Reads-some in_word 97 refl).takes (b ∷ bytes) a.0 a.1 in
    let made : Cut = (Plain a.0.0, a.0.1) in
    subst (Taken (b ∷ bytes)) (ok_is {E = Stop Part} made z a.2) (t.0, plain_fits b bytes a.0.0 a.0.1 ne t.0 t.1, t.2)

written_takes : (bytes : List ℕ) (z : Cut) → written_at bytes ≡ Ok z → Taken bytes z
unfolding written_at some_at
written_takes [] z e = absurd (ok_not_err z (wrong_at []) (sym e))
written_takes (b ∷ bytes) z e =
    elim (chosen (is_quote b) (closed b (length (b ∷ bytes)) (closing b bytes)) (plain_at (b ∷ bytes)) (Ok z) e) [
      | inl w ↦ closed_takes b bytes (length (b ∷ bytes)) (closing b bytes) z w.0 refl w.1
      | inr w ↦ plain_takes b bytes z w.0 w.1
    ]

written_again : (x : Written) (rest : List ℕ) → IsWritten x → WrittenFollows x rest → written_at (written_text x ++ rest) ≡ Ok (x, rest)
unfolding written_at
written_again (Plain []) rest fits fol = absurd fits
written_again (Plain (b ∷ w)) rest fits fol =
    let more = (Reads-some in_word 97 refl).again (b ∷ w) rest fits.1 fol in
    rw (fits.0) (ap (λ (r : Result (List ℕ × List ℕ) (Stop Part)). r >>= λ x. Ok (Plain x.0, x.1)) more)
written_again (Quoted q inside) rest fits fol =
    let more : closing q ((inside ++ (q ∷ [])) ++ rest) ≡ Some (inside, rest) = ap (closing q) (append_assoc inside (q ∷ []) rest) ∙ closing_again q inside rest fits.0 fits.1 in
    rw (fits.0, more) refl

written_head : (x : Written) (c : ℕ) (tail more : List ℕ) → WrittenFollows x (c ∷ tail) → WrittenFollows x (c ∷ more)
written_head (Plain w) c tail more h = h
written_head (Quoted q inside) c tail more h = tt

abbrev Stopped : List ℕ → Stop Part → Type 0
Stopped bytes s = Stops written_text IsWritten (λ front tail. SameBefore written_at front tail s.kind) bytes s

closed_stops : (q : ℕ) (bytes : List ℕ) (left : ℕ) (o : Option (List ℕ × List ℕ)) (s : Stop Part) → is_quote q ≡ true → closing q bytes ≡ o → closed q left o ≡ Err s → Stopped (q ∷ bytes) s
closed_stops q bytes left None s is_q e h =
    let same : (let d : Stop Part = record { kind = part.Quote left; left = 0 } in d) ≡ s = err_same {A = Cut} (record { kind = part.Quote left; left = 0 }) s h in
    record {
      front = q ∷ bytes;
      tail = [];
      parts = ap (λ (l : List ℕ). q ∷ l) (sym (append-nil bytes));
      left = ap (λ (d : Stop Part). d.left) same;
      value = Quoted q (bytes ++ extra q bytes);
      more = extra q bytes ++ (q ∷ []);
      fits = (is_q, closing_open q bytes e);
      begins = ap (λ (l : List ℕ). q ∷ l) (sym (append_assoc bytes (extra q bytes) (q ∷ [])));
      local = tt;
    }
closed_stops q bytes left (Some x) s is_q e h = absurd (ok_not_err (Quoted q x.0, x.1) s h)

plain_stops : (b : ℕ) (bytes : List ℕ) (s : Stop Part) → is_quote b ≡ false → plain_at (b ∷ bytes) ≡ Err s → Stopped (b ∷ bytes) s
unfolding written_at some_at
plain_stops b bytes s ne e =
    elim (bind_err (some_at in_word (b ∷ bytes)) (λ x. Ok (Plain x.0, x.1)) s e) [
      | inl e1 ↦
          let made : List ℕ × List ℕ = (b ∷ (run in_word bytes).0, (run in_word bytes).1) in
          elim (chosen (in_word b) (Ok made) (Err (wrong_at (b ∷ bytes))) (Err s) e1) [
            | inl w ↦ absurd (ok_not_err made s w.1)
            | inr w ↦
                let same : (let d : Stop Part = wrong_at (b ∷ bytes) in d) ≡ s = err_same {A = List ℕ × List ℕ} (wrong_at (b ∷ bytes)) s w.1 in
                record {
                  front = [];
                  tail = b ∷ bytes;
                  parts = refl;
                  left = ap (λ (d : Stop Part). d.left) same;
                  value = Plain (97 ∷ []);
                  more = 97 ∷ [];
                  fits = (refl, refl);
                  begins = refl;
                  local = subst (λ (d : Stop Part). (more : List ℕ) → written_at (b ∷ more) ≡ Err (record { kind = d.kind; left = length (b ∷ more) })) same (λ more. rw (ne) (rw (w.0) refl));
                }
          ]
      | inr v ↦ absurd (ok_not_err (Plain v.0.0, v.0.1) s v.2)
    ]

written_stops : (bytes : List ℕ) (s : Stop Part) → written_at bytes ≡ Err s → Stopped bytes s
unfolding written_at some_at
written_stops [] s e =
    let same : (let d : Stop Part = wrong_at [] in d) ≡ s = err_same {A = Cut} (wrong_at []) s e in
    record { front = []; tail = []; parts = refl; left = ap (λ (d : Stop Part). d.left) same; value = Plain (97 ∷ []); more = 97 ∷ []; fits = (refl, refl); begins = refl; local = tt }
written_stops (b ∷ bytes) s e =
    elim (chosen (is_quote b) (closed b (length (b ∷ bytes)) (closing b bytes)) (plain_at (b ∷ bytes)) (Err s) e) [
      | inl w ↦ closed_stops b bytes (length (b ∷ bytes)) (closing b bytes) s w.0 refl w.1
      | inr w ↦ plain_stops b bytes s w.0 w.1
    ]

pub Reads-written : Reads written_text IsWritten WrittenFollows written_at
Reads-written = record { takes = written_takes; again = written_again; head = written_head; stops = written_stops }

-- ---- a `key=value`

abbrev Read : Type 0
Read = List ℕ × (List ℕ × (Unit {0} × Written))

abbrev read_text : Read → List ℕ
read_text p = p.0 ++ (p.1.0 ++ (equals_text p.1.1.0 ++ written_text p.1.1.1))

abbrev ReadFits : Read → Type 0
ReadFits p = IsRunOfBytes is_blank p.0 × (IsRunOfBytes in_key p.1.0 × (Unit {0} × IsWritten p.1.1.1))

abbrev ReadFollows : Read → List ℕ → Type 0
ReadFollows p rest =
    Ends is_blank ((p.1.0 ++ (equals_text p.1.1.0 ++ written_text p.1.1.1)) ++ rest)
    × (Ends in_key ((equals_text p.1.1.0 ++ written_text p.1.1.1) ++ rest) × (Unit {0} × WrittenFollows p.1.1.1 rest))

Reads-parts : Reads read_text ReadFits ReadFollows (both (some_at is_blank) (both (some_at in_key) (both equals_at written_at)))
Reads-parts =
    let value = in_turn Reads-equals Reads-written (Plain (97 ∷ [])) (refl, refl) in
    let key = in_turn (Reads-some in_key 97 refl) value (tt, Plain (97 ∷ [])) (tt, (refl, refl)) in
    in_turn (Reads-some is_blank 32 refl) key (97 ∷ [], (tt, Plain (97 ∷ []))) (refl, (tt, (refl, refl)))

abbrev pub unmade : Attribute → Read
unmade a = (a.gap, (a.key, (tt, a.value)))

abbrev pub AttributeFollows : Attribute → List ℕ → Type 0
AttributeFollows a rest = ReadFollows (unmade a) rest

pub Reads-attribute : Reads attribute_written IsAttribute AttributeFollows attribute_at
unfolding attribute_at
Reads-attribute =
    Reads-via read_text ReadFits ReadFollows (both (some_at is_blank) (both (some_at in_key) (both equals_at written_at))) attribute_written IsAttribute made unmade Reads-parts
    (λ p h. (refl, record { gap = h.0; key = h.1.0; value = h.1.1.1 }))
    (λ a h. (refl, (h.gap, (h.key, (tt, h.value)))))
    (λ a. append_assoc a.gap a.key (61 ∷ written_text a.value))

-- a byte of a key is no blank
pub no_blank : (b : ℕ) → in_key b ≡ true → is_blank b ≡ false
no_blank b h = grind arith

-- what follows a `key=value` is what follows its value
pub key_first : (key rest : List ℕ) → IsRunOfBytes in_key key → Ends is_blank (key ++ rest)
key_first [] rest h = absurd h
key_first (b ∷ key) rest h = no_blank b (and_parts (in_key b) (list_all in_key key) h).0

pub attribute_follows : (a : Attribute) (rest : List ℕ) → IsAttribute a → WrittenFollows a.value rest → AttributeFollows a rest
attribute_follows a rest h fol = (
  subst (Ends is_blank) (sym (append_assoc a.key (61 ∷ written_text a.value) rest)) (key_first a.key ((61 ∷ written_text a.value) ++ rest) h.key),
  (refl, (tt, fol)),
)
