-- The `key=value` of a line are read one after the other, up to the blanks at its end.
use Rattle.std.proofs.Common.{◌≡◌, ℕ, zero, suc, ◌<◌, Bool, true, false, cond, ◌&&◌, List, [], ◌∷◌, ◌++◌, length, Result, Ok, Err, refl, sym, ap, subst, ◌∙◌, append_assoc, arith, inl, inr}
use Rattle.std.specs.List.{list_all, flat_map, AllByRecursion}
use Rattle.std.proofs.lemmas.Bool.{and_parts, true≢false, false_from_ne_true}
use Rattle.std.proofs.lemmas.List.{append-nil, length-append}
use Rattle.std.proofs.lemmas.List.Folds.{list_all-append}
use Rattle.ips_text.specs.declared.refusal.Stop.{Stop}
use Rattle.ips_text.specs.Reading.{◌>>=◌}
use Rattle.ips_text.proofs.Readers.{Stops, SameBefore, chosen, bind_ok, bind_err, ok_is, ok_not_err}
use Rattle.ips_line.specs.declared.fault.Part.{Part}
use Rattle.ips_line.specs.Line.{is_blank, in_word, in_key, IsRunOfBytes, Written, Plain, Quoted, written_text, Attribute, attribute_written, IsAttribute}
use Rattle.ips_line.specs.Reading.{attribute_at, attributes_within, attributes_at}
use Rattle.ips_line.proofs.Keyed.{WrittenFollows, AttributeFollows, Reads-attribute, attribute_follows, no_blank}
use Rattle.ips_text.proofs.Loops.{bind_same}
use Rattle.ips_text.proofs.Runs.{Ends}

-- what was read of a line's end, and the blanks that are left
abbrev pub Rest : Type 0
Rest = List Attribute × List ℕ

abbrev pub rest_text : Rest → List ℕ
rest_text x = flat_map attribute_written x.0 ++ x.1

abbrev pub RestFits : Rest → Type 0
RestFits x = AllByRecursion IsAttribute x.0 × (list_all is_blank x.1 ≡ true)

abbrev pub AttributeRead : Type 0
AttributeRead = Attribute × List ℕ

abbrev Answer : Type 0
Answer = Result Rest (Stop Part)

abbrev more_within : ℕ → AttributeRead → Answer
more_within count a = attributes_within count a.1 >>= λ others. Ok (a.0 ∷ others.0, others.1)

-- ---- an attribute isn't blank

run_some : (test : ℕ → Bool) (x : List ℕ) → IsRunOfBytes test x → 0 < length x
run_some test [] h = absurd h
run_some test (b ∷ x) h = omega arith

pub attribute_some : (a : Attribute) (rest : List ℕ) → IsAttribute a → 0 < length (attribute_written a)
attribute_some a rest h = omega (arith, length-append (a.gap ++ a.key) (61 ∷ written_text a.value), length-append a.gap a.key, run_some is_blank a.gap h.gap)

and_false_right : (x y : Bool) → y ≡ false → (x && y) ≡ false
and_false_right true y e = e
and_false_right false y e = refl

and_false_left : (x y : Bool) → x ≡ false → (x && y) ≡ false
and_false_left false y e = refl
and_false_left true y e = absurd (true≢false e)

pub key_not_blank : (key rest : List ℕ) → IsRunOfBytes in_key key → list_all is_blank (key ++ rest) ≡ false
key_not_blank [] rest h = absurd h
key_not_blank (b ∷ key) rest h = and_false_left (is_blank b) (list_all is_blank (key ++ rest)) (no_blank b (and_parts (in_key b) (list_all in_key key) h).0)

pub attribute_not_blank : (a : Attribute) (rest : List ℕ) → IsAttribute a → list_all is_blank (attribute_written a ++ rest) ≡ false
attribute_not_blank a rest h =
    ap (list_all is_blank) (append_assoc (a.gap ++ a.key) (61 ∷ written_text a.value) rest ∙ append_assoc a.gap a.key ((61 ∷ written_text a.value) ++ rest))
    ∙ list_all-append is_blank a.gap (a.key ++ ((61 ∷ written_text a.value) ++ rest))
    ∙ and_false_right (list_all is_blank a.gap) (list_all is_blank (a.key ++ ((61 ∷ written_text a.value) ++ rest))) (key_not_blank a.key ((61 ∷ written_text a.value) ++ rest) h.key)

-- ---- what follows an attribute is blank, or nothing

ends_blank : (b : ℕ) → is_blank b ≡ true → in_word b ≡ false
ends_blank b h = rw h refl

pub run_ends : (gap rest : List ℕ) → IsRunOfBytes is_blank gap → Ends in_word (gap ++ rest)
run_ends [] rest h = absurd h
run_ends (b ∷ gap) rest h = ends_blank b (and_parts (is_blank b) (list_all is_blank gap) h).0

blanks_end : (behind : List ℕ) → list_all is_blank behind ≡ true → Ends in_word behind
blanks_end [] h = tt
blanks_end (b ∷ behind) h = ends_blank b (and_parts (is_blank b) (list_all is_blank behind) h).0

pub attribute_ends : (a : Attribute) (rest : List ℕ) → IsAttribute a → Ends in_word (attribute_written a ++ rest)
attribute_ends a rest h =
    subst (Ends in_word) (sym (append_assoc (a.gap ++ a.key) (61 ∷ written_text a.value) rest ∙ append_assoc a.gap a.key ((61 ∷ written_text a.value) ++ rest))) (run_ends a.gap (a.key ++ ((61 ∷ written_text a.value) ++ rest)) h.gap)

pub rest_ends : (xs : List Attribute) (behind : List ℕ) → AllByRecursion IsAttribute xs → list_all is_blank behind ≡ true → Ends in_word (flat_map attribute_written xs ++ behind)
rest_ends [] behind h blank = blanks_end behind blank
rest_ends (a ∷ xs) behind h blank =
    subst (Ends in_word) (sym (append_assoc (attribute_written a) (flat_map attribute_written xs) behind)) (attribute_ends a (flat_map attribute_written xs ++ behind) h.0)

pub written_follows : (x : Written) (rest : List ℕ) → Ends in_word rest → WrittenFollows x rest
written_follows (Plain w) rest h = h
written_follows (Quoted q inside) rest h = tt

pub attribute_again : (a : Attribute) (rest : List ℕ) → IsAttribute a → Ends in_word rest → attribute_at (attribute_written a ++ rest) ≡ Ok (a, rest)
attribute_again a rest h ends = Reads-attribute.again a rest h (attribute_follows a rest h (written_follows a.value rest ends))

-- ---- one after the other

pub attribute_shorter : (bytes : List ℕ) (a : AttributeRead) → attribute_at bytes ≡ Ok a → length a.1 < length bytes
attribute_shorter bytes a e =
    let t = Reads-attribute.takes bytes a e in
    omega (arith, ap length t.0, length-append (attribute_written a.0) a.1, attribute_some a.0 a.1 t.1)

within_takes : (count : ℕ) (bytes : List ℕ) (z : Rest) → length bytes < count → attributes_within count bytes ≡ Ok z → (bytes ≡ rest_text z) × RestFits z
unfolding attributes_within
within_takes zero bytes z lt e = absurd (omega arith)
within_takes (suc count) bytes z lt e =
    elim (chosen (list_all is_blank bytes) (Ok ([], bytes)) (attribute_at bytes >>= more_within count) (Ok z) e) [
      | inl w ↦
          let made : Rest = ([], bytes) in
          subst (λ (p : Rest). (bytes ≡ rest_text p) × RestFits p) (ok_is {E = Stop Part} made z w.1) (refl, (tt, w.0))
      | inr w ↦
          let a = bind_ok (attribute_at bytes) (more_within count) z w.1 in
          let m = bind_ok (attributes_within count a.0.1) (λ others. Ok (a.0.0 ∷ others.0, others.1)) z a.2 in
          let t = Reads-attribute.takes bytes a.0 a.1 in
          let u = within_takes count a.0.1 m.0 (omega (arith, attribute_shorter bytes a.0 a.1)) m.1 in
          let made : Rest = (a.0.0 ∷ m.0.0, m.0.1) in
          subst (λ (p : Rest). (bytes ≡ rest_text p) × RestFits p) (ok_is {E = Stop Part} made z m.2)
          (t.0 ∙ ap (λ (l : List ℕ). attribute_written a.0.0 ++ l) u.0 ∙ sym (append_assoc (attribute_written a.0.0) (flat_map attribute_written m.0.0) m.0.1), ((t.1, u.1.0), u.1.1))
    ]

within_again : (count : ℕ) (xs : List Attribute) (behind : List ℕ) → length (flat_map attribute_written xs ++ behind) < count → AllByRecursion IsAttribute xs → list_all is_blank behind ≡ true
    → attributes_within count (flat_map attribute_written xs ++ behind) ≡ Ok (xs, behind)
unfolding attributes_within
within_again zero xs behind lt h blank = absurd (omega arith)
within_again (suc count) [] behind lt h blank = rw blank refl
within_again (suc count) (a ∷ xs) behind lt h blank =
    let others = flat_map attribute_written xs ++ behind in
    let cut = append_assoc (attribute_written a) (flat_map attribute_written xs) behind in
    let some = attribute_not_blank a others h.0 in
    let one = attribute_again a others h.0 (rest_ends xs behind h.1 blank) in
    let shorter : length others < count = omega (arith, ap length cut, length-append (attribute_written a) others, attribute_some a others h.0) in
    let more = within_again count xs behind shorter h.1 blank in
    ap (attributes_within (suc count)) cut
    ∙ ap (λ (b : Bool). cond b (Ok ([], attribute_written a ++ others)) (attribute_at (attribute_written a ++ others) >>= more_within count)) some
    ∙ ap (λ (r : Result AttributeRead (Stop Part)). r >>= more_within count) one
    ∙ ap (λ (r : Answer). r >>= λ others. Ok (a ∷ others.0, others.1)) more

-- whatever follows the next byte, and however large the count, nothing is read
abbrev Along : List ℕ → List ℕ → Part → Type 0
Along front [] kind = Unit {0}
Along front (c ∷ tail) kind = (more : List ℕ) (count : ℕ) → length (front ++ (c ∷ more)) < count → attributes_within count (front ++ (c ∷ more)) ≡ Err (record { kind = kind; left = length (c ∷ more) })

-- a blank beginning could be continued to an attribute
stopped_not_blank : (front : List ℕ) (c : ℕ) (tail : List ℕ) (kind : Part) → SameBefore attribute_at front (c ∷ tail) kind → (more : List ℕ) → list_all is_blank (front ++ (c ∷ more)) ≡ false
stopped_not_blank front c tail kind h more = false_from_ne_true (list_all is_blank (front ++ (c ∷ more))) (λ blank.
    let parts = and_parts (list_all is_blank front) (list_all is_blank (c ∷ more)) (sym (list_all-append is_blank front (c ∷ more)) ∙ blank) in
    let next = (and_parts (is_blank c) (list_all is_blank more) parts.1).0 in
    let gap : list_all is_blank (front ++ (c ∷ [])) ≡ true = list_all-append is_blank front (c ∷ []) ∙ rw (parts.0, next) refl in
    let a : Attribute = record { gap = front ++ (c ∷ []); key = 97 ∷ []; value = Plain (97 ∷ []) } in
    let fits : IsAttribute a = record { gap = some_run (front ++ (c ∷ [])) gap (omega (arith, length-append front (c ∷ []))); key = refl; value = (refl, refl) } in
    let read = attribute_again a [] fits tt in
    let text : attribute_written a ++ [] ≡ front ++ (c ∷ 97 ∷ 61 ∷ 97 ∷ []) = append-nil (attribute_written a) ∙ append_assoc (front ++ (c ∷ [])) (97 ∷ []) (61 ∷ 97 ∷ []) ∙ append_assoc front (c ∷ []) (97 ∷ 61 ∷ 97 ∷ []) in
    ok_not_err (a, []) (record { kind = kind; left = length (c ∷ 97 ∷ 61 ∷ 97 ∷ []) }) (sym read ∙ ap attribute_at text ∙ h (97 ∷ 61 ∷ 97 ∷ [])))
  where
    some_run : (x : List ℕ) → list_all is_blank x ≡ true → 0 < length x → IsRunOfBytes is_blank x
    some_run [] h lt = absurd (omega arith)
    some_run (b ∷ x) h lt = h

along_at : (bytes : List ℕ) (s : Stop Part) → list_all is_blank bytes ≡ false → attribute_at bytes ≡ Err s → (count : ℕ) → length bytes < count → attributes_within count bytes ≡ Err s
unfolding attributes_within
along_at bytes s some e zero lt = absurd (omega arith)
along_at bytes s some e (suc count) lt =
    ap (λ (b : Bool). cond b (Ok ([], bytes)) (attribute_at bytes >>= more_within count)) some ∙ ap (λ (r : Result AttributeRead (Stop Part)). r >>= more_within count) e

along_first : (front tail : List ℕ) (kind : Part) → SameBefore attribute_at front tail kind → Along front tail kind
along_first front [] kind h = tt
along_first front (c ∷ tail) kind h = λ more count lt. along_at (front ++ (c ∷ more)) (record { kind = kind; left = length (c ∷ more) }) (stopped_not_blank front c tail kind h more) (h more) count lt

follows_on : (a : Attribute) (front : List ℕ) (c : ℕ) (tail more : List ℕ) → AttributeFollows a (front ++ (c ∷ tail)) → AttributeFollows a (front ++ (c ∷ more))
follows_on a [] c tail more h = Reads-attribute.head a c tail more h
follows_on a (d ∷ front) c tail more h = Reads-attribute.head a d (front ++ (c ∷ tail)) (front ++ (c ∷ more)) h

along_next : (a : Attribute) (rest : List ℕ) (s : Stop Part) → IsAttribute a → AttributeFollows a rest → ((count : ℕ) → length rest < count → attributes_within count rest ≡ Err s)
    → (count : ℕ) → length (attribute_written a ++ rest) < count → attributes_within count (attribute_written a ++ rest) ≡ Err s
unfolding attributes_within
along_next a rest s h fol later zero lt = absurd (omega arith)
along_next a rest s h fol later (suc count) lt =
    let shorter : length rest < count = omega (arith, length-append (attribute_written a) rest, attribute_some a rest h) in
    ap (λ (b : Bool). cond b (Ok ([], attribute_written a ++ rest)) (attribute_at (attribute_written a ++ rest) >>= more_within count)) (attribute_not_blank a rest h)
    ∙ ap (λ (r : Result AttributeRead (Stop Part)). r >>= more_within count) (Reads-attribute.again a rest h fol)
    ∙ ap (λ (r : Answer). r >>= λ others. Ok (a ∷ others.0, others.1)) (later count shorter)

along_then : (a : Attribute) (front tail : List ℕ) (kind : Part) → IsAttribute a → AttributeFollows a (front ++ tail) → Along front tail kind → Along (attribute_written a ++ front) tail kind
along_then a front [] kind h fol along = tt
along_then a front (c ∷ tail) kind h fol along = λ more count lt.
    let cut = append_assoc (attribute_written a) front (c ∷ more) in
    ap (attributes_within count) cut
    ∙ along_next a (front ++ (c ∷ more)) (record { kind = kind; left = length (c ∷ more) }) h (follows_on a front c tail more fol) (along more) count (subst (λ (l : List ℕ). length l < count) cut lt)

within_stops : (count : ℕ) (bytes : List ℕ) (s : Stop Part) → length bytes < count → attributes_within count bytes ≡ Err s → Stops rest_text RestFits (λ front tail. Along front tail s.kind) bytes s
unfolding attributes_within
within_stops zero bytes s lt e = absurd (omega arith)
within_stops (suc count) bytes s lt e =
    elim (chosen (list_all is_blank bytes) (Ok ([], bytes)) (attribute_at bytes >>= more_within count) (Err s) e) [
      | inl w ↦ absurd (ok_not_err ([], bytes) s w.1)
      | inr w ↦
          elim (bind_err (attribute_at bytes) (more_within count) s w.1) [
            | inl e1 ↦
                let t = Reads-attribute.stops bytes s e1 in
                record {
                  front = t.front;
                  tail = t.tail;
                  parts = t.parts;
                  left = t.left;
                  value = (t.value ∷ [], []);
                  more = t.more;
                  fits = ((t.fits, tt), refl);
                  begins = t.begins ∙ sym (append-nil (attribute_written t.value)) ∙ sym (append-nil (attribute_written t.value ++ []));
                  local = along_first t.front t.tail s.kind t.local;
                }
            | inr v ↦
                elim (bind_err (attributes_within count v.0.1) (λ others. Ok (v.0.0 ∷ others.0, others.1)) s v.2) [
                  | inl e2 ↦
                      let t = Reads-attribute.takes bytes v.0 v.1 in
                      let u = within_stops count v.0.1 s (omega (arith, attribute_shorter bytes v.0 v.1)) e2 in
                      record {
                        front = attribute_written v.0.0 ++ u.front;
                        tail = u.tail;
                        parts = t.0 ∙ ap (λ (l : List ℕ). attribute_written v.0.0 ++ l) u.parts ∙ sym (append_assoc (attribute_written v.0.0) u.front u.tail);
                        left = u.left;
                        value = (v.0.0 ∷ u.value.0, u.value.1);
                        more = u.more;
                        fits = ((t.1, u.fits.0), u.fits.1);
                        begins =
                            append_assoc (attribute_written v.0.0) u.front u.more ∙ ap (λ (l : List ℕ). attribute_written v.0.0 ++ l) u.begins
                            ∙ sym (append_assoc (attribute_written v.0.0) (flat_map attribute_written u.value.0) u.value.1);
                        local = along_then v.0.0 u.front u.tail s.kind t.1 (subst (AttributeFollows v.0.0) u.parts t.2) u.local;
                      }
                  | inr x ↦ absurd (ok_not_err (v.0.0 ∷ x.0.0, x.0.1) s x.2)
                ]
          ]
    ]

-- ---- as many as there are

pub rest_takes : (bytes : List ℕ) (z : Rest) → attributes_at bytes ≡ Ok z → (bytes ≡ rest_text z) × RestFits z
rest_takes bytes z e = within_takes (suc (length bytes)) bytes z (omega arith) e

pub rest_again : (xs : List Attribute) (behind : List ℕ) → AllByRecursion IsAttribute xs → list_all is_blank behind ≡ true → attributes_at (flat_map attribute_written xs ++ behind) ≡ Ok (xs, behind)
rest_again xs behind h blank = within_again (suc (length (flat_map attribute_written xs ++ behind))) xs behind (omega arith) h blank

-- whatever follows the next byte, nothing is read
abbrev pub Same : List ℕ → List ℕ → Part → Type 0
Same front [] kind = Unit {0}
Same front (c ∷ tail) kind = (more : List ℕ) → attributes_at (front ++ (c ∷ more)) ≡ Err (record { kind = kind; left = length (c ∷ more) })

same_along : (front tail : List ℕ) (kind : Part) → Along front tail kind → Same front tail kind
same_along front [] kind h = tt
same_along front (c ∷ tail) kind h = λ more. h more (suc (length (front ++ (c ∷ more)))) (omega arith)

pub rest_stops : (bytes : List ℕ) (s : Stop Part) → attributes_at bytes ≡ Err s → Stops rest_text RestFits (λ front tail. Same front tail s.kind) bytes s
rest_stops bytes s e =
    let t = within_stops (suc (length bytes)) bytes s (omega arith) e in
    record { front = t.front; tail = t.tail; parts = t.parts; left = t.left; value = t.value; more = t.more; fits = t.fits; begins = t.begins; local = same_along t.front t.tail s.kind t.local }

cond_same : {A : Type 0} (b : Bool) (x y z : A) → y ≡ z → cond b x y ≡ cond b x z
cond_same true x y z e = refl
cond_same false x y z e = e

-- a count that is large enough is as good as another
pub enough : (m n : ℕ) (bytes : List ℕ) → length bytes < m → length bytes < n → attributes_within m bytes ≡ attributes_within n bytes
unfolding attributes_within
enough zero n bytes lm ln = absurd (omega arith)
enough (suc m) zero bytes lm ln = absurd (omega arith)
enough (suc m) (suc n) bytes lm ln =
    cond_same (list_all is_blank bytes) (Ok ([], bytes)) (attribute_at bytes >>= more_within m) (attribute_at bytes >>= more_within n)
    (bind_same (attribute_at bytes) (more_within m) (more_within n) (λ a e.
    let shorter = attribute_shorter bytes a e in
    ap (λ (r : Answer). r >>= λ others. Ok (a.0 ∷ others.0, others.1)) (enough m n a.1 (omega arith) (omega arith))))

pub rest_blank : (bytes : List ℕ) → list_all is_blank bytes ≡ true → attributes_at bytes ≡ Ok ([], bytes)
unfolding attributes_within
rest_blank bytes blank = rw blank refl

pub rest_next : (bytes : List ℕ) (a : AttributeRead) → list_all is_blank bytes ≡ false → attribute_at bytes ≡ Ok a → attributes_at bytes ≡ (attributes_at a.1 >>= λ others. Ok (a.0 ∷ others.0, others.1))
unfolding attributes_within
rest_next bytes a some e =
    let shorter = attribute_shorter bytes a e in
    ap (λ (b : Bool). cond b (Ok ([], bytes)) (attribute_at bytes >>= more_within (length bytes))) some
    ∙ ap (λ (r : Result AttributeRead (Stop Part)). r >>= more_within (length bytes)) e
    ∙ ap (λ (r : Answer). r >>= λ others. Ok (a.0 ∷ others.0, others.1)) (enough (length bytes) (suc (length a.1)) a.1 shorter (omega arith))

pub rest_stop : (bytes : List ℕ) (s : Stop Part) → list_all is_blank bytes ≡ false → attribute_at bytes ≡ Err s → attributes_at bytes ≡ Err s
rest_stop bytes s some e = along_at bytes s some e (suc (length bytes)) (omega arith)
