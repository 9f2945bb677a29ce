-- A payload word is read as it is written, and taken for one exactly where it is one.
use Rattle.std.proofs.Common.{◌≡◌, ℕ, Bool, true, false, cond, eqb, List, [], ◌∷◌, ◌++◌, length, drop, Option, Some, None, Result, Ok, Err, refl, sym, ap, subst, ◌∙◌, append_assoc, arith, inl, inr}
use Rattle.std.specs.List.{list_all, flat_map, AllByRecursion}
use Rattle.std.proofs.lemmas.Bool.{and_parts, true≢false}
use Rattle.std.proofs.lemmas.List.{append-nil}
use Rattle.std.proofs.lemmas.List.Folds.{list_all-append}
use Rattle.ips_text.specs.declared.refusal.Stop.{Stop}
use Rattle.ips_text.specs.Reading.{◌>>=◌, Reader, next_is, run}
use Rattle.ips_text.proofs.Readers.{Stops, Reads, SameBefore, bind_ok, bind_err, ok_is, ok_not_err, err_same, next_parts}
use Rattle.ips_line.specs.declared.fault.Part.{Part}
use Rattle.ips_line.specs.Line.{is_blank, in_word, in_payload, in_key, IsRunOfBytes, Plain, written_text, Payload, payload_written, IsPayload, Attribute, attribute_written, IsAttribute}
use Rattle.ips_line.specs.Reading.{is_none, is_key, wrong_at, attributes_at, payload_from, payload_at}
use Rattle.ips_line.proofs.Keyed.{key_first}
use Rattle.ips_line.proofs.Listed.{Rest, rest_text, RestFits, rest_takes, rest_again, Same, rest_stops, rest_blank, rest_ends}
use Rattle.ips_text.proofs.Runs.{run_is, run_again, Ends}

-- ---- bytes and runs

pub ends_on : (test : ℕ → Bool) (front : List ℕ) (c : ℕ) (tail more : List ℕ) → Ends test (front ++ (c ∷ tail)) → Ends test (front ++ (c ∷ more))
ends_on test [] c tail more h = h
ends_on test (d ∷ front) c tail more h = h

key_payload : (b : ℕ) → in_key b ≡ true → in_payload b ≡ true
key_payload b h = grind arith

word_payload : (b : ℕ) → in_word b ≡ false → in_payload b ≡ false
word_payload b h = grind arith

word_equals : (b : ℕ) → in_word b ≡ false → eqb b 61 ≡ false
word_equals b h = grind arith

payload_blank : (b : ℕ) → in_payload b ≡ true → is_blank b ≡ false
payload_blank b h = grind arith

-- a byte that ends a payload word and isn't `=` is a blank
payload_word_end : (b : ℕ) → in_payload b ≡ false → eqb b 61 ≡ false → in_word b ≡ false
payload_word_end b h e = grind arith

pub word_ends : (rest : List ℕ) → Ends in_word rest → Ends in_payload rest × (next_is 61 rest ≡ false)
word_ends [] h = (tt, refl)
word_ends (b ∷ rest) h = (word_payload b h, word_equals b h)

payload_ends : (rest : List ℕ) → Ends in_payload rest → next_is 61 rest ≡ false → Ends in_word rest
payload_ends [] h e = tt
payload_ends (b ∷ rest) h e = payload_word_end b h e

keys_payload : (key : List ℕ) → list_all in_key key ≡ true → list_all in_payload key ≡ true
keys_payload [] h = refl
keys_payload (b ∷ key) h = let p = and_parts (in_key b) (list_all in_key key) h in let more = keys_payload key p.1 in rw (key_payload b p.0, more) refl

pub run_all : (test : ℕ → Bool) (x : List ℕ) → IsRunOfBytes test x → list_all test x ≡ true
run_all test [] h = absurd h
run_all test (b ∷ x) h = h

run_has : (test : ℕ → Bool) (x : List ℕ) → IsRunOfBytes test x → is_none x ≡ false
run_has test [] h = absurd h
run_has test (b ∷ x) h = refl

pub has_run : (test : ℕ → Bool) (x : List ℕ) → list_all test x ≡ true → is_none x ≡ false → IsRunOfBytes test x
has_run test [] h some = absurd (true≢false some)
has_run test (b ∷ x) h some = h

is_key_run : (w : List ℕ) → is_key w ≡ true → IsRunOfBytes in_key w
is_key_run [] h = absurd (true≢false (sym h))
is_key_run (b ∷ w) h = h

run_is_key : (w : List ℕ) → IsRunOfBytes in_key w → is_key w ≡ true
run_is_key [] h = absurd h
run_is_key (b ∷ w) h = h

-- the first byte of a payload word, or the `=` behind it, is no blank
payload_first : (w rest : List ℕ) → list_all in_payload w ≡ true → Ends is_blank rest → Ends is_blank (w ++ rest)
payload_first [] rest h ends = ends
payload_first (b ∷ w) rest h ends = payload_blank b (and_parts (in_payload b) (list_all in_payload w) h).0

-- ---- what the next word is

-- behind no blank there is no payload word
pub payload_unspaced : (bytes : List ℕ) → Ends is_blank bytes → payload_at bytes ≡ Ok (None, bytes)
unfolding payload_at
payload_unspaced [] ends = refl
payload_unspaced (b ∷ bytes) ends = rw ends refl

payload_with : (gap w rest : List ℕ) → IsRunOfBytes is_blank gap → list_all in_payload w ≡ true → Ends is_blank (w ++ rest) → Ends in_payload rest → payload_at (gap ++ (w ++ rest)) ≡ payload_from (gap ++ (w ++ rest)) gap (w, rest)
unfolding payload_at
payload_with gap w rest is_gap all first ends =
    let blanks = run_again is_blank gap (w ++ rest) (run_all is_blank gap is_gap) first in
    let word = run_again in_payload w rest all ends in
    ap (λ (p : List ℕ × List ℕ). payload_from (gap ++ (w ++ rest)) p.0 (run in_payload p.1)) blanks ∙ ap (payload_from (gap ++ (w ++ rest)) gap) word

-- a key and `=` are no payload word
pub payload_key : (gap key value : List ℕ) → IsRunOfBytes is_blank gap → IsRunOfBytes in_key key → payload_at (gap ++ (key ++ (61 ∷ value))) ≡ Ok (None, gap ++ (key ++ (61 ∷ value)))
payload_key gap key value is_gap key_run =
    payload_with gap key (61 ∷ value) is_gap (keys_payload key (run_all in_key key key_run)) (key_first key (61 ∷ value) key_run) refl ∙ rw (run_has is_blank gap is_gap, run_is_key key key_run) refl

-- another word before `=` is wrong at the `=`
pub payload_bad : (gap w value : List ℕ) → IsRunOfBytes is_blank gap → list_all in_payload w ≡ true → is_key w ≡ false → payload_at (gap ++ (w ++ (61 ∷ value))) ≡ Err (wrong_at (61 ∷ value))
payload_bad gap w value is_gap all no_key = payload_with gap w (61 ∷ value) is_gap all (payload_first w (61 ∷ value) all refl) refl ∙ rw (run_has is_blank gap is_gap, no_key) refl

blank_first : (rest : List ℕ) (w : List ℕ) → IsRunOfBytes in_payload w → Ends is_blank (w ++ rest)
blank_first rest [] h = absurd h
blank_first rest (b ∷ w) h = payload_blank b (and_parts (in_payload b) (list_all in_payload w) h).0

pub payload_word : (p : Payload) (rest : List ℕ) → IsRunOfBytes is_blank p.gap → IsRunOfBytes in_payload p.word → Ends in_word rest → payload_at (p.gap ++ (p.word ++ rest)) ≡ Ok (Some p, rest)
payload_word p rest is_gap is_word ends =
    let e = word_ends rest ends in
    payload_with p.gap p.word rest is_gap (run_all in_payload p.word is_word) (blank_first rest p.word is_word) e.0 ∙ rw (run_has is_blank p.gap is_gap, e.1, run_has in_payload p.word is_word) refl

blank_none : (gap : List ℕ) → list_all is_blank gap ≡ true → payload_at gap ≡ Ok (None, gap)
blank_none [] h = payload_unspaced [] tt
blank_none (b ∷ gap) h = ap payload_at (sym (append-nil (b ∷ gap))) ∙ payload_with (b ∷ gap) [] [] h refl tt tt ∙ ap (λ (l : List ℕ). Ok (None, l)) (append-nil (b ∷ gap))

pub attribute_text : (a : Attribute) (rest : List ℕ) → attribute_written a ++ rest ≡ a.gap ++ (a.key ++ (61 ∷ (written_text a.value ++ rest)))
attribute_text a rest = append_assoc (a.gap ++ a.key) (61 ∷ written_text a.value) rest ∙ append_assoc a.gap a.key ((61 ∷ written_text a.value) ++ rest)

-- before attributes and what stands behind them there is no payload word
pub payload_none : (xs : List Attribute) (behind : List ℕ) → AllByRecursion IsAttribute xs → payload_at behind ≡ Ok (None, behind) → payload_at (flat_map attribute_written xs ++ behind) ≡ Ok (None, flat_map attribute_written xs ++ behind)
payload_none [] behind h none = none
payload_none (a ∷ xs) behind h none =
    let others = flat_map attribute_written xs ++ behind in
    let text = append_assoc (attribute_written a) (flat_map attribute_written xs) behind ∙ attribute_text a others in
    ap payload_at text ∙ payload_key a.gap a.key (written_text a.value ++ others) h.0.gap h.0.key ∙ ap (λ (l : List ℕ). Ok (None, l)) (sym text)

pub payload_written_again : (p : Option Payload) (rest : List ℕ) → IsPayload p → Ends in_word rest → payload_at rest ≡ Ok (None, rest) → payload_at (payload_written p ++ rest) ≡ Ok (p, rest)
payload_written_again None rest h ends none = none
payload_written_again (Some p) rest h ends none = ap payload_at (append_assoc p.gap p.word rest) ∙ payload_word p rest h.0 h.1 ends

-- ---- the cases, as a text has them

abbrev pub PayloadRead : Type 0
PayloadRead = Option Payload × List ℕ

abbrev Answer : Type 0
Answer = Result PayloadRead (Stop Part)

pub data Seen (bytes : List ℕ) : Answer → Type 0 where
  Unspaced : Ends is_blank bytes → Seen bytes (Ok (None, bytes))
  Keyed : (gap key value : List ℕ) → IsRunOfBytes is_blank gap → IsRunOfBytes in_key key → bytes ≡ gap ++ (key ++ (61 ∷ value)) → Seen bytes (Ok (None, bytes))
  Wrong : (gap w value : List ℕ) → IsRunOfBytes is_blank gap → list_all in_payload w ≡ true → is_key w ≡ false → bytes ≡ gap ++ (w ++ (61 ∷ value)) → Seen bytes (Err (wrong_at (61 ∷ value)))
  Blank : list_all is_blank bytes ≡ true → Seen bytes (Ok (None, bytes))
  Found : (p : Payload) (rest : List ℕ) → IsRunOfBytes is_blank p.gap → IsRunOfBytes in_payload p.word → Ends in_word rest → bytes ≡ p.gap ++ (p.word ++ rest) → Seen bytes (Ok (Some p, rest))

only_blank : (rest : List ℕ) → Ends is_blank rest → Ends in_payload rest → next_is 61 rest ≡ false → rest ≡ []
only_blank [] a b c = refl
only_blank (d ∷ rest) a b c = absurd (contradiction d a b c)
  where
    contradiction : (d : ℕ) → is_blank d ≡ false → in_payload d ≡ false → eqb d 61 ≡ false → ⊥
    contradiction d a b c = grind arith

seen_equals : (bytes gap w value : List ℕ) → bytes ≡ gap ++ (w ++ (61 ∷ value)) → IsRunOfBytes is_blank gap → list_all in_payload w ≡ true → (t : Bool) → is_key w ≡ t → Seen bytes (cond t (Ok (None, bytes)) (Err (wrong_at (61 ∷ value))))
seen_equals bytes gap w value parts is_gap all true e = Keyed gap w value is_gap (is_key_run w e) parts
seen_equals bytes gap w value parts is_gap all false e = Wrong gap w value is_gap all e parts

seen_no_equals : (bytes gap w rest : List ℕ) → bytes ≡ gap ++ (w ++ rest) → IsRunOfBytes is_blank gap → list_all in_payload w ≡ true → Ends is_blank (w ++ rest) → Ends in_payload rest → next_is 61 rest ≡ false
    → Seen bytes (cond (is_none w) (Ok (None, bytes)) (Ok (Some (record { gap = gap; word = w }), rest)))
seen_no_equals bytes gap [] rest parts is_gap all first ends none =
    let nothing = only_blank rest first ends none in
    Blank (ap (list_all is_blank) (parts ∙ ap (λ (l : List ℕ). gap ++ l) nothing ∙ append-nil gap) ∙ run_all is_blank gap is_gap)
seen_no_equals bytes gap (b ∷ w) rest parts is_gap all first ends none = Found (record { gap = gap; word = b ∷ w }) rest is_gap all (payload_ends rest ends none) parts

seen_spaced : (bytes gap w rest : List ℕ) → bytes ≡ gap ++ (w ++ rest) → IsRunOfBytes is_blank gap → list_all in_payload w ≡ true → Ends is_blank (w ++ rest) → Ends in_payload rest → (t : Bool) → next_is 61 rest ≡ t
    → Seen bytes (cond t (cond (is_key w) (Ok (None, bytes)) (Err (wrong_at rest))) (cond (is_none w) (Ok (None, bytes)) (Ok (Some (record { gap = gap; word = w }), rest))))
seen_spaced bytes gap w rest parts is_gap all first ends true e =
    let cut = next_parts 61 rest e in
    subst (λ (l : List ℕ). Seen bytes (cond (is_key w) (Ok (None, bytes)) (Err (wrong_at l)))) (sym cut)
    (seen_equals bytes gap w (drop 1 rest) (parts ∙ ap (λ (l : List ℕ). gap ++ (w ++ l)) cut) is_gap all (is_key w) refl)
seen_spaced bytes gap w rest parts is_gap all first ends false e = seen_no_equals bytes gap w rest parts is_gap all first ends e

seen_from : (bytes gap : List ℕ) (x : List ℕ × List ℕ) → bytes ≡ gap ++ (x.0 ++ x.1) → list_all is_blank gap ≡ true → list_all in_payload x.0 ≡ true → Ends is_blank (x.0 ++ x.1) → Ends in_payload x.1 → Seen bytes (payload_from bytes gap x)
seen_from bytes [] x parts blank all first ends = Unspaced (subst (Ends is_blank) (sym parts) first)
seen_from bytes (b ∷ gap) x parts blank all first ends = seen_spaced bytes (b ∷ gap) x.0 x.1 parts blank all first ends (next_is 61 x.1) refl

pub payload_seen : (bytes : List ℕ) → Seen bytes (payload_at bytes)
unfolding payload_at
payload_seen bytes =
    let g = run_is is_blank bytes in
    let w = run_is in_payload (run is_blank bytes).1 in
    seen_from bytes (run is_blank bytes).0 (run in_payload (run is_blank bytes).1) (g.parts ∙ ap (λ (l : List ℕ). (run is_blank bytes).0 ++ l) w.parts) g.all w.all (subst (Ends is_blank) w.parts g.ends) w.ends

-- ---- what stands behind the name

abbrev pub Tail : Type 0
Tail = Option Payload × Rest

abbrev pub tail_text : Tail → List ℕ
tail_text t = payload_written t.0 ++ rest_text t.1

abbrev pub TailFits : Tail → Type 0
TailFits t = IsPayload t.0 × RestFits t.1

abbrev pub tail_behind : PayloadRead → Result (Tail × List ℕ) (Stop Part)
tail_behind p = attributes_at p.1 >>= λ others. Ok ((p.0, others), [])

abbrev pub tail_at : Reader Part Tail
tail_at bytes = payload_at bytes >>= tail_behind

abbrev TailRead : Type 0
TailRead = Tail × List ℕ

abbrev TailTaken : List ℕ → TailRead → Type 0
TailTaken bytes z = (bytes ≡ tail_text z.0 ++ z.1) × TailFits z.0 × (z.1 ≡ [])

tail_of : (bytes : List ℕ) (p : Option Payload) (rest : List ℕ) (z : TailRead) → bytes ≡ payload_written p ++ rest → IsPayload p → tail_behind (p, rest) ≡ Ok z → TailTaken bytes z
tail_of bytes p rest z parts fits e =
    let a = bind_ok (attributes_at rest) (λ others. Ok ((p, others), [])) z e in
    let t = rest_takes rest a.0 a.1 in
    let made : TailRead = ((p, a.0), []) in
    subst (TailTaken bytes) (ok_is {E = Stop Part} made z a.2) (parts ∙ ap (λ (l : List ℕ). payload_written p ++ l) t.0 ∙ sym (append-nil (tail_text (p, a.0))), (fits, t.1), refl)

tail_takes_seen : (bytes : List ℕ) (answer : Answer) (z : TailRead) → Seen bytes answer → (answer >>= tail_behind) ≡ Ok z → TailTaken bytes z
tail_takes_seen bytes answer z (Unspaced h) e = tail_of bytes None bytes z refl tt e
tail_takes_seen bytes answer z (Keyed gap key value is_gap key_run parts) e = tail_of bytes None bytes z refl tt e
tail_takes_seen bytes answer z (Wrong gap w value is_gap all no_key parts) e = absurd (ok_not_err z (wrong_at (61 ∷ value)) (sym e))
tail_takes_seen bytes answer z (Blank h) e = tail_of bytes None bytes z refl tt e
tail_takes_seen bytes answer z (Found p rest is_gap is_word ends parts) e = tail_of bytes (Some p) rest z (parts ∙ sym (append_assoc p.gap p.word rest)) (is_gap, is_word) e

tail_takes : (bytes : List ℕ) (z : TailRead) → tail_at bytes ≡ Ok z → TailTaken bytes z
tail_takes bytes z e = tail_takes_seen bytes (payload_at bytes) z (payload_seen bytes) e

pub tail_again : (t : Tail) → TailFits t → tail_at (tail_text t) ≡ Ok (t, [])
tail_again t h =
    let none = payload_none t.1.0 t.1.1 h.1.0 (blank_none t.1.1 h.1.1) in
    let ends = rest_ends t.1.0 t.1.1 h.1.0 h.1.1 in
    ap (λ (r : Answer). r >>= tail_behind) (payload_written_again t.0 (rest_text t.1) h.0 ends none)
    ∙ ap (λ (r : Result Rest (Stop Part)). r >>= λ others. Ok ((t.0, others), [])) (rest_again t.1.0 t.1.1 h.1.0 h.1.1)

abbrev TailStops : List ℕ → Stop Part → Type 0
TailStops bytes s = Stops tail_text TailFits (λ front tail. SameBefore tail_at front tail s.kind) bytes s

-- ---- where it stops

-- one cut of a list lies within the front of another, or behind it
pub data Cuts (front : List ℕ) (c : ℕ) (tail pre post : List ℕ) : Type 0 where
  Within : (t : List ℕ) → pre ≡ front ++ (c ∷ t) → Cuts front c tail pre post
  Behind : (t : List ℕ) → front ≡ pre ++ t → Cuts front c tail pre post

pub cuts : (front : List ℕ) (c : ℕ) (tail pre post : List ℕ) → front ++ (c ∷ tail) ≡ pre ++ post → Cuts front c tail pre post
cuts front c tail [] post e = Behind front refl
cuts [] c tail (d ∷ pre) post e = let same : d ≡ c = cc in Within pre (ap (λ (b : ℕ). b ∷ pre) same)
cuts (b ∷ front) c tail (d ∷ pre) post e =
    let same : d ≡ b = cc in
    let more : front ++ (c ∷ tail) ≡ pre ++ post = cc in
    elim (cuts front c tail pre post more) [
      | Within t h ↦ Within t (rw (same, h) refl)
      | Behind t h ↦ Behind t (rw (same, h) refl)
    ]

abbrev Keeps : List ℕ → List ℕ → Type 0
Keeps front [] = Unit {0}
Keeps front (c ∷ tail) = (more : List ℕ) → payload_at (front ++ (c ∷ more)) ≡ Ok (None, front ++ (c ∷ more))

same_rest : (front tail : List ℕ) (kind : Part) → Keeps front tail → Same front tail kind → SameBefore tail_at front tail kind
same_rest front [] kind keeps same = tt
same_rest front (c ∷ tail) kind keeps same = λ more.
    ap (λ (r : Answer). r >>= tail_behind) (keeps more) ∙ ap (λ (r : Result Rest (Stop Part)). r >>= λ others. Ok ((None, others), [])) (same more)

-- without a payload word, the attributes stop where the line does
stops_without : (bytes : List ℕ) (s : Stop Part) → attributes_at bytes ≡ Err s → ((front tail : List ℕ) → bytes ≡ front ++ tail → Same front tail s.kind → Keeps front tail) → TailStops bytes s
stops_without bytes s e keeps =
    let u = rest_stops bytes s e in
    record {
      front = u.front;
      tail = u.tail;
      parts = u.parts;
      left = u.left;
      value = (None, u.value);
      more = u.more;
      fits = (tt, u.fits);
      begins = u.begins;
      local = same_rest u.front u.tail s.kind (keeps u.front u.tail u.parts u.local) u.local;
    }

keeps_unspaced : (bytes : List ℕ) → Ends is_blank bytes → (front tail : List ℕ) → bytes ≡ front ++ tail → Keeps front tail
keeps_unspaced bytes ends front [] parts = tt
keeps_unspaced bytes ends front (c ∷ tail) parts = λ more. payload_unspaced (front ++ (c ∷ more)) (ends_on is_blank front c tail more (subst (Ends is_blank) parts ends))

-- a key and `=` that are cut could be continued to an attribute
cut_key : (gap key t front : List ℕ) (c : ℕ) (kind : Part) → IsRunOfBytes is_blank gap → IsRunOfBytes in_key key → gap ++ (key ++ (61 ∷ [])) ≡ front ++ (c ∷ t) → ((more : List ℕ) → attributes_at (front ++ (c ∷ more)) ≡ Err (record { kind = kind; left = length (c ∷ more) })) → ⊥
cut_key gap key t front c kind is_gap key_run cut same =
    let a : Attribute = record { gap = gap; key = key; value = Plain (97 ∷ []) } in
    let fits : IsAttribute a = record { gap = is_gap; key = key_run; value = (refl, refl) } in
    let read = rest_again (a ∷ []) [] (fits, tt) refl in
    let text : flat_map attribute_written (a ∷ []) ++ [] ≡ front ++ (c ∷ (t ++ (97 ∷ [])))
    = append-nil (attribute_written a ++ []) ∙ append-nil (attribute_written a) ∙ append_assoc gap key (61 ∷ 97 ∷ []) ∙ ap (λ (l : List ℕ). gap ++ l) (sym (append_assoc key (61 ∷ []) (97 ∷ [])))
    ∙ sym (append_assoc gap (key ++ (61 ∷ [])) (97 ∷ [])) ∙ ap (λ (l : List ℕ). l ++ (97 ∷ [])) cut ∙ append_assoc front (c ∷ t) (97 ∷ []) in
    ok_not_err (a ∷ [], []) (record { kind = kind; left = length (c ∷ (t ++ (97 ∷ []))) }) (sym read ∙ ap attributes_at text ∙ same (t ++ (97 ∷ [])))

keeps_keyed : (bytes gap key value : List ℕ) (kind : Part) → IsRunOfBytes is_blank gap → IsRunOfBytes in_key key → bytes ≡ gap ++ (key ++ (61 ∷ value)) → (front tail : List ℕ) → bytes ≡ front ++ tail → Same front tail kind → Keeps front tail
keeps_keyed bytes gap key value kind is_gap key_run text front [] parts same = tt
keeps_keyed bytes gap key value kind is_gap key_run text front (c ∷ tail) parts same = λ more.
    let whole : (rest : List ℕ) → gap ++ (key ++ (61 ∷ rest)) ≡ (gap ++ (key ++ (61 ∷ []))) ++ rest = λ rest. ap (λ (l : List ℕ). gap ++ l) (sym (append_assoc key (61 ∷ []) rest)) ∙ sym (append_assoc gap (key ++ (61 ∷ [])) rest) in
    elim (cuts front c tail (gap ++ (key ++ (61 ∷ []))) value (sym parts ∙ text ∙ whole value)) [
      | Within t cut ↦ absurd (cut_key gap key t front c kind is_gap key_run cut same)
      | Behind t cut ↦
          let at : front ++ (c ∷ more) ≡ gap ++ (key ++ (61 ∷ (t ++ (c ∷ more)))) = ap (λ (l : List ℕ). l ++ (c ∷ more)) cut ∙ append_assoc (gap ++ (key ++ (61 ∷ []))) t (c ∷ more) ∙ sym (whole (t ++ (c ∷ more))) in
          ap payload_at at ∙ payload_key gap key (t ++ (c ∷ more)) is_gap key_run ∙ ap (λ (l : List ℕ). Ok (None, l)) (sym at)
    ]

same_word : (p : Payload) (front tail : List ℕ) (kind : Part) → IsRunOfBytes is_blank p.gap → IsRunOfBytes in_payload p.word → Ends in_word (front ++ tail) → Same front tail kind → SameBefore tail_at (payload_written (Some p) ++ front) tail kind
same_word p front [] kind is_gap is_word ends same = tt
same_word p front (c ∷ tail) kind is_gap is_word ends same = λ more.
    ap tail_at (append_assoc (p.gap ++ p.word) front (c ∷ more) ∙ append_assoc p.gap p.word (front ++ (c ∷ more)))
    ∙ ap (λ (r : Answer). r >>= tail_behind) (payload_word p (front ++ (c ∷ more)) is_gap is_word (ends_on in_word front c tail more ends))
    ∙ ap (λ (r : Result Rest (Stop Part)). r >>= λ others. Ok ((Some p, others), [])) (same more)

stops_behind : (bytes : List ℕ) (p : Payload) (rest : List ℕ) (s : Stop Part) → IsRunOfBytes is_blank p.gap → IsRunOfBytes in_payload p.word → Ends in_word rest → bytes ≡ p.gap ++ (p.word ++ rest) → attributes_at rest ≡ Err s → TailStops bytes s
stops_behind bytes p rest s is_gap is_word ends parts e =
    let u = rest_stops rest s e in
    record {
      front = payload_written (Some p) ++ u.front;
      tail = u.tail;
      parts = parts ∙ sym (append_assoc p.gap p.word rest) ∙ ap (λ (l : List ℕ). (p.gap ++ p.word) ++ l) u.parts ∙ sym (append_assoc (p.gap ++ p.word) u.front u.tail);
      left = u.left;
      value = (Some p, u.value);
      more = u.more;
      fits = ((is_gap, is_word), u.fits);
      begins = append_assoc (p.gap ++ p.word) u.front u.more ∙ ap (λ (l : List ℕ). (p.gap ++ p.word) ++ l) u.begins;
      local = same_word p u.front u.tail s.kind is_gap is_word (subst (Ends in_word) u.parts ends) u.local;
    }

longer_word : (w : List ℕ) → list_all in_payload w ≡ true → IsRunOfBytes in_payload (w ++ (97 ∷ []))
longer_word [] h = refl
longer_word (b ∷ w) h = list_all-append in_payload (b ∷ w) (97 ∷ []) ∙ rw h refl

stops_wrong : (bytes gap w value : List ℕ) (s : Stop Part) → IsRunOfBytes is_blank gap → list_all in_payload w ≡ true → is_key w ≡ false → bytes ≡ gap ++ (w ++ (61 ∷ value)) → (let d : Stop Part = wrong_at (61 ∷ value) in d) ≡ s → TailStops bytes s
stops_wrong bytes gap w value s is_gap all no_key parts same = record {
  front = gap ++ w;
  tail = 61 ∷ value;
  parts = parts ∙ sym (append_assoc gap w (61 ∷ value));
  left = ap (λ (d : Stop Part). d.left) same;
  value = (Some (record { gap = gap; word = w ++ (97 ∷ []) }), ([], []));
  more = 97 ∷ [];
  fits = ((is_gap, longer_word w all), (tt, refl));
  begins = append_assoc gap w (97 ∷ []) ∙ sym (append-nil (gap ++ (w ++ (97 ∷ []))));
  local =
      subst (λ (d : Stop Part). (more : List ℕ) → tail_at ((gap ++ w) ++ (61 ∷ more)) ≡ Err (record { kind = d.kind; left = length (61 ∷ more) })) same
      (λ more. ap tail_at (append_assoc gap w (61 ∷ more)) ∙ ap (λ (r : Answer). r >>= tail_behind) (payload_bad gap w more is_gap all no_key));
}

attributes_fail : (p : Option Payload) (rest : List ℕ) (s : Stop Part) → tail_behind (p, rest) ≡ Err s → attributes_at rest ≡ Err s
attributes_fail p rest s e = elim (bind_err (attributes_at rest) (λ others. Ok ((p, others), [])) s e) [ inl e1 ↦ e1 | inr v ↦ absurd (ok_not_err ((p, v.0), []) s v.2) ]

tail_stops_seen : (bytes : List ℕ) (answer : Answer) (s : Stop Part) → Seen bytes answer → (answer >>= tail_behind) ≡ Err s → TailStops bytes s
tail_stops_seen bytes answer s (Unspaced h) e = stops_without bytes s (attributes_fail None bytes s e) (λ front tail parts same. keeps_unspaced bytes h front tail parts)
tail_stops_seen bytes answer s (Keyed gap key value is_gap key_run parts) e = stops_without bytes s (attributes_fail None bytes s e) (keeps_keyed bytes gap key value s.kind is_gap key_run parts)
tail_stops_seen bytes answer s (Wrong gap w value is_gap all no_key parts) e = stops_wrong bytes gap w value s is_gap all no_key parts (err_same {A = TailRead} (wrong_at (61 ∷ value)) s e)
tail_stops_seen bytes answer s (Blank h) e = absurd (ok_not_err ([], bytes) s (sym (rest_blank bytes h) ∙ attributes_fail None bytes s e))
tail_stops_seen bytes answer s (Found p rest is_gap is_word ends parts) e = stops_behind bytes p rest s is_gap is_word ends parts (attributes_fail (Some p) rest s e)

tail_stops : (bytes : List ℕ) (s : Stop Part) → tail_at bytes ≡ Err s → TailStops bytes s
tail_stops bytes s e = tail_stops_seen bytes (payload_at bytes) s (payload_seen bytes) e

-- it goes on to the end of the text
abbrev pub TailFollows : Tail → List ℕ → Type 0
TailFollows t rest = rest ≡ []

pub Reads-tail : Reads tail_text TailFits TailFollows tail_at
Reads-tail = record {
  takes = tail_takes;
  again = λ t rest fits none. ap (λ (l : List ℕ). tail_at (tail_text t ++ l)) none ∙ ap tail_at (append-nil (tail_text t)) ∙ tail_again t fits ∙ ap (λ (l : List ℕ). Ok (t, l)) (sym none);
  head = λ t c tail more h. absurd cc;
  stops = tail_stops;
}
