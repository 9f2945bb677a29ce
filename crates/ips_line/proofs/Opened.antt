-- A text that ends between quotes: it is told exactly, with the place of the quote.
use Rattle.std.proofs.Common.{◌≡◌, ℕ, zero, suc, ◌+◌, ◌-◌, ◌≤◌, Bool, true, false, eqb, List, [], ◌∷◌, ◌++◌, length, take, Option, Some, None, Result, Ok, Err, refl, sym, ap, subst, ◌∙◌, append_assoc, arith, inl, inr}
use Rattle.std.specs.List.{list_all, flat_map, AllByRecursion}
use Rattle.std.proofs.lemmas.List.{append-nil, length-append, take_all}
use Rattle.ips_text.specs.declared.refusal.Stop.{Stop}
use Rattle.ips_text.specs.Reading.{◌>>=◌, both, Begins, run}
use Rattle.ips_text.proofs.Readers.{chosen, bind_err, ok_is, ok_not_err, err_same}
use Rattle.ips_line.specs.declared.fault.Part.{Part}
use Rattle.ips_line.specs.declared.fault.Part.TheVariants as part
use Rattle.ips_line.specs.Line.{is_blank, is_quote, in_word, in_key, IsRunOfBytes, stays_inside, Written, Plain, Quoted, Payload, payload_written, IsPayload, Attribute, attribute_written, IsAttribute, Line, line_written, IsLine, EndsInQuote, IsFault}
use Rattle.ips_line.specs.Reading.{wrong_at, some_at, equals_at, closing, closed, plain_at, written_at, attribute_at, attributes_within, attributes_at, payload_at, read_line, opened, fault_of}
use Rattle.ips_line.proofs.Runs.{Reads-some, Reads-equals}
use Rattle.ips_line.proofs.Quotes.{closing_takes, closing_again}
use Rattle.ips_line.proofs.Keyed.{key_first, Reads-attribute}
use Rattle.ips_line.proofs.Listed.{Rest, AttributeRead, rest_next, rest_stop, attribute_again, attribute_ends, attribute_not_blank, key_not_blank, run_ends}
use Rattle.ips_line.proofs.Heads.{payload_key, payload_none, payload_written_again, payload_seen, Seen, Unspaced, Keyed, Wrong, Blank, Found, PayloadRead}
use Rattle.ips_line.proofs.Whole.{line_of, rest_line, name_line, word_first, payload_starts, line_first, no_line}
use Rattle.ips_text.proofs.Runs.{run_is, run_again, Ends}

-- ---- what stops at a quote

-- what was being read
abbrev Kind : Stop Part → ℕ → Type 0
Kind s left = s.kind ≡ part.Quote left

word_quote : (left : ℕ) (s : Stop Part) (bytes : List ℕ) → (let d : Stop Part = wrong_at bytes in d) ≡ s → Kind s left → ⊥
word_quote left s bytes same kind = no (sym (ap (λ (d : Stop Part). d.kind) (sym same)) ∙ kind)
  where
    no : part.Word ≡ part.Quote left → ⊥
    no e = absurd cc

some_quote : (test : ℕ → Bool) (bytes : List ℕ) (s : Stop Part) (left : ℕ) → some_at test bytes ≡ Err s → Kind s left → ⊥
unfolding some_at
some_quote test [] s left e kind = word_quote left s [] (err_same {A = List ℕ × List ℕ} (wrong_at []) s e) kind
some_quote test (b ∷ bytes) s left e kind =
    let made : List ℕ × List ℕ = (b ∷ (run test bytes).0, (run test bytes).1) in
    elim (chosen (test b) (Ok made) (Err (wrong_at (b ∷ bytes))) (Err s) e) [
      | inl w ↦ absurd (ok_not_err made s w.1)
      | inr w ↦ word_quote left s (b ∷ bytes) (err_same {A = List ℕ × List ℕ} (wrong_at (b ∷ bytes)) s w.1) kind
    ]

equals_quote : (bytes : List ℕ) (s : Stop Part) (left : ℕ) → equals_at bytes ≡ Err s → Kind s left → ⊥
unfolding equals_at
equals_quote [] s left e kind = word_quote left s [] (err_same {A = Unit {0} × List ℕ} (wrong_at []) s e) kind
equals_quote (b ∷ bytes) s left e kind =
    let made : (Unit {0}) × List ℕ = (tt, bytes) in
    elim (chosen (eqb b 61) (Ok made) (Err (wrong_at (b ∷ bytes))) (Err s) e) [
      | inl w ↦ absurd (ok_not_err made s w.1)
      | inr w ↦ word_quote left s (b ∷ bytes) (err_same {A = (Unit {0}) × List ℕ} (wrong_at (b ∷ bytes)) s w.1) kind
    ]

payload_quote_seen : (bytes : List ℕ) (answer : Result PayloadRead (Stop Part)) (s : Stop Part) (left : ℕ) → Seen bytes answer → answer ≡ Err s → Kind s left → ⊥
payload_quote_seen bytes answer s left (Unspaced h) e kind = ok_not_err (None, bytes) s e
payload_quote_seen bytes answer s left (Keyed gap key value is_gap key_run parts) e kind = ok_not_err (None, bytes) s e
payload_quote_seen bytes answer s left (Wrong gap w value is_gap all no_key parts) e kind = word_quote left s (61 ∷ value) (err_same {A = PayloadRead} (wrong_at (61 ∷ value)) s e) kind
payload_quote_seen bytes answer s left (Blank h) e kind = ok_not_err (None, bytes) s e
payload_quote_seen bytes answer s left (Found p rest is_gap is_word ends parts) e kind = ok_not_err (Some p, rest) s e

abbrev PayloadTaken : List ℕ → PayloadRead → Type 0
PayloadTaken bytes z = (bytes ≡ payload_written z.0 ++ z.1) × IsPayload z.0

pub payload_takes : (bytes : List ℕ) (answer : Result PayloadRead (Stop Part)) (z : PayloadRead) → Seen bytes answer → answer ≡ Ok z → PayloadTaken bytes z
payload_takes bytes answer z (Unspaced h) e = subst (PayloadTaken bytes) (ok_is {E = Stop Part} (None, bytes) z e) (refl, tt)
payload_takes bytes answer z (Keyed gap key value is_gap key_run parts) e = subst (PayloadTaken bytes) (ok_is {E = Stop Part} (None, bytes) z e) (refl, tt)
payload_takes bytes answer z (Wrong gap w value is_gap all no_key parts) e = absurd (ok_not_err z (wrong_at (61 ∷ value)) (sym e))
payload_takes bytes answer z (Blank h) e = subst (PayloadTaken bytes) (ok_is {E = Stop Part} (None, bytes) z e) (refl, tt)
payload_takes bytes answer z (Found p rest is_gap is_word ends parts) e = subst (PayloadTaken bytes) (ok_is {E = Stop Part} (Some p, rest) z e) (parts ∙ sym (append_assoc p.gap p.word rest), (is_gap, is_word))

-- a value that isn't closed
pub record OpenValue (bytes : List ℕ) (left : ℕ) : Type 0 where
  pub quote : ℕ
  pub inside : List ℕ
  pub parts : bytes ≡ quote ∷ inside
  pub quotes : is_quote quote ≡ true
  pub none : closing quote inside ≡ None
  pub size : left ≡ length (quote ∷ inside)

closed_open : (q : ℕ) (inside : List ℕ) (o : Option (List ℕ × List ℕ)) (s : Stop Part) (left : ℕ) → is_quote q ≡ true → closing q inside ≡ o → closed q (length (q ∷ inside)) o ≡ Err s → Kind s left → OpenValue (q ∷ inside) left
closed_open q inside None s left is_q e h kind =
    let stop : Stop Part = record { kind = part.Quote (length (q ∷ inside)); left = 0 } in
    let same : stop ≡ s = err_same {A = Written × List ℕ} stop s h in
    record { quote = q; inside = inside; parts = refl; quotes = is_q; none = e; size = size (sym kind ∙ sym (ap (λ (d : Stop Part). d.kind) same)) }
  where
    size : part.Quote left ≡ part.Quote (length (q ∷ inside)) → left ≡ length (q ∷ inside)
    size e = cc
closed_open q inside (Some x) s left is_q e h kind = absurd (ok_not_err (Quoted q x.0, x.1) s h)

plain_quote : (bytes : List ℕ) (s : Stop Part) (left : ℕ) → plain_at bytes ≡ Err s → Kind s left → ⊥
plain_quote bytes s left e kind =
    elim (bind_err (some_at in_word bytes) (λ x. Ok (Plain x.0, x.1)) s e) [
      | inl e1 ↦ some_quote in_word bytes s left e1 kind
      | inr v ↦ ok_not_err (Plain v.0.0, v.0.1) s v.2
    ]

written_open : (bytes : List ℕ) (s : Stop Part) (left : ℕ) → written_at bytes ≡ Err s → Kind s left → OpenValue bytes left
unfolding written_at
written_open [] s left e kind = absurd (plain_quote [] s left e kind)
written_open (b ∷ bytes) s left e kind =
    elim (chosen (is_quote b) (closed b (length (b ∷ bytes)) (closing b bytes)) (plain_at (b ∷ bytes)) (Err s) e) [
      | inl w ↦ closed_open b bytes (closing b bytes) s left w.0 refl w.1 kind
      | inr w ↦ absurd (plain_quote (b ∷ bytes) s left w.1 kind)
    ]

-- an attribute whose value isn't closed
pub record OpenAttribute (bytes : List ℕ) (left : ℕ) : Type 0 where
  pub gap : List ℕ
  pub key : List ℕ
  pub quote : ℕ
  pub inside : List ℕ
  pub parts : bytes ≡ gap ++ (key ++ (61 ∷ quote ∷ inside))
  pub is_gap : IsRunOfBytes is_blank gap
  pub is_key : IsRunOfBytes in_key key
  pub quotes : is_quote quote ≡ true
  pub none : closing quote inside ≡ None
  pub size : left ≡ length (quote ∷ inside)

abbrev Value : Type 0
Value = Unit {0} × Written

abbrev KeyValue : Type 0
KeyValue = List ℕ × Value

attribute_open : (bytes : List ℕ) (s : Stop Part) (left : ℕ) → attribute_at bytes ≡ Err s → Kind s left → OpenAttribute bytes left
unfolding attribute_at
attribute_open bytes s left e kind =
    elim (bind_err (both (some_at is_blank) (both (some_at in_key) (both equals_at written_at)) bytes) (λ x. Ok (record { gap = x.0.0; key = x.0.1.0; value = x.0.1.1.1 }, x.1)) s e) [
      | inl e1 ↦ behind_gap e1
      | inr v ↦ absurd (ok_not_err (record { gap = v.0.0.0; key = v.0.0.1.0; value = v.0.0.1.1.1 }, v.0.1) s v.2)
    ]
  where
    behind_equals : (gap key rest : List ℕ) → bytes ≡ gap ++ (key ++ rest) → IsRunOfBytes is_blank gap → IsRunOfBytes in_key key → both equals_at written_at rest ≡ Err s → OpenAttribute bytes left
    behind_equals gap key rest parts is_gap key_run e =
        elim (bind_err (equals_at rest) (λ x. written_at x.1 >>= λ y. Ok ((x.0, y.0), y.1)) s e) [
          | inl e1 ↦ absurd (equals_quote rest s left e1 kind)
          | inr v ↦
              elim (bind_err (written_at v.0.1) (λ y. Ok ((v.0.0, y.0), y.1)) s v.2) [
                | inl e2 ↦
                    let t = Reads-equals.takes rest v.0 v.1 in
                    let o = written_open v.0.1 s left e2 kind in
                    record {
                      gap = gap;
                      key = key;
                      quote = o.quote;
                      inside = o.inside;
                      parts = parts ∙ ap (λ (l : List ℕ). gap ++ (key ++ l)) (t.0 ∙ ap (λ (l : List ℕ). 61 ∷ l) o.parts);
                      is_gap = is_gap;
                      is_key = key_run;
                      quotes = o.quotes;
                      none = o.none;
                      size = o.size;
                    }
                | inr x ↦ absurd (ok_not_err ((v.0.0, x.0.0), x.0.1) s x.2)
              ]
        ]

    behind_key : (gap rest : List ℕ) → bytes ≡ gap ++ rest → IsRunOfBytes is_blank gap → both (some_at in_key) (both equals_at written_at) rest ≡ Err s → OpenAttribute bytes left
    behind_key gap rest parts is_gap e =
        elim (bind_err (some_at in_key rest) (λ x. both equals_at written_at x.1 >>= λ y. Ok ((x.0, y.0), y.1)) s e) [
          | inl e1 ↦ absurd (some_quote in_key rest s left e1 kind)
          | inr v ↦
              elim (bind_err (both equals_at written_at v.0.1) (λ y. Ok ((v.0.0, y.0), y.1)) s v.2) [
                | inl e2 ↦ let t = (Reads-some in_key 97 refl).takes rest v.0 v.1 in behind_equals gap v.0.0 v.0.1 (parts ∙ ap (λ (l : List ℕ). gap ++ l) t.0) is_gap t.1 e2
                | inr x ↦ absurd (ok_not_err ((v.0.0, x.0.0), x.0.1) s x.2)
              ]
        ]

    behind_gap : both (some_at is_blank) (both (some_at in_key) (both equals_at written_at)) bytes ≡ Err s → OpenAttribute bytes left
    behind_gap e =
        elim (bind_err (some_at is_blank bytes) (λ x. both (some_at in_key) (both equals_at written_at) x.1 >>= λ y. Ok ((x.0, y.0), y.1)) s e) [
          | inl e1 ↦ absurd (some_quote is_blank bytes s left e1 kind)
          | inr v ↦
              elim (bind_err (both (some_at in_key) (both equals_at written_at) v.0.1) (λ y. Ok ((v.0.0, y.0), y.1)) s v.2) [
                | inl e2 ↦ let t = (Reads-some is_blank 32 refl).takes bytes v.0 v.1 in behind_key v.0.0 v.0.1 t.0 t.1 e2
                | inr x ↦ absurd (ok_not_err ((v.0.0, x.0.0), x.0.1) s x.2)
              ]
        ]

-- attributes, and behind them one whose value isn't closed
pub record OpenRest (bytes : List ℕ) (left : ℕ) : Type 0 where
  pub before : List Attribute
  pub last : List ℕ
  pub parts : bytes ≡ flat_map attribute_written before ++ last
  pub fits : AllByRecursion IsAttribute before
  pub open_end : OpenAttribute last left

abbrev more_within : ℕ → AttributeRead → Result Rest (Stop Part)
more_within count a = attributes_within count a.1 >>= λ others. Ok (a.0 ∷ others.0, others.1)

within_open : (count : ℕ) (bytes : List ℕ) (s : Stop Part) (left : ℕ) → attributes_within count bytes ≡ Err s → Kind s left → OpenRest bytes left
unfolding attributes_within
within_open zero bytes s left e kind = absurd (ok_not_err ([], bytes) s e)
within_open (suc count) bytes s left e kind =
    elim (chosen (list_all is_blank bytes) (Ok ([], bytes)) (attribute_at bytes >>= more_within count) (Err s) e) [
      | inl w ↦ absurd (ok_not_err ([], bytes) s w.1)
      | inr w ↦
          elim (bind_err (attribute_at bytes) (more_within count) s w.1) [
            | inl e1 ↦ record { before = []; last = bytes; parts = refl; fits = tt; open_end = attribute_open bytes s left e1 kind }
            | inr v ↦
                elim (bind_err (attributes_within count v.0.1) (λ others. Ok (v.0.0 ∷ others.0, others.1)) s v.2) [
                  | inl e2 ↦
                      let t = Reads-attribute.takes bytes v.0 v.1 in
                      let o = within_open count v.0.1 s left e2 kind in
                      record {
                        before = v.0.0 ∷ o.before;
                        last = o.last;
                        parts = t.0 ∙ ap (λ (l : List ℕ). attribute_written v.0.0 ++ l) o.parts ∙ sym (append_assoc (attribute_written v.0.0) (flat_map attribute_written o.before) o.last);
                        fits = (t.1, o.fits);
                        open_end = o.open_end;
                      }
                  | inr x ↦ absurd (ok_not_err (v.0.0 ∷ x.0.0, x.0.1) s x.2)
                ]
          ]
    ]

-- ---- the whole line

abbrev open_line : List ℕ → List ℕ → Option Payload → List Attribute → Line
open_line before name payload attributes = record { before = before; name = name; payload = payload; attributes = attributes; behind = [] }

-- the front of a text that ends between quotes, as a line and behind it a key and `=`
front_text : (before name : List ℕ) (payload : Option Payload) (attributes : List Attribute) (gap key tail : List ℕ)
    → ((line_written (open_line before name payload attributes) ++ gap) ++ key ++ (61 ∷ [])) ++ tail ≡ before ++ (name ++ (payload_written payload ++ (flat_map attribute_written attributes ++ (gap ++ (key ++ (61 ∷ tail))))))
front_text before name payload attributes gap key tail = simp (append_assoc, append-nil)

made_open : (text before name : List ℕ) (payload : Option Payload) (bytes : List ℕ) (left : ℕ) → list_all is_blank before ≡ true → IsRunOfBytes in_word name → IsPayload payload → text ≡ before ++ (name ++ (payload_written payload ++ bytes)) → OpenRest bytes left
    → EndsInQuote text (length text - left) × (left ≤ length text)
made_open text before name payload bytes left is_before is_name is_payload parts o =
    let a = o.open_end in
    let line = open_line before name payload o.before in
    let front : List ℕ = (line_written line ++ a.gap) ++ a.key ++ (61 ∷ []) in
    let written : text ≡ front ++ (a.quote ∷ a.inside)
    = parts ∙ ap (λ (l : List ℕ). before ++ (name ++ (payload_written payload ++ l))) (o.parts ∙ ap (λ (l : List ℕ). flat_map attribute_written o.before ++ l) a.parts) ∙ sym (front_text before name payload o.before a.gap a.key (a.quote ∷ a.inside)) in
    let size : length text ≡ length front + length (a.quote ∷ a.inside) = ap length written ∙ length-append front (a.quote ∷ a.inside) in (
      record {
        line = line;
        gap = a.gap;
        key = a.key;
        quote = a.quote;
        inside = a.inside;
        is_line = record { before = is_before; name = is_name; payload = is_payload; attributes = o.fits; behind = refl };
        no_blanks = refl;
        is_gap = a.is_gap;
        is_key = a.is_key;
        quotes = a.quotes;
        open_end = λ inner more cut stays. closes a.quote a.inside inner more a.quotes a.none cut stays;
        written = written;
        at = omega (arith, size, a.size);
      },
      omega (arith, size, a.size),
    )
  where
    no_cut : (x : List ℕ × List ℕ) → (let o : Option (List ℕ × List ℕ) = Some x in o) ≡ None → ⊥
    no_cut x e = absurd cc

    closes : (q : ℕ) (inside inner more : List ℕ) → is_quote q ≡ true → closing q inside ≡ None → inside ≡ inner ++ (q ∷ more) → stays_inside q inner ≡ true → ⊥
    closes q inside inner more is_q none cut stays = no_cut (inner, more) (sym (closing_again q inner more is_q stays) ∙ ap (closing q) (sym cut) ∙ none)

-- the program's answer, that a quote isn't closed, is right
pub line_open : (text : List ℕ) (s : Stop Part) (left : ℕ) → read_line text ≡ Err s → Kind s left → EndsInQuote text (length text - left) × (left ≤ length text)
unfolding read_line
line_open text s left e kind =
    let b = run_is is_blank text in
    elim (bind_err (some_at in_word (run is_blank text).1) (name_line (run is_blank text).0) s e) [
      | inl e1 ↦ absurd (some_quote in_word (run is_blank text).1 s left e1 kind)
      | inr n ↦
          elim (bind_err (payload_at n.0.1) (rest_line (run is_blank text).0 n.0.0) s n.2) [
            | inl e2 ↦ absurd (payload_quote_seen n.0.1 (payload_at n.0.1) s left (payload_seen n.0.1) e2 kind)
            | inr p ↦
                elim (bind_err (attributes_at p.0.1) (λ others. Ok (line_of (run is_blank text).0 n.0.0 p.0.0 others)) s p.2) [
                  | inl e3 ↦
                      let t = (Reads-some in_word 97 refl).takes (run is_blank text).1 n.0 n.1 in
                      let q = payload_takes n.0.1 (payload_at n.0.1) p.0 (payload_seen n.0.1) p.1 in
                      made_open text (run is_blank text).0 n.0.0 p.0.0 p.0.1 left b.all t.1 q.1 (b.parts ∙ ap (λ (l : List ℕ). (run is_blank text).0 ++ l) (t.0 ∙ ap (λ (l : List ℕ). n.0.0 ++ l) q.0))
                      (within_open (suc (length p.0.1)) p.0.1 s left e3 kind)
                  | inr v ↦ absurd (ok_not_err (line_of (run is_blank text).0 n.0.0 p.0.0 v.0) s v.2)
                ]
          ]
    ]

-- ---- and it is always told

gap_not_blank : (gap key rest : List ℕ) → IsRunOfBytes in_key key → list_all is_blank (gap ++ (key ++ rest)) ≡ false
gap_not_blank [] key rest h = key_not_blank key rest h
gap_not_blank (b ∷ gap) key rest h = go (is_blank b) refl (gap_not_blank gap key rest h)
  where
    go : (t : Bool) → is_blank b ≡ t → list_all is_blank (gap ++ (key ++ rest)) ≡ false → list_all is_blank (b ∷ (gap ++ (key ++ rest))) ≡ false
    go true e more = rw e more
    go false e more = rw e refl

-- behind a word an attribute begins with a blank
all_end : (xs : List Attribute) (last : List ℕ) → AllByRecursion IsAttribute xs → Ends in_word last → Ends in_word (flat_map attribute_written xs ++ last)
all_end [] last h ends = ends
all_end (a ∷ xs) last h ends = subst (Ends in_word) (sym (append_assoc (attribute_written a) (flat_map attribute_written xs) last)) (attribute_ends a (flat_map attribute_written xs ++ last) h.0)

abbrev stopped : ℕ → List ℕ → Stop Part
stopped quote inside = record { kind = part.Quote (length (quote ∷ inside)); left = 0 }

attribute_fails : (gap key inside : List ℕ) (quote : ℕ) → IsRunOfBytes is_blank gap → IsRunOfBytes in_key key → is_quote quote ≡ true → closing quote inside ≡ None → attribute_at (gap ++ (key ++ (61 ∷ quote ∷ inside))) ≡ Err (stopped quote inside)
unfolding attribute_at equals_at written_at
attribute_fails gap key inside quote is_gap key_run is_q none =
    let blanks = (Reads-some is_blank 32 refl).again gap (key ++ (61 ∷ quote ∷ inside)) is_gap (key_first key (61 ∷ quote ∷ inside) key_run) in
    let keys = (Reads-some in_key 97 refl).again key (61 ∷ quote ∷ inside) key_run refl in
    rw (blanks, keys, is_q, none) refl

rest_fails : (before : List Attribute) (last : List ℕ) (s : Stop Part) → AllByRecursion IsAttribute before → Ends in_word last → list_all is_blank last ≡ false → attribute_at last ≡ Err s → attributes_at (flat_map attribute_written before ++ last) ≡ Err s
rest_fails [] last s h ends some e = rest_stop last s some e
rest_fails (a ∷ before) last s h ends some e =
    let others = flat_map attribute_written before ++ last in
    let one = attribute_again a others h.0 (all_end before last h.1 ends) in
    ap attributes_at (append_assoc (attribute_written a) (flat_map attribute_written before) last)
    ∙ rest_next (attribute_written a ++ others) (a, others) (attribute_not_blank a others h.0) one
    ∙ ap (λ (r : Result Rest (Stop Part)). r >>= λ others. Ok (a ∷ others.0, others.1)) (rest_fails before last s h.1 ends some e)

line_fails : (before name : List ℕ) (payload : Option Payload) (rest : List ℕ) (s : Stop Part) → list_all is_blank before ≡ true → IsRunOfBytes in_word name → IsPayload payload → Ends in_word rest → payload_at rest ≡ Ok (None, rest) → attributes_at rest ≡ Err s
    → read_line (before ++ (name ++ (payload_written payload ++ rest))) ≡ Err s
unfolding read_line
line_fails before name payload rest s is_before is_name is_payload ends none fails =
    let behind = payload_written payload ++ rest in
    let blanks = run_again is_blank before (name ++ behind) is_before (word_first name behind is_name) in
    let word = (Reads-some in_word 97 refl).again name behind is_name (payload_starts payload rest is_payload ends) in
    let next = payload_written_again payload rest is_payload ends none in
    ap (λ (p : List ℕ × List ℕ). some_at in_word p.1 >>= name_line p.0) blanks
    ∙ ap (λ (r : Result (List ℕ × List ℕ) (Stop Part)). r >>= name_line before) word
    ∙ ap (λ (r : Result PayloadRead (Stop Part)). r >>= rest_line before name) next
    ∙ ap (λ (r : Result Rest (Stop Part)). r >>= λ others. Ok (line_of before name payload others)) fails

-- what stands inside has no closing quote
not_closing : (q : ℕ) (inside : List ℕ) → ((front more : List ℕ) → inside ≡ front ++ (q ∷ more) → stays_inside q front ≡ true → ⊥) → closing q inside ≡ None
not_closing q inside open_end = go (closing q inside) refl
  where
    go : (o : Option (List ℕ × List ℕ)) → closing q inside ≡ o → closing q inside ≡ None
    go None e = e
    go (Some x) e = let t = closing_takes q inside x e in absurd (open_end x.0 x.1 t.0 t.1)

pub open_told : (text : List ℕ) (place : ℕ) → EndsInQuote text place → read_line text ≡ Err (record { kind = part.Quote (length text - place); left = 0 })
open_told text place h =
    let line = h.line in
    let same : line_written line ≡ line_written (open_line line.before line.name line.payload line.attributes) = ap (λ (l : List ℕ). line.before ++ line.name ++ payload_written line.payload ++ flat_map attribute_written line.attributes ++ l) h.no_blanks in
    let last : List ℕ = h.gap ++ (h.key ++ (61 ∷ h.quote ∷ h.inside)) in
    let front : List ℕ = (line_written line ++ h.gap) ++ h.key ++ (61 ∷ []) in
    let spelled : text ≡ line.before ++ (line.name ++ (payload_written line.payload ++ (flat_map attribute_written line.attributes ++ last)))
    = h.written ∙ ap (λ (l : List ℕ). ((l ++ h.gap) ++ h.key ++ (61 ∷ [])) ++ (h.quote ∷ h.inside)) same ∙ front_text line.before line.name line.payload line.attributes h.gap h.key (h.quote ∷ h.inside) in
    let size : length text ≡ length front + length (h.quote ∷ h.inside) = ap length h.written ∙ length-append front (h.quote ∷ h.inside) in
    let left : length text - place ≡ length (h.quote ∷ h.inside) = omega (arith, size, h.at) in
    let value : attribute_at last ≡ Err (stopped h.quote h.inside) = attribute_fails h.gap h.key h.inside h.quote h.is_gap h.is_key h.quotes (not_closing h.quote h.inside h.open_end) in
    let ends = run_ends h.gap (h.key ++ (61 ∷ h.quote ∷ h.inside)) h.is_gap in
    let some = gap_not_blank h.gap h.key (61 ∷ h.quote ∷ h.inside) h.is_key in
    let none = payload_key h.gap h.key (h.quote ∷ h.inside) h.is_gap h.is_key in
    ap read_line spelled
    ∙ line_fails line.before line.name line.payload (flat_map attribute_written line.attributes ++ last) (stopped h.quote h.inside) h.is_line.before h.is_line.name h.is_line.payload
    (all_end line.attributes last h.is_line.attributes ends) (payload_none line.attributes last h.is_line.attributes none) (rest_fails line.attributes last (stopped h.quote h.inside) h.is_line.attributes ends some value)
    ∙ ap (λ (n : ℕ). Err (record { kind = part.Quote n; left = 0 })) (sym left)

-- ---- faults

pub left_within : (text : List ℕ) (s : Stop Part) → read_line text ≡ Err s → (s.left ≤ length text) × (opened s.kind ≤ length text)
left_within text s e = ((line_first text s e).0, go s.kind refl)
  where
    go : (k : Part) → s.kind ≡ k → opened k ≤ length text
    go part.Word h = omega arith
    go (part.Quote left) h = (line_open text s left e h).1

-- the program's answer is the fault of the text
pub fault_told : (text : List ℕ) (s : Stop Part) → read_line text ≡ Err s → IsFault text (fault_of (length text) s.kind s.left)
fault_told text s e = go s.kind refl
  where
    no_quote : (other : ℕ) → s.kind ≡ part.Word → EndsInQuote text other → ⊥
    no_quote other h o =
        let stop : Stop Part = record { kind = part.Quote (length text - other); left = 0 } in
        let same : stop ≡ s = err_same {A = Line} stop s (sym (open_told text other o) ∙ e) in
        let kinds : part.Quote (length text - other) ≡ part.Word = ap (λ (d : Stop Part). d.kind) same ∙ h in
        absurd cc

    goes_on : (left : ℕ) → s.kind ≡ part.Quote left → Begins IsLine text
    goes_on left h =
        let o = line_open text s left e h in
        let stop : Stop Part = record { kind = part.Quote (length text - (length text - left)); left = 0 } in
        let same : stop ≡ s = err_same {A = Line} stop s (sym (open_told text (length text - left) o.0) ∙ e) in
        let none : s.left ≡ 0 = sym (ap (λ (d : Stop Part). d.left) same) in
        let all : length text - s.left ≡ length text = omega (arith, none) in
        let first = (line_first text s e).1 in
        subst (Begins IsLine) (ap (λ (n : ℕ). take n text) all ∙ take_all (length text) text (omega arith)) first.begins

    go : (k : Part) → s.kind ≡ k → IsFault text (fault_of (length text) k s.left)
    go part.Word h = ((line_first text s e).1, λ other o. no_quote other h o, no_line text s e)
    go (part.Quote left) h = ((line_open text s left e h).0, goes_on left h, no_line text s e)
