-- A line is read as it is written, and goes wrong at the first place that no line continues.
use Rattle.std.proofs.Common.{◌≡◌, ℕ, ◌-◌, ◌≤◌, true, false, cond, eqb, List, [], ◌∷◌, ◌++◌, length, Option, Some, None, Result, Ok, Err, refl, sym, ap, subst, ◌∙◌, append_assoc, arith}
use Rattle.std.specs.List.{list_all, flat_map}
use Rattle.std.proofs.lemmas.Bool.{and_parts}
use Rattle.std.proofs.lemmas.List.{append-nil}
use Rattle.ips_text.specs.declared.refusal.Stop.{Stop}
use Rattle.ips_text.specs.Reading.{◌>>=◌, Reader, both, via, whole, IsFirstBad, run}
use Rattle.ips_text.proofs.Readers.{Reads, in_turn, Reads-via, ok_is, ok_not_err, whole_found, whole_only, whole_first}
use Rattle.ips_line.specs.declared.fault.Part.{Part}
use Rattle.ips_line.specs.declared.fault.Part.TheVariants as part
use Rattle.ips_line.specs.Line.{is_blank, in_word, IsRunOfBytes, Payload, payload_written, IsPayload, attribute_written, Line, line_written, IsWrittenLine, IsLine}
use Rattle.ips_line.specs.Reading.{some_at, attributes_at, payload_at, read_line}
use Rattle.ips_line.proofs.Runs.{itself, Reads-some}
use Rattle.ips_line.proofs.Listed.{Rest, rest_ends}
use Rattle.ips_line.proofs.Heads.{PayloadRead, Tail, tail_text, TailFits, tail_behind, tail_at, TailFollows, Reads-tail}
use Rattle.ips_text.proofs.Runs.{run_is, run_again, Ends}

-- ---- a line of its parts

abbrev Parts : Type 0
Parts = List ℕ × (List ℕ × Tail)

abbrev parts_text : Parts → List ℕ
parts_text p = p.0 ++ (p.1.0 ++ tail_text p.1.1)

abbrev PartsFit : Parts → Type 0
PartsFit p = (list_all is_blank p.0 ≡ true) × (IsRunOfBytes in_word p.1.0 × TailFits p.1.1)

abbrev PartsFollow : Parts → List ℕ → Type 0
PartsFollow p rest = Ends is_blank ((p.1.0 ++ tail_text p.1.1) ++ rest) × (Ends in_word (tail_text p.1.1 ++ rest) × TailFollows p.1.1 rest)

abbrev blanks_at : Reader Part (List ℕ)
blanks_at bytes = Ok (run is_blank bytes)

abbrev pub Cut : Type 0
Cut = List ℕ × List ℕ

blanks_takes : (bytes : List ℕ) (z : Cut) → blanks_at bytes ≡ Ok z → (bytes ≡ z.0 ++ z.1) × (list_all is_blank z.0 ≡ true) × Ends is_blank z.1
blanks_takes bytes z e =
    let r = run_is is_blank bytes in
    subst (λ (p : Cut). (bytes ≡ p.0 ++ p.1) × (list_all is_blank p.0 ≡ true) × Ends is_blank p.1) (ok_is {E = Stop Part} (run is_blank bytes) z e) (r.parts, r.all, r.ends)

Reads-blanks : Reads itself (λ x. list_all is_blank x ≡ true) (λ x rest. Ends is_blank rest) blanks_at
Reads-blanks = record {
  takes = blanks_takes;
  again = λ x rest fits fol. ap (λ (p : Cut). Ok p) (run_again is_blank x rest fits fol);
  head = λ x c tail more h. h;
  stops = λ bytes s e. absurd (ok_not_err (run is_blank bytes) s e);
}

abbrev no_tail : Tail
no_tail = (None, ([], []))

Reads-parts : Reads parts_text PartsFit PartsFollow (both blanks_at (both (some_at in_word) tail_at))
Reads-parts =
    let name = in_turn (Reads-some in_word 97 refl) Reads-tail no_tail (tt, (tt, refl)) in
    in_turn Reads-blanks name (97 ∷ [], no_tail) (refl, (tt, (tt, refl)))

abbrev pub made_line : Parts → Line
made_line p = record { before = p.0; name = p.1.0; payload = p.1.1.0; attributes = p.1.1.1.0; behind = p.1.1.1.1 }

abbrev pub unmade_line : Line → Parts
unmade_line line = (line.before, (line.name, (line.payload, (line.attributes, line.behind))))

pub line_text : (line : Line) → line_written line ≡ parts_text (unmade_line line)
line_text line =
    append_assoc ((line.before ++ line.name) ++ payload_written line.payload) (flat_map attribute_written line.attributes) line.behind
    ∙ append_assoc (line.before ++ line.name) (payload_written line.payload) (flat_map attribute_written line.attributes ++ line.behind)
    ∙ append_assoc line.before line.name (payload_written line.payload ++ (flat_map attribute_written line.attributes ++ line.behind))

abbrev pub line_at : Reader Part Line
line_at = via made_line (both blanks_at (both (some_at in_word) tail_at))

abbrev LineFollows : Line → List ℕ → Type 0
LineFollows line rest = PartsFollow (unmade_line line) rest

Reads-line : Reads line_written IsWrittenLine LineFollows line_at
Reads-line =
    Reads-via parts_text PartsFit PartsFollow (both blanks_at (both (some_at in_word) tail_at)) line_written IsWrittenLine made_line unmade_line Reads-parts
    (λ p h. (refl, record { before = h.0; name = h.1.0; payload = h.1.1.0; attributes = h.1.1.1.0; behind = h.1.1.1.1 }))
    (λ line h. (refl, (h.before, (h.name, (h.payload, (h.attributes, h.behind))))))
    line_text

-- ---- nothing follows a line

pub word_first : (name rest : List ℕ) → IsRunOfBytes in_word name → Ends is_blank (name ++ rest)
word_first [] rest h = absurd h
word_first (b ∷ name) rest h = no_blank b (and_parts (in_word b) (list_all in_word name) h).0
  where
    no_blank : (b : ℕ) → in_word b ≡ true → is_blank b ≡ false
    no_blank b h = grind arith

pub payload_starts : (p : Option Payload) (rest : List ℕ) → IsPayload p → Ends in_word rest → Ends in_word (payload_written p ++ rest)
payload_starts None rest h ends = ends
payload_starts (Some p) rest h ends = subst (Ends in_word) (sym (append_assoc p.gap p.word rest)) (gap_first p.gap (p.word ++ rest) h.0)
  where
    gap_first : (gap rest : List ℕ) → IsRunOfBytes is_blank gap → Ends in_word (gap ++ rest)
    gap_first [] rest h = absurd h
    gap_first (b ∷ gap) rest h = let blank = (and_parts (is_blank b) (list_all is_blank gap) h).0 in rw blank refl

line_ends : (line : Line) → IsWrittenLine line → LineFollows line []
line_ends line h =
    let t : Tail = (line.payload, (line.attributes, line.behind)) in (
      subst (Ends is_blank) (sym (append_assoc line.name (tail_text t) [])) (word_first line.name (tail_text t ++ []) h.name),
      (
        subst (Ends in_word) (sym (append-nil (tail_text t))) (payload_starts line.payload (flat_map attribute_written line.attributes ++ line.behind) h.payload (rest_ends line.attributes line.behind h.attributes h.behind)),
        refl,
      ),
    )

-- ---- the whole text

abbrev word_kind : Line → Part
word_kind line = part.Word

abbrev pub LineRead : Type 0
LineRead = Result Line (Stop Part)

abbrev pub line_of : List ℕ → List ℕ → Option Payload → Rest → Line
line_of before name payload others = record { before = before; name = name; payload = payload; attributes = others.0; behind = others.1 }

abbrev pub rest_line : List ℕ → List ℕ → PayloadRead → LineRead
rest_line before name payload = attributes_at payload.1 >>= λ others. Ok (line_of before name payload.0 others)

abbrev pub name_line : List ℕ → Cut → LineRead
name_line before name = payload_at name.1 >>= rest_line before name.0

abbrev Named : Type 0
Named = List ℕ × Tail

abbrev put_name : List ℕ → Tail × List ℕ → Result (Named × List ℕ) (Stop Part)
put_name name t = Ok ((name, t.0), t.1)

abbrev put_before : List ℕ → Named × List ℕ → Result (Parts × List ℕ) (Stop Part)
put_before before q = Ok ((before, q.0), q.1)

abbrev put_line : Parts × List ℕ → Result (Line × List ℕ) (Stop Part)
put_line p = Ok (made_line p.0, p.1)

abbrev all_of : Line × List ℕ → LineRead
all_of x = cond (eqb (length x.1) 0) (Ok x.0) (Err (record { kind = part.Word; left = length x.1 }))

abbrev whole_tail : List ℕ → List ℕ → Result (Tail × List ℕ) (Stop Part) → LineRead
whole_tail before name tail = ((tail >>= put_name name) >>= put_before before) >>= put_line >>= all_of

tail_same : (before name : List ℕ) (p : PayloadRead) (r : Result Rest (Stop Part)) → (r >>= λ others. Ok (line_of before name p.0 others)) ≡ whole_tail before name (r >>= λ others. Ok ((p.0, others), []))
tail_same before name p (Ok others) = refl
tail_same before name p (Err s) = refl

payload_same : (before : List ℕ) (name : Cut) (r : Result PayloadRead (Stop Part)) → (r >>= rest_line before name.0) ≡ whole_tail before name.0 (r >>= tail_behind)
payload_same before name (Ok p) = tail_same before name.0 p (attributes_at p.1)
payload_same before name (Err s) = refl

abbrev whole_name : List ℕ → Result Cut (Stop Part) → LineRead
whole_name before r = ((r >>= λ x. tail_at x.1 >>= put_name x.0) >>= put_before before) >>= put_line >>= all_of

name_same : (before : List ℕ) (r : Result Cut (Stop Part)) → (r >>= name_line before) ≡ whole_name before r
name_same before (Ok name) = payload_same before name (payload_at name.1)
name_same before (Err s) = refl

pub read_whole : (text : List ℕ) → read_line text ≡ whole word_kind line_at text
unfolding read_line
read_whole text = name_same (run is_blank text).0 (some_at in_word (run is_blank text).1)

pub line_found : (text : List ℕ) (line : Line) → read_line text ≡ Ok line → IsWrittenLine line × (text ≡ line_written line)
line_found text line e = whole_found line_written IsWrittenLine LineFollows line_at word_kind Reads-line text line (sym (read_whole text) ∙ e)

pub line_only : (line : Line) → IsWrittenLine line → read_line (line_written line) ≡ Ok line
line_only line h = read_whole (line_written line) ∙ whole_only line_written IsWrittenLine LineFollows line_at word_kind Reads-line line_ends line h

pub line_first : (text : List ℕ) (s : Stop Part) → read_line text ≡ Err s → (s.left ≤ length text) × IsFirstBad IsLine text (length text - s.left)
line_first text s e = whole_first line_written IsWrittenLine LineFollows line_at word_kind Reads-line line_ends text s (sym (read_whole text) ∙ e)

pub no_line : (text : List ℕ) (s : Stop Part) → read_line text ≡ Err s → IsLine text → ⊥
no_line text s e h = ok_not_err h.0 s (sym (line_only h.0 h.1) ∙ ap read_line (sym h.2) ∙ e)
