-- The canonical line of words is a line that says them.
use Rattle.std.proofs.Common.{◌≡◌, ℕ, ◌+◌, Bool, true, false, cond, ◌||◌, eqb, List, [], ◌∷◌, ◌++◌, length, Option, Some, None, Ok, refl, sym, ap, ◌∙◌, arith}
use Rattle.std.specs.Prelude.{map}
use Rattle.std.specs.List.{list_all, list_any, flat_map, AllByRecursion}
use Rattle.std.proofs.lemmas.Bool.{true≢false}
use Rattle.std.proofs.lemmas.List.{append-nil}
use Rattle.ips_text.proofs.Readers.{ok_is}
use Rattle.ips_line.specs.declared.words.Pair.{Pair}
use Rattle.ips_line.specs.declared.fault.WordFault.{WordFault}
use Rattle.ips_line.specs.Line.{is_quote, in_word, in_key, IsRunOfBytes, is_escape, meant, stays_inside, Written, Plain, Quoted, written_text, IsPlain, IsWritten, value_of, Payload, Attribute, Line, payload_written, attribute_written, line_written, IsPayload, IsAttribute, IsWrittenLine, Placed, Said, payload_of, pair_of, words_of}
use Rattle.ips_line.specs.Canonical.{is_escaped, escaped_byte, is_special, needs_quotes, value_text, pair_text, payload_text, words_text, IfPayload, AreWords, payload_placed, canonical_words}
use Rattle.ips_line.specs.Reading.{read_line, placed, read_words}
use Rattle.ips_line.proofs.Whole.{line_only}

-- ---- values

escape_told : (b : ℕ) → is_escaped b ≡ true → is_escape 34 92 b ≡ true
escape_told b h = h

no_quote : (b : ℕ) → is_escaped b ≡ false → (eqb b 34 ≡ false) × (eqb b 92 ≡ false)
no_quote b h = or_false (eqb b 34) (eqb b 92) h
  where
    or_false : (x y : Bool) → (x || y) ≡ false → (x ≡ false) × (y ≡ false)
    or_false false y e = (refl, e)
    or_false true y e = absurd (true≢false e)

stays_next : (b : ℕ) (rest : List ℕ) → is_escaped b ≡ false → stays_inside 34 rest ≡ true → stays_inside 34 (b ∷ rest) ≡ true
stays_next b [] h more = let n = no_quote b h in rw (n.0, n.1) refl
stays_next b (c ∷ rest) h more = let n = no_quote b h in rw (n.0, n.1) more

meant_next : (b : ℕ) (rest : List ℕ) → is_escaped b ≡ false → meant 34 (b ∷ rest) ≡ b ∷ meant 34 rest
meant_next b [] h = refl
meant_next b (c ∷ rest) h = let n = no_quote b h in rw (n.1) refl

escaped_stays : (value : List ℕ) → stays_inside 34 (flat_map escaped_byte value) ≡ true
escaped_stays [] = refl
escaped_stays (b ∷ value) = go (is_escaped b) refl (escaped_stays value)
  where
    go : (t : Bool) → is_escaped b ≡ t → stays_inside 34 (flat_map escaped_byte value) ≡ true → stays_inside 34 (escaped_byte b ++ flat_map escaped_byte value) ≡ true
    go true e more = rw e (rw e more)
    go false e more = rw e (stays_next b (flat_map escaped_byte value) e more)

escaped_meant : (value : List ℕ) → meant 34 (flat_map escaped_byte value) ≡ value
escaped_meant [] = refl
escaped_meant (b ∷ value) = go (is_escaped b) refl (escaped_meant value)
  where
    go : (t : Bool) → is_escaped b ≡ t → meant 34 (flat_map escaped_byte value) ≡ value → meant 34 (escaped_byte b ++ flat_map escaped_byte value) ≡ b ∷ value
    go true e more = rw e (rw e (ap (λ (l : List ℕ). b ∷ l) more))
    go false e more = rw e (meant_next b (flat_map escaped_byte value) e ∙ ap (λ (l : List ℕ). b ∷ l) more)

-- how the canonical spelling writes a value
written_of : List ℕ → Written
written_of value = cond (needs_quotes value) (Quoted 34 (flat_map escaped_byte value)) (Plain value)

special_word : (b : ℕ) → is_special b ≡ false → in_word b ≡ true
special_word b h = grind arith

special_quote : (b : ℕ) → is_special b ≡ false → is_quote b ≡ false
special_quote b h = grind arith

plain_word : (value : List ℕ) → list_any is_special value ≡ false → list_all in_word value ≡ true
plain_word [] h = refl
plain_word (b ∷ value) h = go (is_special b) refl h (plain_word value)
  where
    go : (t : Bool) → is_special b ≡ t → list_any is_special (b ∷ value) ≡ false → (list_any is_special value ≡ false → list_all in_word value ≡ true) → list_all in_word (b ∷ value) ≡ true
    go true e h more = absurd (true≢false (rw e at h))
    go false e h more = let first = special_word b e in let others = more (rw e at h) in rw (first, others) refl

first_special : (b : ℕ) (value : List ℕ) → list_any is_special (b ∷ value) ≡ false → is_special b ≡ false
first_special b value h = go (is_special b) refl h
  where
    go : (t : Bool) → is_special b ≡ t → list_any is_special (b ∷ value) ≡ false → is_special b ≡ false
    go true e h = absurd (true≢false (rw e at h))
    go false e h = e

plain_value : (value : List ℕ) → needs_quotes value ≡ false → IsPlain value
plain_value [] h = absurd (true≢false h)
plain_value (b ∷ value) h = (special_quote b (first_special b value h), plain_word (b ∷ value) h)

record Spells (value : List ℕ) : Type 0 where
  text : written_text (written_of value) ≡ value_text value
  fits : IsWritten (written_of value)
  means : value_of (written_of value) ≡ value

spells : (value : List ℕ) → Spells value
unfolding written_of
spells value = go (needs_quotes value) refl
  where
    go : (t : Bool) → needs_quotes value ≡ t → Spells value
    go true e = record { text = rw e refl; fits = rw e (refl, escaped_stays value); means = rw e (escaped_meant value) }
    go false e = record { text = rw e refl; fits = rw e (plain_value value e); means = rw e refl }

-- ---- lines

payload_line : Option (List ℕ) → Option Payload
payload_line None = None
payload_line (Some word) = Some (record { gap = 32 ∷ []; word = word })

attribute_line : Pair → Attribute
attribute_line p = record { gap = 32 ∷ []; key = p.key; value = written_of p.value }

attribute_lines : List Pair → List Attribute
attribute_lines [] = []
attribute_lines (p ∷ pairs) = attribute_line p ∷ attribute_lines pairs

line_of : List ℕ → Option (List ℕ) → List Pair → Line
line_of name payload pairs = record { before = []; name = name; payload = payload_line payload; attributes = attribute_lines pairs; behind = [] }

payload_same : (payload : Option (List ℕ)) → payload_written (payload_line payload) ≡ payload_text payload
unfolding payload_line
payload_same None = refl
payload_same (Some word) = refl

attributes_same : (pairs : List Pair) → flat_map attribute_written (attribute_lines pairs) ≡ flat_map pair_text pairs
unfolding attribute_lines attribute_line
attributes_same [] = refl
attributes_same (p ∷ pairs) =
    let one = (spells p.value).text in
    let more = attributes_same pairs in
    ap (λ (l : List ℕ). ((32 ∷ p.key) ++ (61 ∷ l)) ++ flat_map attribute_written (attribute_lines pairs)) one ∙ ap (λ (l : List ℕ). pair_text p ++ l) more

text_same : (name : List ℕ) (payload : Option (List ℕ)) (pairs : List Pair) → line_written (line_of name payload pairs) ≡ words_text name payload pairs
unfolding line_of
text_same name payload pairs =
    append-nil ((name ++ payload_written (payload_line payload)) ++ flat_map attribute_written (attribute_lines pairs))
    ∙ ap (λ (l : List ℕ). (name ++ l) ++ flat_map attribute_written (attribute_lines pairs)) (payload_same payload)
    ∙ ap (λ (l : List ℕ). (name ++ payload_text payload) ++ l) (attributes_same pairs)

payload_fits : (payload : Option (List ℕ)) → IfPayload payload → IsPayload (payload_line payload)
unfolding payload_line
payload_fits None h = tt
payload_fits (Some word) h = (refl, h)

attributes_fit : (pairs : List Pair) → AllByRecursion (λ (p : Pair). IsRunOfBytes in_key p.key) pairs → AllByRecursion IsAttribute (attribute_lines pairs)
unfolding attribute_lines attribute_line
attributes_fit [] h = tt
attributes_fit (p ∷ pairs) h = (record { gap = refl; key = h.0; value = (spells p.value).fits }, attributes_fit pairs h.1)

line_fits : (name : List ℕ) (payload : Option (List ℕ)) (pairs : List Pair) → AreWords name payload pairs → IsWrittenLine (line_of name payload pairs)
unfolding line_of
line_fits name payload pairs h = record { before = refl; name = h.is_name; payload = payload_fits payload h.is_payload; attributes = attributes_fit pairs h.are_keys; behind = refl }

payload_says : (name : List ℕ) (payload : Option (List ℕ)) → payload_of (0 + length name) (payload_line payload) ≡ payload_placed name payload
unfolding payload_line
payload_says name None = refl
payload_says name (Some word) =
    let place : (0 + length name) + 1 ≡ length name + 1 = omega arith in
    ap (λ (n : ℕ). Some (record { text = word; place = n })) place

pairs_say : (pairs : List Pair) → map pair_of (attribute_lines pairs) ≡ pairs
unfolding attribute_lines attribute_line
pairs_say [] = refl
pairs_say (p ∷ pairs) =
    let one : (let q : Pair = record { key = p.key; value = value_of (written_of p.value) } in q) ≡ p = ap (λ (v : List ℕ). record { key = p.key; value = v }) (spells p.value).means in
    let more = pairs_say pairs in
    ap (λ (q : Pair). q ∷ map pair_of (attribute_lines pairs)) one ∙ ap (λ (l : List Pair). p ∷ l) more

says : (name : List ℕ) (payload : Option (List ℕ)) (pairs : List Pair) → words_of (line_of name payload pairs) ≡ canonical_words name payload pairs
unfolding line_of
says name payload pairs =
    ap (λ (p : Option Placed). record { name = record { text = name; place = 0 }; payload = p; pairs = map pair_of (attribute_lines pairs) }) (payload_says name payload)
    ∙ ap (λ (l : List Pair). canonical_words name payload l) (pairs_say pairs)

pub reads_back : (name : List ℕ) (payload : Option (List ℕ)) (pairs : List Pair) → AreWords name payload pairs → read_words (words_text name payload pairs) ≡ Ok (canonical_words name payload pairs)
unfolding read_words
reads_back name payload pairs h =
    let line = line_of name payload pairs in
    let read : read_line (words_text name payload pairs) ≡ Ok line = ap read_line (sym (text_same name payload pairs)) ∙ line_only line (line_fits name payload pairs h) in
    ap (placed (words_text name payload pairs)) read ∙ ap (λ (s : Said). Ok s) (says name payload pairs)

-- ---- no two have one line

abbrev texts : Option Placed → Option (List ℕ)
texts None = None
texts (Some p) = Some p.text

payload_texts : (name : List ℕ) (payload : Option (List ℕ)) → texts (payload_placed name payload) ≡ payload
payload_texts name None = refl
payload_texts name (Some w) = refl

payload_one : (name other : List ℕ) (payload another : Option (List ℕ)) → payload_placed name payload ≡ payload_placed other another → payload ≡ another
payload_one name other payload another e = sym (payload_texts name payload) ∙ ap texts e ∙ payload_texts other another

pub one_line : (name other : List ℕ) (payload another : Option (List ℕ)) (pairs others : List Pair) → AreWords name payload pairs → AreWords other another others → words_text name payload pairs ≡ words_text other another others
    → (name ≡ other) × (payload ≡ another) × (pairs ≡ others)
one_line name other payload another pairs others h g e =
    let same = ok_is {E = WordFault} (canonical_words name payload pairs) (canonical_words other another others) (sym (reads_back name payload pairs h) ∙ ap read_words e ∙ reads_back other another others g) in (
      ap (λ (s : Said). s.name.text) same,
      payload_one name other payload another (ap (λ (s : Said). s.payload) same),
      ap (λ (s : Said). s.pairs) same,
    )
