-- Bytes that can stand on a line of a text: what such a line says can, and so can its canonical spelling.
use Rattle.std.proofs.Common.{◌≡◌, ℕ, zero, suc, ◌<◌, Bool, true, false, cond, not, eqb, ◌||◌, List, [], ◌∷◌, ◌++◌, length, get_or, map, refl, sym, ap, subst, ◌∙◌, append_assoc, arith, take_at, drop_at}
use Rattle.std.specs.List.{list_all, flat_map, AllByRecursion}
use Rattle.std.specs.Str.{IsUtf8}
use Rattle.std.proofs.lemmas.Bool.{and_parts, eqb-true}
use Rattle.std.proofs.lemmas.List.{append-nil}
use Rattle.std.proofs.lemmas.Str.{IsUtf8-append, IsUtf8-take, IsUtf8-drop, IsUtf8-from_ascii, IsUtf8-past_char, IsCharBoundary-before_ascii, encode_ascii}
use Rattle.ips_text.proofs.Truths.{both_true}
use Rattle.ips_line.specs.declared.words.Pair.{Pair}
use Rattle.ips_line.specs.Line.{is_blank, is_escape, IsRunOfBytes, meant, Written, Plain, Quoted, written_text, value_of, IsWritten, Attribute, IsAttribute, attribute_written, Line, payload_written, pair_of, Said, Says}
use Rattle.ips_line.specs.Canonical.{is_escaped, escaped_byte, needs_quotes, value_text, pair_text}
use Rattle.ips_line.proofs.Runs.{low_blank}
use Rattle.ips_line.proofs.Quotes.{low_quote}
use Rattle.ips_line.proofs.Escapes.{low_escaped}
use Rattle.ips_line.proofs.Heads.{run_all, attribute_text}

-- the byte is no newline
abbrev pub other : ℕ → Bool
other b = not (eqb b 10)

-- the bytes can stand on a line: they are UTF-8 and have no newline
pub record CanStand (bytes : List ℕ) : Type 0 where
  pub text : IsUtf8 bytes
  pub single : list_all other bytes ≡ true

-- the byte is ASCII and no newline
pub record Plain_byte (b : ℕ) : Type 0 where
  pub ascii : b < 128
  pub other : other b ≡ true

-- ---- lists whose bytes all pass

all_joined : (p : ℕ → Bool) (xs ys : List ℕ) → list_all p xs ≡ true → list_all p ys ≡ true → list_all p (xs ++ ys) ≡ true
all_joined p [] ys h g = g
all_joined p (x ∷ xs) ys h g =
    let a = and_parts (p x) (list_all p xs) h in
    both_true (p x) (list_all p (xs ++ ys)) a.0 (all_joined p xs ys a.1 g)

all_parted : (p : ℕ → Bool) (xs ys : List ℕ) → list_all p (xs ++ ys) ≡ true → (list_all p xs ≡ true) × (list_all p ys ≡ true)
all_parted p [] ys h = (refl, h)
all_parted p (x ∷ xs) ys h =
    let a = and_parts (p x) (list_all p (xs ++ ys)) h in
    let more = all_parted p xs ys a.1 in
    (both_true (p x) (list_all p xs) a.0 more.0, more.1)

-- ---- UTF-8 before and behind an ASCII byte

one_ascii : (c : ℕ) → c < 128 → IsUtf8 (c ∷ [])
one_ascii c low = IsUtf8-from_ascii (c ∷ []) (λ i. go i)
  where
    go : (i : ℕ) → get_or (c ∷ []) i 0 < 128
    go zero = low
    go (suc i) = omega arith

ahead_ascii : (c : ℕ) (ys : List ℕ) → c < 128 → IsUtf8 ys → IsUtf8 (c ∷ ys)
ahead_ascii c ys low u = IsUtf8-append (c ∷ []) ys (one_ascii c low) u

past_ascii : (c : ℕ) (ys : List ℕ) → c < 128 → IsUtf8 (c ∷ ys) → IsUtf8 ys
past_ascii c ys low u = IsUtf8-past_char (c ∷ ys) ys c u (ap (λ (l : List ℕ). l ++ ys) (sym (encode_ascii c low)))

byte_there : (xs : List ℕ) (c : ℕ) (ys : List ℕ) → get_or (xs ++ (c ∷ ys)) (length xs) 0 ≡ c
byte_there [] c ys = refl
byte_there (x ∷ xs) c ys = byte_there xs c ys

there_within : (xs : List ℕ) (c : ℕ) (ys : List ℕ) → length xs < length (xs ++ (c ∷ ys))
there_within [] c ys = omega arith
there_within (x ∷ xs) c ys = omega (arith, there_within xs c ys)

cut_ascii : (xs : List ℕ) (c : ℕ) (ys : List ℕ) → c < 128 → IsUtf8 (xs ++ (c ∷ ys)) → IsUtf8 xs × IsUtf8 (c ∷ ys)
cut_ascii xs c ys low u =
    let b = IsCharBoundary-before_ascii (xs ++ (c ∷ ys)) (length xs) (there_within xs c ys) (omega (arith, byte_there xs c ys)) in (
      subst IsUtf8 (take_at xs (c ∷ ys) (length xs) refl) (IsUtf8-take (xs ++ (c ∷ ys)) (length xs) u b),
      subst IsUtf8 (drop_at xs (c ∷ ys) (length xs) refl) (IsUtf8-drop (xs ++ (c ∷ ys)) (length xs) u b),
    )

-- ---- parts

pub can_nil : CanStand []
can_nil = record { text = IsUtf8-from_ascii [] (λ i. omega arith); single = refl }

pub can_join : (xs ys : List ℕ) → CanStand xs → CanStand ys → CanStand (xs ++ ys)
can_join xs ys h g = record { text = IsUtf8-append xs ys h.text g.text; single = all_joined other xs ys h.single g.single }

pub can_ahead : (c : ℕ) (ys : List ℕ) → Plain_byte c → CanStand ys → CanStand (c ∷ ys)
can_ahead c ys plain h = record { text = ahead_ascii c ys plain.ascii h.text; single = both_true (other c) (list_all other ys) plain.other h.single }

pub can_past : (c : ℕ) (ys : List ℕ) → c < 128 → CanStand (c ∷ ys) → CanStand ys
can_past c ys low h = record { text = past_ascii c ys low h.text; single = (and_parts (other c) (list_all other ys) h.single).1 }

pub can_part : (xs : List ℕ) (c : ℕ) (ys : List ℕ) → c < 128 → CanStand (xs ++ (c ∷ ys)) → CanStand xs × CanStand (c ∷ ys)
can_part xs c ys low h =
    let u = cut_ascii xs c ys low h.text in
    let a = all_parted other xs (c ∷ ys) h.single in
    (record { text = u.0; single = a.0 }, record { text = u.1; single = a.1 })

-- ---- what stands between quotes

abbrev MeantText : ℕ → List ℕ → Type 0
MeantText q inside = (front : List ℕ) → IsUtf8 (front ++ inside) → IsUtf8 (front ++ meant q inside)

meant_text : (q : ℕ) (inside : List ℕ) → MeantText q inside
meant_text q [] = λ front u. u
meant_text q (b ∷ []) = λ front u. u
meant_text q (b ∷ c ∷ bytes) = λ front u. go (is_escape q b c) refl front u (meant_text q bytes) (meant_text q (c ∷ bytes))
  where
    go : (t : Bool) → is_escape q b c ≡ t → (front : List ℕ) → IsUtf8 (front ++ (b ∷ c ∷ bytes)) → MeantText q bytes → MeantText q (c ∷ bytes) → IsUtf8 (front ++ cond t (c ∷ meant q bytes) (b ∷ meant q (c ∷ bytes)))
    go true e front u behind later =
        let slash = eqb-true b 92 (and_parts (eqb b 92) (eqb c q || eqb c 92) e).0 in
        let low : b < 128 = omega arith in
        let cut = cut_ascii front b (c ∷ bytes) low u in
        let joined = IsUtf8-append front (c ∷ bytes) cut.0 (past_ascii b (c ∷ bytes) low cut.1) in
        subst IsUtf8 (append_assoc front (c ∷ []) (meant q bytes)) (behind (front ++ (c ∷ [])) (subst IsUtf8 (sym (append_assoc front (c ∷ []) bytes)) joined))
    go false e front u behind later =
        subst IsUtf8 (append_assoc front (b ∷ []) (meant q (c ∷ bytes))) (later (front ++ (b ∷ [])) (subst IsUtf8 (sym (append_assoc front (b ∷ []) (c ∷ bytes))) u))

meant_single : (q : ℕ) (inside : List ℕ) → list_all other inside ≡ true → list_all other (meant q inside) ≡ true
meant_single q [] h = h
meant_single q (b ∷ []) h = h
meant_single q (b ∷ c ∷ bytes) h =
    let p = and_parts (other b) (list_all other (c ∷ bytes)) h in
    let r = and_parts (other c) (list_all other bytes) p.1 in
    go (is_escape q b c) p.0 r.0 (meant_single q bytes r.1) (meant_single q (c ∷ bytes) p.1)
  where
    go : (t : Bool) → other b ≡ true → other c ≡ true → list_all other (meant q bytes) ≡ true → list_all other (meant q (c ∷ bytes)) ≡ true → list_all other (cond t (c ∷ meant q bytes) (b ∷ meant q (c ∷ bytes))) ≡ true
    go true first second behind later = both_true (other c) (list_all other (meant q bytes)) second behind
    go false first second behind later = both_true (other b) (list_all other (meant q (c ∷ bytes))) first later

can_meant : (q : ℕ) (inside : List ℕ) → CanStand inside → CanStand (meant q inside)
can_meant q inside h = record { text = meant_text q inside [] h.text; single = meant_single q inside h.single }

abbrev EscapedText : List ℕ → Type 0
EscapedText value = (front : List ℕ) → IsUtf8 (front ++ value) → IsUtf8 (front ++ flat_map escaped_byte value)

escaped_text : (value : List ℕ) → EscapedText value
escaped_text [] = λ front u. u
escaped_text (b ∷ bytes) = λ front u. go (is_escaped b) refl front u (escaped_text bytes)
  where
    go : (t : Bool) → is_escaped b ≡ t → (front : List ℕ) → IsUtf8 (front ++ (b ∷ bytes)) → EscapedText bytes → IsUtf8 (front ++ (cond t (92 ∷ b ∷ []) (b ∷ []) ++ flat_map escaped_byte bytes))
    go true e front u more =
        let low = low_escaped b e in
        let cut = cut_ascii front b bytes low u in
        let escape : List ℕ = 92 ∷ b ∷ [] in
        let before = IsUtf8-append front escape cut.0 (ahead_ascii 92 (b ∷ []) (omega arith) (one_ascii b low)) in
        subst IsUtf8 (append_assoc front escape (flat_map escaped_byte bytes)) (more (front ++ escape) (IsUtf8-append (front ++ escape) bytes before (past_ascii b bytes low cut.1)))
    go false e front u more =
        subst IsUtf8 (append_assoc front (b ∷ []) (flat_map escaped_byte bytes)) (more (front ++ (b ∷ [])) (subst IsUtf8 (sym (append_assoc front (b ∷ []) bytes)) u))

escaped_single : (value : List ℕ) → list_all other value ≡ true → list_all other (flat_map escaped_byte value) ≡ true
escaped_single [] h = refl
escaped_single (b ∷ bytes) h =
    let p = and_parts (other b) (list_all other bytes) h in
    all_joined other (escaped_byte b) (flat_map escaped_byte bytes) (go (is_escaped b) p.0) (escaped_single bytes p.1)
  where
    go : (t : Bool) → other b ≡ true → list_all other (cond t (92 ∷ b ∷ []) (b ∷ [])) ≡ true
    go true first = both_true (other b) true first refl
    go false first = both_true (other b) true first refl

-- ---- the canonical spelling

plain_quote : Plain_byte 34
plain_quote = record { ascii = omega arith; other = refl }

pub plain_blank : Plain_byte 32
plain_blank = record { ascii = omega arith; other = refl }

plain_equals : Plain_byte 61
plain_equals = record { ascii = omega arith; other = refl }

can_value : (value : List ℕ) → CanStand value → CanStand (value_text value)
can_value value h = go (needs_quotes value)
  where
    inside : CanStand (flat_map escaped_byte value)
    inside = record { text = escaped_text value [] h.text; single = escaped_single value h.single }

    go : (t : Bool) → CanStand (cond t (34 ∷ (flat_map escaped_byte value ++ (34 ∷ []))) value)
    go true = can_ahead 34 (flat_map escaped_byte value ++ (34 ∷ [])) plain_quote (can_join (flat_map escaped_byte value) (34 ∷ []) inside (can_ahead 34 [] plain_quote can_nil))
    go false = h

-- the key and the value can stand on a line
pub record CanPair (p : Pair) : Type 0 where
  pub key : CanStand p.key
  pub value : CanStand p.value

can_pair : (p : Pair) → CanPair p → CanStand (pair_text p)
can_pair p h = can_ahead 32 (p.key ++ (61 ∷ value_text p.value)) plain_blank (can_join p.key (61 ∷ value_text p.value) h.key (can_ahead 61 (value_text p.value) plain_equals (can_value p.value h.value)))

can_pairs : (pairs : List Pair) → AllByRecursion CanPair pairs → CanStand (flat_map pair_text pairs)
can_pairs [] h = can_nil
can_pairs (p ∷ pairs) h = can_join (pair_text p) (flat_map pair_text pairs) (can_pair p h.0) (can_pairs pairs h.1)

-- a canonical line can stand on a line where its parts can
pub can_words : (name payload : List ℕ) (pairs : List Pair) → CanStand name → CanStand payload → AllByRecursion CanPair pairs → CanStand ((name ++ payload) ++ flat_map pair_text pairs)
can_words name payload pairs h g all = can_join (name ++ payload) (flat_map pair_text pairs) (can_join name payload h g) (can_pairs pairs all)

-- ---- what a line says

past_blanks : (gap rest : List ℕ) → list_all is_blank gap ≡ true → CanStand (gap ++ rest) → CanStand rest
past_blanks [] rest h c = c
past_blanks (b ∷ gap) rest h c =
    let p = and_parts (is_blank b) (list_all is_blank gap) h in
    past_blanks gap rest p.1 (can_past b (gap ++ rest) (low_blank b p.0) c)

-- there are no bytes, or a blank stands first
abbrev Starts : List ℕ → Type 0
Starts [] = Unit {0}
Starts (b ∷ rest) = is_blank b ≡ true

cut_before : (xs rest : List ℕ) → Starts rest → CanStand (xs ++ rest) → CanStand xs × CanStand rest
cut_before xs [] s c = (subst CanStand (append-nil xs) c, can_nil)
cut_before xs (b ∷ rest) s c = can_part xs b rest (low_blank b s) c

starts_run : (gap rest : List ℕ) → IsRunOfBytes is_blank gap → Starts (gap ++ rest)
starts_run [] rest h = absurd h
starts_run (b ∷ gap) rest h = (and_parts (is_blank b) (list_all is_blank gap) h).0

attributes_split : (a : Attribute) (attributes : List Attribute) (behind : List ℕ)
    → flat_map attribute_written (a ∷ attributes) ++ behind ≡ a.gap ++ (a.key ++ (61 ∷ (written_text a.value ++ (flat_map attribute_written attributes ++ behind))))
attributes_split a attributes behind =
    append_assoc (attribute_written a) (flat_map attribute_written attributes) behind
    ∙ attribute_text a (flat_map attribute_written attributes ++ behind)

starts_blanks : (behind : List ℕ) → list_all is_blank behind ≡ true → Starts behind
starts_blanks [] g = tt
starts_blanks (b ∷ behind) g = (and_parts (is_blank b) (list_all is_blank behind) g).0

starts_attributes : (attributes : List Attribute) (behind : List ℕ) → AllByRecursion IsAttribute attributes → list_all is_blank behind ≡ true → Starts (flat_map attribute_written attributes ++ behind)
starts_attributes [] behind h g = starts_blanks behind g
starts_attributes (a ∷ attributes) behind h g =
    subst Starts (sym (attributes_split a attributes behind)) (starts_run a.gap (a.key ++ (61 ∷ (written_text a.value ++ (flat_map attribute_written attributes ++ behind)))) h.0.gap)

can_written : (w : Written) (rest : List ℕ) → IsWritten w → Starts rest → CanStand (written_text w ++ rest) → CanStand (value_of w) × CanStand rest
can_written (Plain bytes) rest i s c = cut_before bytes rest s c
can_written (Quoted q inside) rest i s c =
    let p = cut_before (q ∷ (inside ++ (q ∷ []))) rest s c in
    let low = low_quote q i.0 in
    let inner = can_past q (inside ++ (q ∷ [])) low p.0 in
    (can_meant q inside (can_part inside q [] low inner).0, p.1)

-- the key and the value of a written attribute can stand on a line
record CanAttribute (a : Attribute) : Type 0 where
  key : CanStand a.key
  value : CanStand (value_of a.value)

can_attributes : (attributes : List Attribute) (behind : List ℕ) → AllByRecursion IsAttribute attributes → list_all is_blank behind ≡ true → CanStand (flat_map attribute_written attributes ++ behind) → AllByRecursion CanAttribute attributes
can_attributes [] behind h g c = tt
can_attributes (a ∷ attributes) behind h g c =
    let rest : List ℕ = flat_map attribute_written attributes ++ behind in
    let valued : List ℕ = written_text a.value ++ rest in
    let ungapped = past_blanks a.gap (a.key ++ (61 ∷ valued)) (run_all is_blank a.gap h.0.gap) (subst CanStand (attributes_split a attributes behind) c) in
    let keyed = can_part a.key 61 valued (omega arith) ungapped in
    let cut = can_written a.value rest h.0.value (starts_attributes attributes behind h.1 g) (can_past 61 valued (omega arith) keyed.1) in
    (record { key = keyed.0; value = cut.0 }, can_attributes attributes behind h.1 g cut.1)

said_can : (attributes : List Attribute) → AllByRecursion CanAttribute attributes → AllByRecursion CanPair (map pair_of attributes)
said_can [] h = tt
said_can (a ∷ attributes) h = (record { key = h.0.key; value = h.0.value }, said_can attributes h.1)

-- the keys and values of a line that can stand on a line
pub says_can : (said : Said) (text : List ℕ) → Says said text → CanStand text → AllByRecursion CanPair said.pairs
says_can said text s c =
    let line : Line = s.0 in
    let front : List ℕ = line.before ++ line.name ++ payload_written line.payload in
    let rest : List ℕ = flat_map attribute_written line.attributes ++ line.behind in
    let cut = subst CanStand (s.3 ∙ append_assoc front (flat_map attribute_written line.attributes) line.behind) c in
    let parts = cut_before front rest (starts_attributes line.attributes line.behind s.1.attributes s.1.behind) cut in
    subst (λ (x : Said). AllByRecursion CanPair x.pairs) s.2 (said_can line.attributes (can_attributes line.attributes line.behind s.1.attributes s.1.behind parts.1))
