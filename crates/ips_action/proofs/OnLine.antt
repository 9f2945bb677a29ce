-- The canonical line of an action that a line means can stand on a line, where that line can.
use Rattle.std.proofs.Common.{◌≡◌, ℕ, zero, suc, ◌<◌, Bool, true, false, cond, not, eqb, ltb, ◌&&◌, List, [], ◌∷◌, map, length, get_or, Option, Some, None, refl, sym, ap, subst, ◌∙◌, arith}
use Rattle.std.specs.Prelude.{filter}
use Rattle.std.specs.List.{list_all, AllByRecursion}
use Rattle.std.proofs.lemmas.Bool.{and_parts, eqb-true, ltb-true, ne_eqb, true≢false}
use Rattle.std.proofs.lemmas.List.Elements.{recursion_from_All}
use Rattle.ips_digest.specs.declared.name.PayloadName.{PayloadName}
use Rattle.ips_digest.specs.Name.{IsName, is_lower_digit, spelling}
use Rattle.ips_text.proofs.Truths.{both_true}
use Rattle.ips_text.proofs.Lists.{all_append}
use Rattle.ips_line.specs.declared.words.Pair.{Pair}
use Rattle.ips_line.specs.Line.{Said, Says}
use Rattle.ips_line.specs.Canonical.{payload_text}
use Rattle.ips_line.proofs.OnLine.{CanStand, CanPair, Plain_byte, can_nil, can_ahead, can_past, plain_blank, can_words, says_can}
use Rattle.ips_action.specs.declared.kind.ActionKind.{ActionKind}
use Rattle.ips_action.specs.declared.kind.ActionKind.TheVariants.{Set, Depend, Dir, File, Link, Hardlink, User, Group, Driver, License, Legacy, Signature}
use Rattle.ips_action.specs.Attrs.{Attr}
use Rattle.ips_action.specs.Kind.{kind_name}
use Rattle.ips_action.specs.Attrs.{is_same, AreAttrs, values_in, Gathers}
use Rattle.ips_action.specs.Action.{Fields, IfName, payload_word, pairs_of, pairs_of_one, line_text}
use Rattle.ips_action.specs.Meaning.{is_path_key, without_slashes, held, Means}
use Rattle.ips_action.proofs.KeyOrder.{same_true, self_equal}
use Rattle.ips_action.proofs.Found.{found_at}
use Rattle.ips_action.proofs.Spelled.{low_digit, spelled_so}

-- ---- names of kinds and of payloads

abbrev letter : ℕ → Bool
letter b = ltb 96 b && ltb b 123

letter_plain : (b : ℕ) → letter b ≡ true → Plain_byte b
letter_plain b e =
    let p = and_parts (ltb 96 b) (ltb b 123) e in
    let above = ltb-true 96 b p.0 in
    let below = ltb-true b 123 p.1 in
    record { ascii = omega arith; other = ap not (ne_eqb b 10 (λ same. absurd (omega arith))) }

letters_can : (bytes : List ℕ) → list_all letter bytes ≡ true → CanStand bytes
letters_can [] h = can_nil
letters_can (b ∷ bytes) h =
    let p = and_parts (letter b) (list_all letter bytes) h in
    can_ahead b bytes (letter_plain b p.0) (letters_can bytes p.1)

name_can : (kind : ActionKind) → CanStand (kind_name kind)
name_can Set = letters_can (kind_name Set) refl
name_can Depend = letters_can (kind_name Depend) refl
name_can Dir = letters_can (kind_name Dir) refl
name_can File = letters_can (kind_name File) refl
name_can Link = letters_can (kind_name Link) refl
name_can Hardlink = letters_can (kind_name Hardlink) refl
name_can User = letters_can (kind_name User) refl
name_can Group = letters_can (kind_name Group) refl
name_can Driver = letters_can (kind_name Driver) refl
name_can License = letters_can (kind_name License) refl
name_can Legacy = letters_can (kind_name Legacy) refl
name_can Signature = letters_can (kind_name Signature) refl

high_digit : (b : ℕ) → is_lower_digit b ≡ true → 10 < b
high_digit b e = grind arith

digit_plain : (b : ℕ) → is_lower_digit b ≡ true → Plain_byte b
digit_plain b e =
    let above = high_digit b e in
    record { ascii = low_digit b e; other = ap not (ne_eqb b 10 (λ same. absurd (omega arith))) }

digits_can : (bytes : List ℕ) → list_all is_lower_digit bytes ≡ true → CanStand bytes
digits_can [] h = can_nil
digits_can (b ∷ bytes) h =
    let p = and_parts (is_lower_digit b) (list_all is_lower_digit bytes) h in
    can_ahead b bytes (digit_plain b p.0) (digits_can bytes p.1)

all_digits : (text : List ℕ) → AllByRecursion (λ b. is_lower_digit b ≡ true) text → list_all is_lower_digit text ≡ true
all_digits [] h = refl
all_digits (b ∷ text) h = both_true (is_lower_digit b) (list_all is_lower_digit text) h.0 (all_digits text h.1)

decided : (t : Bool) → ((t ≡ true → ⊥) → ⊥) → t ≡ true
decided true h = refl
decided false h = absurd (h (λ e. true≢false (sym e)))

spelling_can : (name : PayloadName) → IsName name → CanStand (spelling name)
spelling_can name h =
    digits_can (spelling name) (decided (list_all is_lower_digit (spelling name)) (λ none. spelled_so name (spelling name) h refl
    (λ digits. none (all_digits (spelling name) (recursion_from_All (λ b. is_lower_digit b ≡ true) (spelling name) digits.digits)))))

word_can : (payload : Option PayloadName) → IfName payload → CanStand (payload_text (payload_word payload))
word_can None h = can_nil
word_can (Some name) h = can_ahead 32 (spelling name) plain_blank (spelling_can name h)

-- ---- the `key=value` as an action holds them

bare_can : (path : List ℕ) → CanStand path → CanStand (without_slashes path)
bare_can [] c = c
bare_can (b ∷ bytes) c = go (eqb b 47) refl (bare_can bytes)
  where
    go : (t : Bool) → eqb b 47 ≡ t → (CanStand bytes → CanStand (without_slashes bytes)) → CanStand (cond t (without_slashes bytes) (b ∷ bytes))
    go true e more = let slash = eqb-true b 47 e in more (can_past b bytes (omega arith) c)
    go false e more = c

held_can : (kind : ActionKind) (p : Pair) → CanPair p → CanPair (held kind p)
held_can kind p h = record { key = h.key; value = go (is_path_key kind p.key) }
  where
    go : (t : Bool) → CanStand (cond t (without_slashes p.value) p.value)
    go true = bare_can p.value h.value
    go false = h.value

all_held_can : (kind : ActionKind) (pairs : List Pair) → AllByRecursion CanPair pairs → AllByRecursion CanPair (map (held kind) pairs)
all_held_can kind [] h = tt
all_held_can kind (p ∷ pairs) h = (held_can kind p h.0, all_held_can kind pairs h.1)

-- ---- the attributes that they give

values_can : (key : List ℕ) (pairs : List Pair) → AllByRecursion CanPair pairs → AllByRecursion CanStand (values_in key pairs)
values_can key [] h = tt
values_can key (p ∷ pairs) h = go (is_same p.key key) (values_can key pairs h.1)
  where
    go : (t : Bool) → AllByRecursion CanStand (values_in key pairs)
        → AllByRecursion CanStand (map (λ (q : Pair). q.value) (cond t (p ∷ filter (λ (q : Pair). is_same q.key key) pairs) (filter (λ (q : Pair). is_same q.key key) pairs)))
    go true more = (h.0.value, more)
    go false more = more

key_can : (key : List ℕ) (pairs : List Pair) → AllByRecursion CanPair pairs → 0 < length (values_in key pairs) → CanStand key
key_can key [] h some = let none : 0 < 0 = some in absurd (omega arith)
key_can key (p ∷ pairs) h some = go (is_same p.key key) refl some (key_can key pairs h.1)
  where
    go : (t : Bool) → is_same p.key key ≡ t → 0 < length (map (λ (q : Pair). q.value) (cond t (p ∷ filter (λ (q : Pair). is_same q.key key) pairs) (filter (λ (q : Pair). is_same q.key key) pairs)))
        → (0 < length (values_in key pairs) → CanStand key) → CanStand key
    go true e there more = subst CanStand (same_true p.key key e) h.0.key
    go false e there more = more there

some_values : (attrs : List Attr) → AreAttrs attrs → (k : ℕ) (d : Attr) → k < length attrs → 0 < length (get_or attrs k d).values
some_values [] h k d lt = absurd (omega arith)
some_values (a ∷ attrs) h zero d lt = h.0
some_values (a ∷ attrs) h (suc k) d lt = some_values attrs h.2 k d (omega arith)

-- the key and the values of an attribute can stand on a line
record CanAttr (attr : Attr) : Type 0 where
  key : CanStand attr.key
  values : AllByRecursion CanStand attr.values

attr_can : (attrs : List Attr) (pairs : List Pair) → AreAttrs attrs → Gathers pairs attrs → AllByRecursion CanPair pairs → (k : ℕ) (d : Attr) → k < length attrs → CanAttr (get_or attrs k d)
attr_can attrs pairs ordered gathers all k d lt =
    let attr : Attr = get_or attrs k d in
    let there : attr.values ≡ values_in attr.key pairs = sym (found_at attrs attr.key k d ordered lt (self_equal attr.key)) ∙ gathers attr.key in
    record {
      key = key_can attr.key pairs all (subst (λ (l : List (List ℕ)). 0 < length l) there (some_values attrs ordered k d lt));
      values = subst (AllByRecursion CanStand) (sym there) (values_can attr.key pairs all);
    }

one_can : (key : List ℕ) (values : List (List ℕ)) → CanStand key → AllByRecursion CanStand values → AllByRecursion CanPair (map (λ value. record { key = key; value = value }) values)
one_can key [] h all = tt
one_can key (value ∷ values) h all = (record { key = h; value = all.0 }, one_can key values h all.1)

attrs_can : (attrs : List Attr) → AllByRecursion CanAttr attrs → AllByRecursion CanPair (pairs_of attrs)
attrs_can [] h = tt
attrs_can (attr ∷ attrs) h = all_append CanPair (pairs_of_one attr) (pairs_of attrs) (one_can attr.key attr.values h.0.key h.0.values) (attrs_can attrs h.1)

-- the canonical line of an action whose attributes are those of a line, with any payload
pub said_can : (said : Said) (text : List ℕ) (a : Fields) → Says said text → Gathers (map (held a.kind) said.pairs) a.attrs → AreAttrs a.attrs → IfName a.payload → CanStand text → CanStand (line_text a)
said_can said text a says gathers ordered named c =
    let pairs = all_held_can a.kind said.pairs (says_can said text says c) in
    let attrs = recursion_from_All CanAttr a.attrs (attr_can a.attrs (map (held a.kind) said.pairs) ordered gathers pairs) in
    can_words (kind_name a.kind) (payload_text (payload_word a.payload)) (pairs_of a.attrs) (name_can a.kind) (word_can a.payload named) (attrs_can a.attrs attrs)

pub means_can : (text : List ℕ) (a : Fields) → Means text a → CanStand text → CanStand (line_text a)
means_can text a m c = said_can m.0 text a m.1 m.2.attrs m.2.action.ordered m.2.action.named c
