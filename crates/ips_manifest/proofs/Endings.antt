-- A canonical line stands on one physical line: it ends with no backslash, and isn't skipped.
use Rattle.std.proofs.Common.{◌≡◌, ℕ, zero, suc, ◌/◌, ◌%◌, Bool, true, false, cond, not, eqb, List, [], ◌∷◌, ◌++◌, get_or, Option, Some, None, refl, sym, ap, subst, ◌∙◌, arith}
use Rattle.std.specs.List.{list_all, list_any, flat_map}
use Rattle.std.proofs.lemmas.Bool.{and_parts, true≢false}
use Rattle.std.proofs.lemmas.List.{append-nil}
use Rattle.hex.specs.Hex.{lower_digits, encode_with, encode_lower}
use Rattle.ips_line.specs.declared.words.Pair.{Pair}
use Rattle.ips_line.specs.Canonical.{escaped_byte, is_special, needs_quotes, value_text, pair_text, payload_text, words_text}
use Rattle.ips_digest.specs.declared.name.PayloadName.{PayloadName}
use Rattle.ips_digest.specs.declared.name.PayloadName.TheVariants.{Sha1, Sha256}
use Rattle.ips_digest.specs.Name.{spelling}
use Rattle.ips_action.specs.declared.kind.ActionKind.{ActionKind}
use Rattle.ips_action.specs.declared.kind.ActionKind.TheVariants as kind
use Rattle.ips_action.specs.Kind.{kind_name}
use Rattle.ips_action.specs.Action.{Fields, payload_word, pairs_of, line_text}
use Rattle.ips_manifest.specs.Logical.{continues, is_skipped}
use Rattle.ips_text.proofs.Truths.{not_true}

abbrev plain : ℕ → Bool
plain b = not (eqb b 92)

-- bytes without a backslash end with none
plain_ends : (xs : List ℕ) → list_all plain xs ≡ true → continues xs ≡ false
plain_ends [] h = refl
plain_ends (b ∷ []) h = not_true (eqb b 92) (and_parts (plain b) true h).0
plain_ends (b ∷ c ∷ xs) h = plain_ends (c ∷ xs) (and_parts (plain b) (list_all plain (c ∷ xs)) h).1

-- what stands last decides
pub record Closes (xs : List ℕ) : Type 0 where
  pub first : ℕ
  pub rest : List ℕ
  pub some : xs ≡ first ∷ rest
  pub ends : continues xs ≡ false

ends_behind : (xs : List ℕ) (b : ℕ) (ys : List ℕ) → continues (xs ++ (b ∷ ys)) ≡ continues (b ∷ ys)
ends_behind [] b ys = refl
ends_behind (x ∷ []) b ys = refl
ends_behind (x ∷ y ∷ xs) b ys = ends_behind (y ∷ xs) b ys

append_some : (xs : List ℕ) (b : ℕ) (ys : List ℕ) → (c : ℕ) × (zs : List ℕ) × (xs ++ (b ∷ ys) ≡ c ∷ zs)
append_some [] b ys = (b, ys, refl)
append_some (x ∷ xs) b ys = (x, xs ++ (b ∷ ys), refl)

closes_behind : (xs ys : List ℕ) → Closes ys → Closes (xs ++ ys)
closes_behind xs ys h =
    let s = append_some xs h.first h.rest in
    let same : xs ++ ys ≡ xs ++ (h.first ∷ h.rest) = ap (λ (l : List ℕ). xs ++ l) h.some in
    record { first = s.0; rest = s.1; some = same ∙ s.2; ends = ap continues same ∙ ends_behind xs h.first h.rest ∙ ap continues (sym h.some) ∙ h.ends }

-- ---- values

special_plain : (b : ℕ) → is_special b ≡ false → plain b ≡ true
special_plain b h = grind arith

specials_plain : (xs : List ℕ) → list_any is_special xs ≡ false → list_all plain xs ≡ true
specials_plain [] h = refl
specials_plain (b ∷ xs) h = go (is_special b) refl h (specials_plain xs)
  where
    go : (t : Bool) → is_special b ≡ t → list_any is_special (b ∷ xs) ≡ false → (list_any is_special xs ≡ false → list_all plain xs ≡ true) → list_all plain (b ∷ xs) ≡ true
    go true e h more = absurd (true≢false (rw e at h))
    go false e h more = let first = special_plain b e in let others = more (rw e at h) in rw (first, others) refl

value_plain : (value : List ℕ) → needs_quotes value ≡ false → Closes value
value_plain [] h = absurd (true≢false h)
value_plain (b ∷ value) h = record { first = b; rest = value; some = refl; ends = plain_ends (b ∷ value) (specials_plain (b ∷ value) h) }

value_closes : (value : List ℕ) → Closes (value_text value)
value_closes value = go (needs_quotes value) refl
  where
    go : (t : Bool) → needs_quotes value ≡ t → Closes (value_text value)
    go true e = subst Closes (sym (ap (λ (b : Bool). cond b ((34 ∷ flat_map escaped_byte value) ++ (34 ∷ [])) value) e)) (closes_behind (34 ∷ flat_map escaped_byte value) (34 ∷ []) (record { first = 34; rest = []; some = refl; ends = refl }))
    go false e = subst Closes (sym (ap (λ (b : Bool). cond b ((34 ∷ flat_map escaped_byte value) ++ (34 ∷ [])) value) e)) (value_plain value e)

pair_closes : (p : Pair) → Closes (pair_text p)
pair_closes p = closes_behind (32 ∷ p.key) (61 ∷ value_text p.value) (closes_behind (61 ∷ []) (value_text p.value) (value_closes p.value))

pairs_close : (p : Pair) (pairs : List Pair) → Closes (flat_map pair_text (p ∷ pairs))
pairs_close p [] = subst Closes (sym (append-nil (pair_text p))) (pair_closes p)
pairs_close p (q ∷ pairs) = closes_behind (pair_text p) (flat_map pair_text (q ∷ pairs)) (pairs_close q pairs)

-- ---- payloads

index_plain : (xs : List ℕ) (k : ℕ) → list_all plain xs ≡ true → plain (get_or xs k 0) ≡ true
index_plain [] zero h = refl
index_plain [] (suc k) h = refl
index_plain (b ∷ xs) zero h = (and_parts (plain b) (list_all plain xs) h).0
index_plain (b ∷ xs) (suc k) h = index_plain xs k (and_parts (plain b) (list_all plain xs) h).1

digits_plain : (bytes : List ℕ) → list_all plain (encode_lower bytes) ≡ true
unfolding encode_with
digits_plain [] = refl
digits_plain (b ∷ bytes) =
    let high = index_plain lower_digits (b / 16) refl in
    let low = index_plain lower_digits (b % 16) refl in
    let more = digits_plain bytes in
    rw (high, low, more) refl

spelling_plain : (name : PayloadName) → list_all plain (spelling name) ≡ true
unfolding spelling
spelling_plain (Sha1 bytes) = digits_plain bytes
spelling_plain (Sha256 bytes) = digits_plain bytes

payload_closes : (name : PayloadName) → Closes (32 ∷ spelling name)
payload_closes name = record { first = 32; rest = spelling name; some = refl; ends = plain_ends (32 ∷ spelling name) (spelling_plain name) }

-- ---- lines

kind_closes : (k : ActionKind) → Closes (kind_name k)
kind_closes kind.Set = record { first = 115; rest = 101 ∷ 116 ∷ []; some = refl; ends = refl }
kind_closes kind.Depend = record { first = 100; rest = 101 ∷ 112 ∷ 101 ∷ 110 ∷ 100 ∷ []; some = refl; ends = refl }
kind_closes kind.Dir = record { first = 100; rest = 105 ∷ 114 ∷ []; some = refl; ends = refl }
kind_closes kind.File = record { first = 102; rest = 105 ∷ 108 ∷ 101 ∷ []; some = refl; ends = refl }
kind_closes kind.Link = record { first = 108; rest = 105 ∷ 110 ∷ 107 ∷ []; some = refl; ends = refl }
kind_closes kind.Hardlink = record { first = 104; rest = 97 ∷ 114 ∷ 100 ∷ 108 ∷ 105 ∷ 110 ∷ 107 ∷ []; some = refl; ends = refl }
kind_closes kind.User = record { first = 117; rest = 115 ∷ 101 ∷ 114 ∷ []; some = refl; ends = refl }
kind_closes kind.Group = record { first = 103; rest = 114 ∷ 111 ∷ 117 ∷ 112 ∷ []; some = refl; ends = refl }
kind_closes kind.Driver = record { first = 100; rest = 114 ∷ 105 ∷ 118 ∷ 101 ∷ 114 ∷ []; some = refl; ends = refl }
kind_closes kind.License = record { first = 108; rest = 105 ∷ 99 ∷ 101 ∷ 110 ∷ 115 ∷ 101 ∷ []; some = refl; ends = refl }
kind_closes kind.Legacy = record { first = 108; rest = 101 ∷ 103 ∷ 97 ∷ 99 ∷ 121 ∷ []; some = refl; ends = refl }
kind_closes kind.Signature = record { first = 115; rest = 105 ∷ 103 ∷ 110 ∷ 97 ∷ 116 ∷ 117 ∷ 114 ∷ 101 ∷ []; some = refl; ends = refl }

head_closes : (k : ActionKind) (payload : Option PayloadName) → Closes (kind_name k ++ payload_text (payload_word payload))
head_closes k None = subst Closes (sym (append-nil (kind_name k))) (kind_closes k)
head_closes k (Some name) = closes_behind (kind_name k) (32 ∷ spelling name) (payload_closes name)

words_close : (k : ActionKind) (payload : Option PayloadName) (pairs : List Pair) → Closes (words_text (kind_name k) (payload_word payload) pairs)
words_close k payload [] = subst Closes (sym (append-nil (kind_name k ++ payload_text (payload_word payload)))) (head_closes k payload)
words_close k payload (p ∷ pairs) = closes_behind (kind_name k ++ payload_text (payload_word payload)) (flat_map pair_text (p ∷ pairs)) (pairs_close p pairs)

-- the canonical line of an action ends with no backslash
pub line_ends : (a : Fields) → continues (line_text a) ≡ false
line_ends a = (words_close a.kind a.payload (pairs_of a.attrs)).ends

kind_kept : (k : ActionKind) (more others : List ℕ) → is_skipped ((kind_name k ++ more) ++ others) ≡ false
kind_kept kind.Set more others = refl
kind_kept kind.Depend more others = refl
kind_kept kind.Dir more others = refl
kind_kept kind.File more others = refl
kind_kept kind.Link more others = refl
kind_kept kind.Hardlink more others = refl
kind_kept kind.User more others = refl
kind_kept kind.Group more others = refl
kind_kept kind.Driver more others = refl
kind_kept kind.License more others = refl
kind_kept kind.Legacy more others = refl
kind_kept kind.Signature more others = refl

-- and isn't skipped
pub line_kept : (a : Fields) → is_skipped (line_text a) ≡ false
line_kept a = kind_kept a.kind (payload_text (payload_word a.payload)) (flat_map pair_text (pairs_of a.attrs))
