-- Whether words name a kind of action, and a payload, is decided.
use Rattle.std.proofs.Common.{◌≡◌, ◌⊎◌, inl, inr, ℕ, ◌*◌, List, [], ◌∷◌, length, Option, Some, None, refl, sym, ap, arith}
use Rattle.std.specs.List.{AllByRecursion}
use Rattle.std.proofs.lemmas.Option.{none-some, same_Some}
use Rattle.hex.specs.Hex.{encode_lower, lower_digits}
use Rattle.hex.proofs.HexLemmas.{length-encode_with}
use Rattle.ips_digest.specs.declared.name.PayloadName.{PayloadName}
use Rattle.ips_digest.specs.declared.name.PayloadName.TheVariants.{Sha1, Sha256}
use Rattle.ips_digest.specs.Name.{IsName, AreNameDigits, spelling}
use Rattle.ips_digest.proofs.Names.{lower_text, read_only}
use Rattle.ips_action.specs.declared.kind.ActionKind.{ActionKind}
use Rattle.ips_action.specs.declared.kind.ActionKind.TheVariants.{Set, Depend, Dir, File, Link, Hardlink, User, Group, Driver, License, Legacy, Signature}
use Rattle.ips_action.specs.Kind.{kind_name}
use Rattle.ips_action.specs.Judging.{takes_payload}
use Rattle.ips_action.specs.Action.{IfName, IfTaken, payload_word}
use Rattle.ips_grammar.proofs.Decided.{Decided, is_true, same_bytes, one_of}
use Rattle.ips_grammar.proofs.Checks.{are_digits}

-- ---- kinds

abbrev kinds : List ActionKind
kinds = Set ∷ Depend ∷ Dir ∷ File ∷ Link ∷ Hardlink ∷ User ∷ Group ∷ Driver ∷ License ∷ Legacy ∷ Signature ∷ []

kind_stands : (P : ActionKind → Type 0) → AllByRecursion P kinds → (kind : ActionKind) → P kind
kind_stands P h Set = h.0
kind_stands P h Depend = h.1.0
kind_stands P h Dir = h.1.1.0
kind_stands P h File = h.1.1.1.0
kind_stands P h Link = h.1.1.1.1.0
kind_stands P h Hardlink = h.1.1.1.1.1.0
kind_stands P h User = h.1.1.1.1.1.1.0
kind_stands P h Group = h.1.1.1.1.1.1.1.0
kind_stands P h Driver = h.1.1.1.1.1.1.1.1.0
kind_stands P h License = h.1.1.1.1.1.1.1.1.1.0
kind_stands P h Legacy = h.1.1.1.1.1.1.1.1.1.1.0
kind_stands P h Signature = h.1.1.1.1.1.1.1.1.1.1.1.0

abbrev pub Named : List ℕ → Type 0
Named word = (kind : ActionKind) × (word ≡ kind_name kind)

pub named : (word : List ℕ) → Decided (Named word)
named word = go (one_of (λ kind. word ≡ kind_name kind) (λ kind. same_bytes word (kind_name kind)) kinds)
  where
    go : Named word ⊎ AllByRecursion (λ kind. word ≡ kind_name kind → ⊥) kinds → Decided (Named word)
    go (inl found) = inl found
    go (inr none) = inr (λ w. kind_stands (λ kind. word ≡ kind_name kind → ⊥) none w.0 w.1)

-- ---- payloads

abbrev Spelled : List ℕ → Type 0
Spelled text = (name : PayloadName) × (IsName name × (text ≡ spelling name))

sized : (text bytes : List ℕ) (n : ℕ) → text ≡ encode_lower bytes → length text ≡ 2 * n → length bytes ≡ n
sized text bytes n e len = omega (arith, ap length e, length-encode_with lower_digits bytes)

spelled : (text : List ℕ) → AreNameDigits text → Spelled text
unfolding spelling
spelled text digits = go digits.count
  where
    go : (length text ≡ 40) ⊎ (length text ≡ 64) → Spelled text
    go (inl len) =
        let read = lower_text text (omega arith) digits.digits in
        (Sha1 read.0, ((sized text read.0 20 read.1 len, read.2), read.1))
    go (inr len) =
        let read = lower_text text (omega arith) digits.digits in
        (Sha256 read.0, ((sized text read.0 32 read.1 len, read.2), read.1))

-- a payload that this word names, where there is one
abbrev pub Payload : Option (List ℕ) → Type 0
Payload word = (name : Option PayloadName) × (IfName name × (payload_word name ≡ word))

not_spelled : (text : List ℕ) (name : Option PayloadName) → (AreNameDigits text → ⊥) → IfName name → payload_word name ≡ Some text → ⊥
not_spelled text None none h e = none-some text e
not_spelled text (Some name) none h e = none-some name (read_only text None none name h (sym (same_Some (spelling name) text e)))

pub payload : (word : Option (List ℕ)) → Decided (Payload word)
payload None = inl (None, (tt, refl))
payload (Some text) = go (are_digits text)
  where
    go : Decided (AreNameDigits text) → Decided (Payload (Some text))
    go (inl digits) = let found = spelled text digits in inl (Some found.0, (found.1.0, ap (λ (w : List ℕ). Some w) (sym found.1.1)))
    go (inr none) = inr (λ w. not_spelled text w.0 none w.1.0 w.1.1)

pub taken : {A : Type 0} (kind : ActionKind) (payload : Option A) → Decided (IfTaken kind payload)
taken kind None = inl tt
taken kind (Some word) = is_true (takes_payload kind)

-- a payload is taken as its word is
pub word_taken : (kind : ActionKind) (payload : Option PayloadName) (word : Option (List ℕ)) → payload_word payload ≡ word → IfTaken kind payload → IfTaken kind word
word_taken kind payload None e h = tt
word_taken kind None (Some word) e h = absurd (none-some word e)
word_taken kind (Some name) (Some word) e h = h
