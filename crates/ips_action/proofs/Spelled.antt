-- Names of payloads as words of a line, and the canonical lines of attributes.
use Rattle.std.proofs.Common.{◌≡◌, ℕ, ◌<◌, ◌≤◌, Bool, true, false, List, [], ◌∷◌, ◌++◌, length, get_or, Some, None, refl, sym, ◌∙◌, ap, arith, append_assoc, ◌⊎◌, inl, inr}
use Rattle.std.specs.List.{AllPass, AllByRecursion, flat_map, list_all}
use Rattle.std.specs.Str.{IsUtf8, IsAscii}
use Rattle.std.proofs.lemmas.Bool.{cases_lt}
use Rattle.std.proofs.lemmas.Str.{IsUtf8-from_ascii}
use Rattle.std.proofs.Math.ListN.{get_or-eq_default}
use Rattle.std.proofs.lemmas.List.Elements.{recursion_from_All}
use Rattle.ips_digest.specs.declared.name.PayloadName.{PayloadName}
use Rattle.ips_digest.specs.Name.{IsName, AreNameDigits, is_lower_digit, spelling}
use Rattle.ips_digest.proofs.Names.{read_only}
use Rattle.ips_line.specs.Line.{IsRunOfBytes, in_payload}
use Rattle.ips_line.specs.Canonical.{pair_text}
use Rattle.ips_action.specs.Attrs.{Attr}
use Rattle.ips_action.specs.Action.{pairs_of, pairs_of_one, attr_text}

pub low_digit : (b : ℕ) → is_lower_digit b ≡ true → b < 128
low_digit b e = grind arith

digits_ascii : (text : List ℕ) → AllPass is_lower_digit text → IsAscii text
digits_ascii text h i = go (cases_lt i (length text))
  where
    go : (i < length text) ⊎ (length text ≤ i) → get_or text i 0 < 128
    go (inl lt) = low_digit (get_or text i 0) (h i 0 lt)
    go (inr le) = omega (arith, get_or-eq_default text 0 le)

-- what isn't refuted by the digits of a name isn't refuted by a name
pub spelled_so : (name : PayloadName) (text : List ℕ) → IsName name → text ≡ spelling name → (AreNameDigits text → ⊥) → ⊥
spelled_so name text h e none = let found : None ≡ Some name = read_only text None none name h e in cc

pub name_is_text : (name : PayloadName) (text : List ℕ) → IsName name → text ≡ spelling name → (IsUtf8 text → ⊥) → ⊥
name_is_text name text h e none = spelled_so name text h e (λ digits. none (IsUtf8-from_ascii text (digits_ascii text digits.digits)))

-- a name can be a payload word
runs_on : (b : ℕ) → is_lower_digit b ≡ true → in_payload b ≡ true
runs_on b e = grind arith

all_run : (text : List ℕ) → AllByRecursion (λ b. is_lower_digit b ≡ true) text → list_all in_payload text ≡ true
all_run [] h = refl
all_run (b ∷ text) h = rw (runs_on b h.0) (all_run text h.1)

not_counted : (text : List ℕ) → text ≡ [] → (length text ≡ 40) ⊎ (length text ≡ 64) → ⊥
not_counted text none (inl e) = omega (arith, ap length none)
not_counted text none (inr e) = omega (arith, ap length none)

digits_run : (text : List ℕ) → AreNameDigits text → IsRunOfBytes in_payload text
digits_run [] h = absurd (not_counted [] refl h.count)
digits_run (b ∷ text) h = all_run (b ∷ text) (recursion_from_All (λ b. is_lower_digit b ≡ true) (b ∷ text) h.digits)

run_of : (text : List ℕ) → ((IsRunOfBytes in_payload text → ⊥) → ⊥) → IsRunOfBytes in_payload text
run_of [] h = absurd (h (λ r. r))
run_of (b ∷ text) h = go (list_all in_payload (b ∷ text)) h
  where
    go : (t : Bool) → ((t ≡ true → ⊥) → ⊥) → t ≡ true
    go true g = refl
    go false g = absurd (g (λ e. cc))

pub name_runs : (name : PayloadName) → IsName name → IsRunOfBytes in_payload (spelling name)
name_runs name h = run_of (spelling name) (λ none. spelled_so name (spelling name) h refl (λ digits. none (digits_run (spelling name) digits)))

-- ---- the canonical `key=value`

flat_join : {X Y : Type 0} (f : X → List Y) (xs ys : List X) → flat_map f (xs ++ ys) ≡ flat_map f xs ++ flat_map f ys
flat_join f [] ys = refl
flat_join f (x ∷ xs) ys = ap (λ l. f x ++ l) (flat_join f xs ys) ∙ sym (append_assoc (f x) (flat_map f xs) (flat_map f ys))

pub attrs_text : (attrs : List Attr) → flat_map pair_text (pairs_of attrs) ≡ flat_map attr_text attrs
attrs_text [] = refl
attrs_text (attr ∷ attrs) = flat_join pair_text (pairs_of_one attr) (pairs_of attrs) ∙ ap (λ (l : List ℕ). attr_text attr ++ l) (attrs_text attrs)
