-- No `/` in a publisher, nor in the digits of a payload's name.
use Rattle.std.proofs.Common.{◌≡◌, ℕ, Bool, true, false, ◌&&◌, eqb, nat_le, List, [], ◌∷◌, take, zero, suc, sym, subst, ap, arith}
use Rattle.std.specs.List.{list_all, AllByRecursion}
use Rattle.std.proofs.lemmas.List.Elements.{recursion_from_All}
use Rattle.std.proofs.lemmas.Bool.{and_parts, eqb-true, false_from_ne_true}
use Rattle.ips_digest.specs.Name.{IsName, spelling, is_lower_digit}
use Rattle.ips_digest.specs.declared.name.PayloadName.{PayloadName}
use Rattle.ips_digest.proofs.Names.{spelled_digits}
use Rattle.ips_fmri.specs.Name.{IsComponent, may_begin, may_go_on}
use Rattle.ips_sends.proofs.Apart.{NoSlash, no}

begins : (b : ℕ) → may_begin false b ≡ true → eqb b 47 ≡ false
begins b h = false_from_ne_true (eqb b 47) (λ e. no (subst (λ (c : ℕ). may_begin false c ≡ true) (eqb-true b 47 e) h))

goes_on : (b : ℕ) → may_go_on false b ≡ true → eqb b 47 ≡ false
goes_on b h = false_from_ne_true (eqb b 47) (λ e. no (subst (λ (c : ℕ). may_go_on false c ≡ true) (eqb-true b 47 e) h))

rest_free : (bytes : List ℕ) → list_all (may_go_on false) bytes ≡ true → NoSlash bytes
rest_free [] h = tt
rest_free (b ∷ bytes) h = let p = and_parts (may_go_on false b) (list_all (may_go_on false) bytes) h in (goes_on b p.0, rest_free bytes p.1)

pub component_free : (bytes : List ℕ) → IsComponent false bytes → NoSlash bytes
component_free [] h = absurd h
component_free (b ∷ bytes) h = (begins b h.0, rest_free bytes h.1)

-- ---- digits

digit_free : (b : ℕ) → is_lower_digit b ≡ true → eqb b 47 ≡ false
digit_free b h = false_from_ne_true (eqb b 47) (λ e. no (subst (λ (c : ℕ). is_lower_digit c ≡ true) (eqb-true b 47 e) h))

digits_free : (bytes : List ℕ) → AllByRecursion (λ (b : ℕ). is_lower_digit b ≡ true) bytes → NoSlash bytes
digits_free [] h = tt
digits_free (b ∷ bytes) h = (digit_free b h.0, digits_free bytes h.1)

pub spelled_free : (name : PayloadName) → IsName name → NoSlash (spelling name)
spelled_free name is = digits_free (spelling name) (recursion_from_All (λ (b : ℕ). is_lower_digit b ≡ true) (spelling name) (spelled_digits name is).digits)

pub front_free : (n : ℕ) (bytes : List ℕ) → NoSlash bytes → NoSlash (take n bytes)
front_free zero [] h = tt
front_free (suc n) [] h = tt
front_free zero (b ∷ bytes) h = tt
front_free (suc n) (b ∷ bytes) h = (h.0, front_free n bytes h.1)
