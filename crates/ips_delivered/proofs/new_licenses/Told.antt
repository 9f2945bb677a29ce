-- Licenses are told by their keys.
use Rattle.std.proofs.Common.{◌≡◌, ◌∙◌, ◌++◌, ◌∷◌, [], ◌&&◌, ◌||◌, ◌==◌, ℕ, Bool, true, false, List, refl, sym, ap, subst}
use Rattle.std.specs.List.{AllByRecursion, list_any}
use Rattle.std.proofs.lemmas.Bool.{and_from, and_parts, or_parts, true≢false}
use Rattle.std.proofs.lemmas.List.Folds.{list_any-append}
use Rattle.ips_text.specs.Ancestry.{same_path}
use Rattle.ips_text.specs.Quote.{quoted}
use Rattle.ips_text.proofs.Ancestry.{same_path-self, same_path-true}
use Rattle.ips_text.proofs.Quotes.{quoted_apart}
use Rattle.ips_text.proofs.Truths.{or_false, or_swapped}
use Rattle.ips_action.specs.Attrs.{is_same}
use Rattle.ips_action.proofs.KeyOrder.{same_self, same_true}
use Rattle.ips_due.specs.Delivered.{License}
use Rattle.ips_due.proofs.Same.{alike}
use Rattle.ips_due.proofs.StateDue.{no_slash}
use Rattle.ips_delivered.specs.delivered.Named.{NamesLicense}
use Rattle.ips_delivered.specs.new_licenses.New.{was_delivered}
use Rattle.ips_delivered.specs.new_licenses.Kept.{license_key}

-- what stands before the first slash, and behind it
split_first : (a b x y : List ℕ) → list_any (λ c. c == 47) a ≡ false → list_any (λ c. c == 47) b ≡ false → a ++ 47 ∷ x ≡ b ++ 47 ∷ y → (a ≡ b) × (x ≡ y)
split_first [] [] x y na nb is = (refl, cc)
split_first [] (d ∷ b) x y na nb is =
    let head : 47 ≡ d = cc in
    absurd (true≢false (subst (λ (c : ℕ). (c == 47) ≡ false) (sym head) (or_parts (d == 47) (list_any (λ c. c == 47) b) nb).0))
split_first (c ∷ a) [] x y na nb is =
    let head : c ≡ 47 = cc in
    absurd (true≢false (subst (λ (d : ℕ). (d == 47) ≡ false) head (or_parts (c == 47) (list_any (λ d. d == 47) a) na).0))
split_first (c ∷ a) (d ∷ b) x y na nb is =
    let head : c ≡ d = cc in
    let rest : a ++ 47 ∷ x ≡ b ++ 47 ∷ y = cc in
    let w = split_first a b x y (or_parts (c == 47) (list_any (λ e. e == 47) a) na).1 (or_parts (d == 47) (list_any (λ e. e == 47) b) nb).1 rest in
    ((λ i. head i ∷ w.0 i), w.1)

-- Stem, name and payload are the same.
record IsOne (a b : License) : Type 0 where
  stem : a.stem ≡ b.stem
  name : a.name ≡ b.name
  payload : a.payload ≡ b.payload

one_license : (a b : License) → NamesLicense a → NamesLicense b → license_key a ≡ license_key b → IsOne a b
one_license a b na nb is =
    let front = split_first (quoted a.stem) (quoted b.stem) (quoted a.name ++ 47 ∷ a.payload) (quoted b.name ++ 47 ∷ b.payload) (no_slash a.stem) (no_slash b.stem) is in
    let behind = split_first (quoted a.name) (quoted b.name) a.payload b.payload (no_slash a.name) (no_slash b.name) front.1 in
    record { stem = quoted_apart a.stem b.stem na.0.0 nb.0.0 front.0; name = quoted_apart a.name b.name na.1.0 nb.1.0 behind.0; payload = behind.1 }

same_from : (a b : List ℕ) → a ≡ b → same_path a b ≡ true
same_from a b is = subst (λ (x : List ℕ). same_path a x ≡ true) is (same_path-self a)

key_same : (one l : License) → NamesLicense one → NamesLicense l → is_same (license_key one) (license_key l) ≡ (same_path l.stem one.stem && (same_path l.name one.name && same_path l.payload one.payload))
key_same one l n_one n_l = alike (is_same (license_key one) (license_key l)) (same_path l.stem one.stem && (same_path l.name one.name && same_path l.payload one.payload)) (
  λ yes.
      let is = one_license l one n_l n_one (sym (same_true (license_key one) (license_key l) yes)) in
      and_from (same_path l.stem one.stem) (same_path l.name one.name && same_path l.payload one.payload) (same_from l.stem one.stem is.stem)
      (and_from (same_path l.name one.name) (same_path l.payload one.payload) (same_from l.name one.name is.name) (same_from l.payload one.payload is.payload)),
  λ yes.
      let parts = and_parts (same_path l.stem one.stem) (same_path l.name one.name && same_path l.payload one.payload) yes in
      let more = and_parts (same_path l.name one.name) (same_path l.payload one.payload) parts.1 in
      let stem = same_path-true l.stem one.stem parts.0 in
      let name = same_path-true l.name one.name more.0 in
      let payload = same_path-true l.payload one.payload more.1 in
      same_self (license_key one) (license_key l) (sym (λ i. quoted (stem i) ++ 47 ∷ (quoted (name i) ++ 47 ∷ payload i))),
)

pub was_same : (licenses : List License) (one : License) → AllByRecursion NamesLicense licenses → NamesLicense one → list_any (λ (l : License). is_same (license_key one) (license_key l)) licenses ≡ was_delivered licenses one
was_same [] one all n = refl
was_same (l ∷ licenses) one all n = (λ i. key_same one l n all.0 i || was_same licenses one all.1 n i)

-- one thing more of a list is found
pub any_more : {A : Type 0} (test : A → Bool) (xs : List A) (x : A) → (test x || list_any test xs) ≡ list_any test (xs ++ x ∷ [])
any_more test xs x = ap (λ (b : Bool). test x || b) (or_false (list_any test xs)) ∙ or_swapped (test x) (list_any test xs) false ∙ sym (list_any-append test xs (x ∷ []))
