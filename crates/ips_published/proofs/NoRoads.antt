-- No manifest and no payload stands in the place of a directory on the way to a package.
use Rattle.std.proofs.Common.{◌≡◌, ℕ, ◌+◌, ◌≤◌, true, false, eqb, List, [], ◌∷◌, ◌++◌, length, take, refl, sym, ap, subst, ◌∙◌, arith, append_assoc}
use Rattle.std.specs.Prelude.{codes}
use Rattle.std.proofs.lemmas.Bool.{and_parts, eq-eqb, eqb-true, false≢true, false_from_ne_true}
use Rattle.std.proofs.lemmas.List.{length-append, length-take}
use Rattle.std.proofs.Math.Nat.{min-le_left}
use Rattle.ips_text.specs.Ancestry.{same_path}
use Rattle.ips_text.specs.Quote.{quoted}
use Rattle.ips_text.proofs.Ancestry.{same_path-true}
use Rattle.ips_steps.specs.Private.{records_name}
use Rattle.ips_steps.proofs.Lists.{clash}
use Rattle.ips_digest.specs.Name.{IsName, spelling}
use Rattle.ips_digest.specs.declared.name.PayloadName.{PayloadName}
use Rattle.ips_fmri.specs.Name.{IsPublisher}
use Rattle.ips_fmri.specs.Version.{Parts, version_text}
use Rattle.ips_repo.specs.Places.{publisher_place, manifest_place, payload_place}
use Rattle.ips_repo.proofs.Digits.{payload_digits}
use Rattle.ips_put.proofs.Places.{quoted_free}
use Rattle.ips_sends.proofs.Apart.{NoSlash, payload_form, manifest_form}
use Rattle.ips_sends.proofs.Free.{component_free}
use Rattle.ips_published.proofs.Roads.{IsRoad, OfVar, OfRecords, OfTop, OfPublisher, OfCatalog, OfManifests, OfStem, OfFiles, OfPayload}

-- ---- one path, part by part

-- behind parts before a `/` the rest is the same
same_split : (x y p q : List ℕ) → NoSlash x → NoSlash y → same_path (x ++ 47 ∷ p) (y ++ 47 ∷ q) ≡ true → same_path p q ≡ true
same_split [] [] p q hx hy h = h
same_split [] (b ∷ y) p q hx hy h =
    let same : 47 ≡ b = eqb-true 47 b (and_parts (eqb 47 b) (same_path p (y ++ 47 ∷ q)) h).0 in
    clash (eqb b 47) (subst (λ (c : ℕ). eqb c 47 ≡ true) same refl) hy.0
same_split (a ∷ x) [] p q hx hy h = clash (eqb a 47) (and_parts (eqb a 47) (same_path (x ++ 47 ∷ p) q) h).0 hx.0
same_split (a ∷ x) (b ∷ y) p q hx hy h = same_split x y p q hx.1 hy.1 (and_parts (eqb a b) (same_path (x ++ 47 ∷ p) (y ++ 47 ∷ q)) h).1

part_longer : (x y r : List ℕ) → NoSlash x → same_path x (y ++ 47 ∷ r) ≡ true → ⊥
part_longer [] [] r hx h = false≢true h
part_longer [] (b ∷ y) r hx h = false≢true h
part_longer (a ∷ x) [] r hx h = clash (eqb a 47) (and_parts (eqb a 47) (same_path x r) h).0 hx.0
part_longer (a ∷ x) (b ∷ y) r hx h = part_longer x y r hx.1 (and_parts (eqb a b) (same_path x (y ++ 47 ∷ r)) h).1

-- one part isn't two
pub no_part : (x y r : List ℕ) → NoSlash x → same_path x (y ++ 47 ∷ r) ≡ false
no_part x y r hx = false_from_ne_true (same_path x (y ++ 47 ∷ r)) (part_longer x y r hx)

-- a path isn't one that stands below it
pub apart_on : (d x : List ℕ) → same_path d (d ++ 47 ∷ x) ≡ false
apart_on [] x = refl
apart_on (b ∷ d) x = let same : eqb b b ≡ true = eq-eqb b b refl in rw same (apart_on d x)

-- two digits aren't two and more
few_digits : (m n : PayloadName) → IsName n → same_path (take 2 (spelling m)) (take 2 (spelling n) ++ (47 ∷ spelling n)) ≡ false
few_digits m n name = false_from_ne_true (same_path (take 2 (spelling m)) (take 2 (spelling n) ++ (47 ∷ spelling n))) (λ h.
    let digits = payload_digits n name in
    let same : length (take 2 (spelling m)) ≡ length (take 2 (spelling n) ++ (47 ∷ spelling n)) = ap (length {A = ℕ}) (same_path-true (take 2 (spelling m)) (take 2 (spelling n) ++ (47 ∷ spelling n)) h) in
    let few : length (take 2 (spelling m)) ≤ 2 = subst (λ (k : ℕ). k ≤ 2) (sym (length-take 2 (spelling m))) (min-le_left 2 (length (spelling m))) in
    omega (arith, same, few, length-append (take 2 (spelling n)) (47 ∷ spelling n), digits.all.some, digits.front.some))

-- ---- the directories on the way

module _ (publisher : List ℕ) (is : IsPublisher publisher) (stem : List ℕ) where
  free : NoSlash publisher
  free = component_free publisher is.form

  abbrev place : List ℕ
  place = publisher_place publisher

  -- another part of a publisher's
  apart : (p x y : List ℕ) → IsPublisher p → same_path x y ≡ false → same_path (publisher ++ (47 ∷ x)) (p ++ (47 ∷ y)) ≡ false
  apart p x y is_p off = false_from_ne_true (same_path (publisher ++ (47 ∷ x)) (p ++ (47 ∷ y))) (λ h. clash (same_path x y) (same_split publisher p x y free (component_free p is_p.form) h) off)

  -- what is so of a road by one of its names
  by_name : (w d e q : List ℕ) → d ≡ w → d ≡ e → same_path e q ≡ false → same_path w q ≡ false
  by_name w d e q at form off = subst (λ (z : List ℕ). same_path z q ≡ false) (sym form ∙ at) off

  stem_parts : place ++ codes "/pkg/" ++ quoted stem ≡ codes "publisher/" ++ (publisher ++ (47 ∷ (codes "pkg/" ++ quoted stem)))
  stem_parts = append_assoc place (codes "/pkg/") (quoted stem)

  dir_parts : (m : PayloadName) → place ++ codes "/file/" ++ take 2 (spelling m) ≡ codes "publisher/" ++ (publisher ++ (47 ∷ (codes "file/" ++ take 2 (spelling m))))
  dir_parts m = append_assoc place (codes "/file/") (take 2 (spelling m))

  -- a path of a publisher with two parts or more that is none of these
  module _ (p y : List ℕ) (is_p : IsPublisher p) (pkg : same_path (codes "pkg") y ≡ false) (file : same_path (codes "file") y ≡ false) (listing : same_path (codes "catalog") y ≡ false) (of_stem : same_path (codes "pkg/" ++ quoted stem) y ≡ false)
      (of_digits : (m : PayloadName) → same_path (codes "file/" ++ take 2 (spelling m)) y ≡ false) where
    abbrev there : List ℕ
    there = codes "publisher/" ++ (p ++ (47 ∷ y))

    no_road : (w : List ℕ) → IsRoad publisher is stem w → same_path w there ≡ false
    unfolding records_name
    no_road w (OfVar at) = by_name w (codes "var") (codes "var") there at refl refl
    no_road w (OfRecords at) = by_name w records_name records_name there at refl refl
    no_road w (OfTop at) = by_name w (codes "publisher") (codes "publisher") there at refl refl
    no_road w (OfPublisher at) = by_name w place place there at refl (no_part publisher p y free)
    no_road w (OfCatalog at) = by_name w (place ++ codes "/catalog") (place ++ codes "/catalog") there at refl (apart p (codes "catalog") y is_p listing)
    no_road w (OfManifests at) = by_name w (place ++ codes "/pkg") (place ++ codes "/pkg") there at refl (apart p (codes "pkg") y is_p pkg)
    no_road w (OfStem at) = by_name w (place ++ codes "/pkg/" ++ quoted stem) (codes "publisher/" ++ (publisher ++ (47 ∷ (codes "pkg/" ++ quoted stem)))) there at stem_parts (apart p (codes "pkg/" ++ quoted stem) y is_p of_stem)
    no_road w (OfFiles at) = by_name w (place ++ codes "/file") (place ++ codes "/file") there at refl (apart p (codes "file") y is_p file)
    no_road w (OfPayload m at) =
        by_name w (place ++ codes "/file/" ++ take 2 (spelling m)) (codes "publisher/" ++ (publisher ++ (47 ∷ (codes "file/" ++ take 2 (spelling m))))) there at (dir_parts m) (apart p (codes "file/" ++ take 2 (spelling m)) y is_p (of_digits m))

  pub manifest_no_road : (p s : List ℕ) (v : Parts) → IsPublisher p → (w : List ℕ) → IsRoad publisher is stem w → same_path w (manifest_place p s v) ≡ false
  manifest_no_road p s v is_p w road =
      subst (λ (z : List ℕ). same_path w z ≡ false) (sym (manifest_form p s v))
      (no_road p (codes "pkg/" ++ (quoted s ++ (47 ∷ quoted (version_text v)))) is_p refl refl refl (no_part (quoted stem) (quoted s) (quoted (version_text v)) (quoted_free stem)) (λ m. refl) w road)

  pub payload_no_road : (p : List ℕ) (n : PayloadName) → IsPublisher p → IsName n → (w : List ℕ) → IsRoad publisher is stem w → same_path w (payload_place p n) ≡ false
  payload_no_road p n is_p name w road =
      subst (λ (z : List ℕ). same_path w z ≡ false) (sym (payload_form p n))
      (no_road p (codes "file/" ++ (take 2 (spelling n) ++ (47 ∷ spelling n))) is_p refl refl refl refl (λ m. few_digits m n name) w road)
