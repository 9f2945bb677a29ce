-- Licenses are told by where they are recorded.
use Rattle.std.proofs.Common.{◌≡◌, ◌∙◌, ◌++◌, ◌∷◌, [], ◌&&◌, ◌||◌, ℕ, Bool, true, List, map, Some, refl, sym, ap, subst}
use Rattle.std.specs.List.{AllByRecursion}
use Rattle.std.proofs.lemmas.Bool.{and_from, and_parts}
use Rattle.std.proofs.lemmas.List.{append_cancel_left}
use Rattle.std.proofs.lemmas.Option.{same_Some}
use Rattle.ips_text.specs.Ancestry.{parent, same_path}
use Rattle.ips_text.specs.Quote.{AreBytes, quoted}
use Rattle.ips_text.proofs.Ancestry.{same_path-self, same_path-true}
use Rattle.ips_text.proofs.Quotes.{quoted_apart}
use Rattle.ips_after.specs.Lists.{listed}
use Rattle.ips_metafiles.specs.Records.{license_path}
use Rattle.ips_due.specs.Delivered.{Legacy, License, has_legacy_package, has_license, has_stem, license_folder, licenses_path}
use Rattle.ips_due.proofs.Same.{alike}
use Rattle.ips_due.proofs.StateDue.{no_slash, parent_of}
use Rattle.ips_delivered.specs.delivered.Named.{NamesLicense}
use Rattle.ips_delivered.specs.withdrawn.Sets.{license_place}

-- names of one quoted form, behind what is the same, are one
same_name : (front a b : List ℕ) → AreBytes a → AreBytes b → front ++ 47 ∷ quoted a ≡ front ++ 47 ∷ quoted b → a ≡ b
same_name front a b ha hb is =
    let tails : 47 ∷ quoted a ≡ 47 ∷ quoted b = append_cancel_left front (47 ∷ quoted a) (47 ∷ quoted b) is in
    let names : quoted a ≡ quoted b = cc in
    quoted_apart a b ha hb names

folder_of : (l : License) → parent (license_place l) ≡ Some (license_folder l.stem)
folder_of l = parent_of (license_folder l.stem) (quoted l.name) (no_slash l.name)

one_license : (a b : License) → NamesLicense a → NamesLicense b → license_place a ≡ license_place b → (a.stem ≡ b.stem) × (a.name ≡ b.name)
one_license a b na nb is =
    let folders : license_folder a.stem ≡ license_folder b.stem = same_Some (license_folder a.stem) (license_folder b.stem) (sym (folder_of a) ∙ ap parent is ∙ folder_of b) in
    let behind : license_folder b.stem ++ 47 ∷ quoted a.name ≡ license_folder b.stem ++ 47 ∷ quoted b.name = subst (λ (x : List ℕ). x ++ 47 ∷ quoted a.name ≡ license_folder b.stem ++ 47 ∷ quoted b.name) folders is in
    (same_name licenses_path a.stem b.stem na.0.0 nb.0.0 folders, same_name (license_folder b.stem) a.name b.name na.1.0 nb.1.0 behind)

place_same : (a b : License) → NamesLicense a → NamesLicense b → same_path (license_place a) (license_place b) ≡ (same_path a.stem b.stem && same_path a.name b.name)
place_same a b na nb = alike (same_path (license_place a) (license_place b)) (same_path a.stem b.stem && same_path a.name b.name) (
  λ yes.
      let one = one_license a b na nb (same_path-true (license_place a) (license_place b) yes) in
      and_from (same_path a.stem b.stem) (same_path a.name b.name) (subst (λ (x : List ℕ). same_path a.stem x ≡ true) one.0 (same_path-self a.stem)) (subst (λ (x : List ℕ). same_path a.name x ≡ true) one.1 (same_path-self a.name)),
  λ yes.
      let parts = and_parts (same_path a.stem b.stem) (same_path a.name b.name) yes in
      let is : license_place a ≡ license_place b = (λ i. license_path (same_path-true a.stem b.stem parts.0 i) (same_path-true a.name b.name parts.1 i)) in
      subst (λ (x : List ℕ). same_path (license_place a) x ≡ true) is (same_path-self (license_place a)),
)

pub license_has : (licenses : List License) (one : License) → AllByRecursion NamesLicense licenses → NamesLicense one → listed (map license_place licenses) (license_place one) ≡ has_license licenses one
license_has [] one all n = refl
license_has (l ∷ licenses) one all n = (λ i. place_same l one all.0 n i || license_has licenses one all.1 n i)

pub stem_has : (licenses : List License) (stem : List ℕ) → listed (map (λ (l : License). l.stem) licenses) stem ≡ has_stem licenses stem
stem_has [] stem = refl
stem_has (l ∷ licenses) stem = ap (λ (b : Bool). same_path l.stem stem || b) (stem_has licenses stem)

pub legacy_has : (legacy : List Legacy) (pkg : List ℕ) → listed (map (λ (g : Legacy). g.pkg) legacy) pkg ≡ has_legacy_package legacy pkg
legacy_has [] pkg = refl
legacy_has (g ∷ legacy) pkg = ap (λ (b : Bool). same_path g.pkg pkg || b) (legacy_has legacy pkg)
