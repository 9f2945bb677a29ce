-- What goes of each sort, as a request makes it due.
use Rattle.std.proofs.Common.{◌≡◌, ◌∙◌, ◌++◌, ◌∷◌, [], ◌||◌, ℕ, Bool, true, false, cond, not, List, map, filter, refl, ap}
use Rattle.std.specs.List.{AllByRecursion, list_any}
use Rattle.std.specs.Str.{bytes_eq}
use Rattle.ips_after.specs.Lists.{listed}
use Rattle.ips_conflict.specs.Index.{has_path}
use Rattle.ips_manifest.specs.declared.package.Package.{Package}
use Rattle.ips_state.specs.State.{Installed, installed}
use Rattle.ips_state.specs.Records.{gone_stems, package_place}
use Rattle.ips_due.specs.Delivered.{CanBeNamed, Delivered, Legacy, License, delivered_gone, gone_license, has_legacy_package, has_license, legacy_folder, license_folder}
use Rattle.ips_due.proofs.outstanding.Gone.{one_path}
use Rattle.ips_delivered.specs.delivered.Named.{NamesLicense}
use Rattle.ips_delivered.specs.declared.withdrawn.staying.Staying.{Staying}
use Rattle.ips_delivered.specs.withdrawn.Sets.{ByteSet, HasJust, gone_legacy, gone_licenses, gone_packages, gone_with, goes, license_place}
use Rattle.ips_delivered.proofs.withdrawn.Places.{legacy_has, license_has, stem_has}

-- what passes like tests, shown alike, is the same
picked_alike : {A : Type 0} (P : A → Type 0) (t u : A → Bool) (f g : A → List ℕ) (xs : List A) → AllByRecursion P xs → ((x : A) → P x → t x ≡ u x) → ((x : A) → f x ≡ g x) → map f (filter t xs) ≡ map g (filter u xs)
picked_alike P t u f g [] all tests shows = refl
picked_alike {A} P t u f g (x ∷ xs) all tests shows = ap (λ (b : Bool). map f (cond b (x ∷ filter t xs) (filter t xs))) (tests x all.0) ∙ go (u x) (picked_alike P t u f g xs all.1 tests shows)
  where
    go : (b : Bool) → map f (filter t xs) ≡ map g (filter u xs) → map f (cond b (x ∷ filter t xs) (filter t xs)) ≡ map g (cond b (x ∷ filter u xs) (filter u xs))
    go true rest = (λ i. shows x i ∷ rest i)
    go false rest = rest

any_all : {A : Type 0} (xs : List A) → AllByRecursion (λ (x : A). Unit {0}) xs
any_all [] = tt
any_all (x ∷ xs) = (tt, any_all xs)

licenses_go : (staying : Staying) (new old : List License) → AllByRecursion NamesLicense new → AllByRecursion NamesLicense old → HasJust staying.stems (map (λ (l : License). l.stem) new) → HasJust staying.places (map license_place new)
    → gone_licenses staying old ≡ map (gone_license new) (filter (λ (l : License). not (has_license new l)) old)
licenses_go staying new old names_new names_old stems places =
    picked_alike NamesLicense (goes staying) (λ (l : License). not (has_license new l)) (gone_with staying) (gone_license new) old names_old
    (λ l n. ap not (places (license_place l) ∙ license_has new l names_new n))
    (λ l. ap (λ (b : Bool). cond b (license_place l) (license_folder l.stem)) (stems l.stem ∙ stem_has new l.stem))

legacy_go : (staying : ByteSet) (new old : List Legacy) → HasJust staying (map (λ (g : Legacy). g.pkg) new) → gone_legacy staying old ≡ map (λ (g : Legacy). legacy_folder g.pkg) (filter (λ (g : Legacy). not (has_legacy_package new g.pkg)) old)
legacy_go staying new old names =
    picked_alike (λ (g : Legacy). Unit {0}) (λ (g : Legacy). not (has_path staying g.pkg)) (λ (g : Legacy). not (has_legacy_package new g.pkg)) (λ (g : Legacy). legacy_folder g.pkg) (λ (g : Legacy). legacy_folder g.pkg) old (any_all old)
    (λ g n. ap not (names g.pkg ∙ legacy_has new g.pkg))
    (λ g. refl)

pub delivered_go : (staying : Staying) (names : ByteSet) (was is : Delivered) → CanBeNamed was → CanBeNamed is → HasJust staying.stems (map (λ (l : License). l.stem) is.licenses) → HasJust staying.places (map license_place is.licenses) → HasJust names (map (λ (g : Legacy). g.pkg) is.legacy)
    → gone_licenses staying was.licenses ++ gone_legacy names was.legacy ≡ delivered_gone was is
delivered_go staying names was is named_was named_is stems places legacy =
    (λ i. licenses_go staying is.licenses was.licenses named_is.licenses named_was.licenses stems places i ++ legacy_go names is.legacy was.legacy legacy i)

-- ---- packages

stem_among : (packages : List Package) (stem : List ℕ) → listed (map (λ (p : Package). p.stem) packages) stem ≡ list_any (λ (p : Installed). bytes_eq stem p.stem) (map installed packages)
stem_among [] stem = refl
stem_among (p ∷ packages) stem = (λ i. one_path p.stem stem i || stem_among packages stem i)

pub packages_go : (first : Bool) (staying : ByteSet) (old new : List Package) → HasJust staying (map (λ (p : Package). p.stem) new) → gone_packages first staying (map (λ (p : Package). p.stem) old) ≡ map (package_place first) (gone_stems (map installed old) (map installed new))
packages_go first staying old new just =
    let old_stems = map (λ (p : Package). p.stem) old in
    picked_alike (λ (s : List ℕ). Unit {0}) (λ s. not (has_path staying s)) (λ s. not (list_any (λ (p : Installed). bytes_eq s p.stem) (map installed new))) (package_place first) (package_place first) old_stems (any_all old_stems)
    (λ s n. ap not (just s ∙ stem_among new s))
    (λ s. refl)
    ∙ ap (λ (l : List (List ℕ)). map (package_place first) (filter (λ s. not (list_any (λ (p : Installed). bytes_eq s p.stem) (map installed new))) l)) (stems old)
  where
    stems : (packages : List Package) → map (λ (p : Package). p.stem) packages ≡ map (λ (p : Installed). p.stem) (map installed packages)
    stems [] = refl
    stems (p ∷ packages) = ap (λ (l : List (List ℕ)). p.stem ∷ l) (stems packages)
