-- The places of a manifest and of a catalog stand apart from all others.
use Rattle.std.proofs.Common.{◌≡◌, ℕ, Bool, true, false, ◌&&◌, ◌/◌, ◌%◌, eqb, List, [], ◌∷◌, ◌++◌, take, refl, sym, ap, subst, ◌∙◌, arith}
use Rattle.std.specs.Prelude.{codes}
use Rattle.std.specs.Fmt.{digit_glyph}
use Rattle.std.proofs.lemmas.Bool.{eqb-true, false_from_ne_true}
use Rattle.std.proofs.lemmas.List.Concat.{flat_map-cons}
use Rattle.ips_text.specs.Ancestry.{covers}
use Rattle.ips_text.specs.Quote.{is_plain, quoted, quoted_byte}
use Rattle.ips_digest.specs.Name.{spelling}
use Rattle.ips_digest.specs.declared.name.PayloadName.{PayloadName}
use Rattle.ips_fmri.specs.Name.{IsPublisher}
use Rattle.ips_fmri.specs.Version.{Parts, version_text}
use Rattle.ips_repo.specs.Places.{publisher_place, mark_place, catalog_place, manifest_place, payload_place}
use Rattle.ips_sends.proofs.Apart.{NoSlash, covers_split, covers_last, covers_as, manifest_form, payload_form, manifest_parts, payload_parts, no}
use Rattle.ips_sends.proofs.Free.{component_free}

-- ---- no `/` in a publisher, nor in what is quoted

plain_free : (b : ℕ) → is_plain b ≡ true → eqb b 47 ≡ false
plain_free b h = false_from_ne_true (eqb b 47) (λ e. no (subst (λ (c : ℕ). is_plain c ≡ true) (eqb-true b 47 e) h))

glyph_free : (n : ℕ) → eqb (digit_glyph true n) 47 ≡ false
glyph_free n = grind arith

byte_free : (b : ℕ) (plain : Bool) → is_plain b ≡ plain → (rest : List ℕ) → NoSlash rest → NoSlash (quoted_byte b ++ rest)
byte_free b true e rest h = rw e (plain_free b e, h)
byte_free b false e rest h = rw e (refl, (glyph_free (b / 16), (glyph_free (b % 16), h)))

pub quoted_free : (bytes : List ℕ) → NoSlash (quoted bytes)
unfolding quoted
quoted_free [] = tt
quoted_free (b ∷ bytes) = subst NoSlash (sym (flat_map-cons quoted_byte b bytes)) (byte_free b (is_plain b) refl (quoted bytes) (quoted_free bytes))

-- ---- part by part

module _ (p q : List ℕ) (is_p : IsPublisher p) (is_q : IsPublisher q) where
  free_p : NoSlash p
  free_p = component_free p is_p.form

  free_q : NoSlash q
  free_q = component_free q is_q.form

  abbrev of_catalog : List ℕ
  of_catalog = codes "catalog/catalog.base.C"

  abbrev of_manifest : List ℕ → Parts → List ℕ
  of_manifest s v = codes "pkg/" ++ (quoted s ++ (47 ∷ quoted (version_text v)))

  abbrev of_payload : PayloadName → List ℕ
  of_payload m = codes "file/" ++ (take 2 (spelling m) ++ (47 ∷ spelling m))

  pub manifest_catalog : (s : List ℕ) (v : Parts) → covers (manifest_place p s v) (catalog_place q) ≡ false
  manifest_catalog s v = false_from_ne_true (covers (manifest_place p s v) (catalog_place q)) (λ h.
      no (covers_split p q (of_manifest s v) of_catalog free_p free_q (covers_as (manifest_place p s v) (catalog_place q) (manifest_parts p s v) (catalog_place q) (manifest_form p s v) refl h)).1)

  pub catalog_manifest : (r : List ℕ) (w : Parts) → covers (catalog_place p) (manifest_place q r w) ≡ false
  catalog_manifest r w = false_from_ne_true (covers (catalog_place p) (manifest_place q r w)) (λ h.
      no (covers_split p q of_catalog (of_manifest r w) free_p free_q (covers_as (catalog_place p) (manifest_place q r w) (catalog_place p) (manifest_parts q r w) refl (manifest_form q r w) h)).1)

  pub manifest_payload : (s : List ℕ) (v : Parts) (m : PayloadName) → covers (manifest_place p s v) (payload_place q m) ≡ false
  manifest_payload s v m = false_from_ne_true (covers (manifest_place p s v) (payload_place q m)) (λ h.
      no (covers_split p q (of_manifest s v) (of_payload m) free_p free_q (covers_as (manifest_place p s v) (payload_place q m) (manifest_parts p s v) (payload_parts q m) (manifest_form p s v) (payload_form q m) h)).1)

  pub catalog_payload : (m : PayloadName) → covers (catalog_place p) (payload_place q m) ≡ false
  catalog_payload m = false_from_ne_true (covers (catalog_place p) (payload_place q m)) (λ h.
      no (covers_split p q of_catalog (of_payload m) free_p free_q (covers_as (catalog_place p) (payload_place q m) (catalog_place p) (payload_parts q m) refl (payload_form q m) h)).1)

  pub catalogs : covers (catalog_place p) (catalog_place q) ≡ true → p ≡ q
  catalogs h = (covers_split p q of_catalog of_catalog free_p free_q h).0

  pub manifests : (s r : List ℕ) (v w : Parts) → covers (manifest_place p s v) (manifest_place q r w) ≡ true → (p ≡ q) × (quoted s ≡ quoted r) × (quoted (version_text v) ≡ quoted (version_text w))
  manifests s r v w h =
      let first = covers_split p q (of_manifest s v) (of_manifest r w) free_p free_q
      (covers_as (manifest_place p s v) (manifest_place q r w) (manifest_parts p s v) (manifest_parts q r w) (manifest_form p s v) (manifest_form q r w) h) in
      let second = covers_split (quoted s) (quoted r) (quoted (version_text v)) (quoted (version_text w)) (quoted_free s) (quoted_free r) first.1 in
      (first.0, second.0, covers_last (quoted (version_text v)) (quoted (version_text w)) (quoted_free (version_text w)) second.1)

pub manifest_marked : (p s : List ℕ) (v : Parts) → covers (manifest_place p s v) mark_place ≡ false
manifest_marked p s v = refl

pub catalog_marked : (p : List ℕ) → covers (catalog_place p) mark_place ≡ false
catalog_marked p = refl
