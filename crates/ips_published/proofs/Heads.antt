-- Paths that begin otherwise than the updater's own names.
use Rattle.std.proofs.Common.{◌≡◌, ℕ, Bool, true, false, ◌||◌, eqb, List, [], ◌∷◌, ◌++◌, Option, None, inl, inr, refl, sym, ap, ◌∙◌}
use Rattle.std.specs.Prelude.{codes, cond, Err}
use Rattle.std.proofs.lemmas.Bool.{and_parts, eqb-true, eq-eqb, or_cases, false_from_ne_true}
use Rattle.ips_text.specs.Ancestry.{covers}
use Rattle.ips_outside.specs.Image.{Image, file_bytes}
use Rattle.ips_files.specs.Files.{file_at}
use Rattle.ips_steps.specs.Steps.{stage_name}
use Rattle.ips_steps.specs.Private.{records_name, journal_name, gate_name, mark_front, begins, is_private, visible}
use Rattle.ips_steps.proofs.Lists.{clash}
use Rattle.ips_repo.specs.Places.{mark_place, catalog_place}
use Rattle.ips_repo.specs.Mark.{is_mark_file}
use Rattle.ips_repo.specs.Opening.{opening, catalog_in}
use Rattle.ips_repo.specs.declared.fault.RepoFault.TheVariants as fault

other_head : (a b : ℕ) (x y q : List ℕ) → eqb a b ≡ false → covers (a ∷ x) q ≡ true → covers (b ∷ y) q ≡ false
other_head a b x y [] apart h = refl
other_head a b x y (c ∷ q) apart h =
    let same : a ≡ c = eqb-true a c (and_parts (eqb a c) (covers x q) h).0 in
    false_from_ne_true (covers (b ∷ y) (c ∷ q)) (λ over.
    let other : b ≡ c = eqb-true b c (and_parts (eqb b c) (covers y q) over).0 in
    clash (eqb a b) (eq-eqb a b (same ∙ sym other)) apart)

other_begin : (a b : ℕ) (x y q : List ℕ) → eqb a b ≡ false → begins (a ∷ x) q ≡ true → covers (b ∷ y) q ≡ false
other_begin a b x y [] apart h = refl
other_begin a b x y (c ∷ q) apart h =
    let same : a ≡ c = eqb-true a c (and_parts (eqb a c) (begins x q) h).0 in
    false_from_ne_true (covers (b ∷ y) (c ∷ q)) (λ over.
    let other : b ≡ c = eqb-true b c (and_parts (eqb b c) (covers y q) over).0 in
    clash (eqb a b) (eq-eqb a b (same ∙ sym other)) apart)

-- an own name of the updater isn't below a path that begins with a `p`
pub private_head : (x q : List ℕ) → is_private q ≡ true → covers (112 ∷ x) q ≡ false
unfolding stage_name journal_name gate_name mark_front
private_head x q own = elim (or_cases (covers stage_name q) (covers journal_name q || (covers gate_name q || begins mark_front q)) own) [
  | inl stage ↦ other_head 118 112 (codes "ar/pkg/stage") x q refl stage
  | inr rest ↦ elim (or_cases (covers journal_name q) (covers gate_name q || begins mark_front q) rest) [
    | inl journal ↦ other_head 118 112 (codes "ar/pkg/journal") x q refl journal
    | inr more ↦ elim (or_cases (covers gate_name q) (begins mark_front q) more) [
      | inl gate ↦ other_head 118 112 (codes "ar/pkg/gate") x q refl gate
      | inr mark ↦ other_begin 118 112 (codes "ar/pkg/done.") x q refl mark
    ]
  ]
]

-- such a path is none of the own names
pub seen_head : (x : List ℕ) → is_private (112 ∷ x) ≡ false
unfolding stage_name journal_name gate_name mark_front
seen_head x = refl

-- nor is it at or above the directory of the records
pub records_head : (x : List ℕ) → covers (112 ∷ x) records_name ≡ false
unfolding records_name
records_head x = refl

-- a file there is seen
pub file_seen : (t : Image) (x : List ℕ) → file_at (visible t) (112 ∷ x) ≡ file_at t (112 ∷ x)
file_seen t x = ap (λ (b : Bool). file_bytes (cond b None (t.look (112 ∷ x)))) (seen_head x)

-- so the catalog is read from what is seen
pub opening_seen : (t : Image) (publisher : List ℕ) → opening publisher (visible t) ≡ opening publisher t
opening_seen t publisher =
    ap (λ (f : Option (List ℕ)). cond (is_mark_file f) (catalog_in publisher (file_at (visible t) (catalog_place publisher))) (Err fault.NoRepository)) (file_seen t (codes "kg5.repository"))
    ∙ ap (λ (f : Option (List ℕ)). cond (is_mark_file (file_at t mark_place)) (catalog_in publisher f) (Err fault.NoRepository)) (file_seen t (codes "ublisher/" ++ publisher ++ codes "/catalog/catalog.base.C"))
