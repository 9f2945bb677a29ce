-- The text of the file `image`, part by part.
use denote.Ref.{Bor}
use Rattle.std.specs.Prelude.{OnOk, is_ok, if◌then◌else◌}
use Rattle.std.proofs.Common.{◌≡◌, ℕ, Bool, Result, Ok, Err, List, [], ◌∷◌, ◌++◌, map, refl, sym, ◌∙◌, ap, arith, append_assoc}
use Rattle.std.specs.Prelude.{codes}
use Rattle.std.specs.List.{flat_map}
use Rattle.std.proofs.lemmas.Fmt.{decimal_digit}
use Rattle.std.proofs.lemmas.List.Concat.{flat_map-cons}
use Rattle.std.proofs.lemmas.List.Folds.{flat_map-map}
use Rattle.ips_records.specs.Lines.{ended, lines_text}
use Rattle.ips_state.specs.State.{Head}
use Rattle.ips_state.specs.Text.{format_line, publisher_line, origin_line, actuator_lines, variant_line, facet_line, head_lines}

pub first_format : (n : ℕ) → n ≡ 1 → codes "image 1\n" ≡ ended (format_line n)
first_format n is = rw is (sym (ap (λ (d : List ℕ). ended (codes "image " ++ d)) (decimal_digit 1 (omega arith))))

pub second_format : (n : ℕ) → n ≡ 2 → codes "image 2\n" ≡ ended (format_line n)
second_format n is = rw is (sym (ap (λ (d : List ℕ). ended (codes "image " ++ d)) (decimal_digit 2 (omega arith))))

pub variants_text : (all : List (Bor (List ℕ) × Bor (List ℕ))) (variants : List (List ℕ × List ℕ)) → map (λ (x : Bor (List ℕ) × Bor (List ℕ)). (x.0.now, x.1.now)) all ≡ variants
    → flat_map (λ (v : Bor (List ℕ) × Bor (List ℕ)). ended (variant_line (v.0.now, v.1.now))) all ≡ lines_text (map variant_line variants)
variants_text all variants is =
    sym (flat_map-map (λ (v : List ℕ × List ℕ). ended (variant_line v)) (λ (x : Bor (List ℕ) × Bor (List ℕ)). (x.0.now, x.1.now)) all)
    ∙ ap (flat_map (λ (v : List ℕ × List ℕ). ended (variant_line v))) is ∙ sym (flat_map-map ended variant_line variants)

pub facets_text : (all : List (Bor (List ℕ) × Bool)) (facets : List (List ℕ × Bool)) → map (λ (x : Bor (List ℕ) × Bool). (x.0.now, x.1)) all ≡ facets
    → flat_map (λ (f : Bor (List ℕ) × Bool). ended (facet_line (f.0.now, f.1))) all ≡ lines_text (map facet_line facets)
facets_text all facets is =
    sym (flat_map-map (λ (f : List ℕ × Bool). ended (facet_line f)) (λ (x : Bor (List ℕ) × Bool). (x.0.now, x.1)) all)
    ∙ ap (flat_map (λ (f : List ℕ × Bool). ended (facet_line f))) is ∙ sym (flat_map-map ended facet_line facets)

lines_append : (a b : List (List ℕ)) → lines_text (a ++ b) ≡ lines_text a ++ lines_text b
lines_append [] b = refl
lines_append (x ∷ a) b =
    flat_map-cons ended x (a ++ b) ∙ ap (λ (l : List ℕ). ended x ++ l) (lines_append a b) ∙ sym (append_assoc (ended x) (lines_text a) (lines_text b))
    ∙ sym (ap (λ (l : List ℕ). l ++ lines_text b) (flat_map-cons ended x a))

shift : (f s o a v e : List ℕ) → f ++ (s ++ (((o ++ a) ++ v) ++ e)) ≡ ((((f ++ s) ++ o) ++ a) ++ v) ++ e
shift f s o a v e =
    sym (append_assoc f s (((o ++ a) ++ v) ++ e))
    ∙ sym (append_assoc (f ++ s) ((o ++ a) ++ v) e)
    ∙ ap (λ (l : List ℕ). l ++ e) (sym (append_assoc (f ++ s) (o ++ a) v) ∙ ap (λ (l : List ℕ). l ++ v) (sym (append_assoc (f ++ s) o a)))

-- the parts one behind the other, as they are written
abbrev pub head_parts : Head → List ℕ
head_parts h =
    (((([] ++ ended (format_line h.format)) ++ ended (publisher_line h.publisher)) ++ lines_text (map origin_line h.origins)) ++ lines_text (actuator_lines h.actuator))
    ++ lines_text (map variant_line h.settings.variants) ++ lines_text (map facet_line h.settings.facets)

pub parts_are_head : (h : Head) → head_parts h ≡ lines_text (head_lines h)
parts_are_head h =
    let origins = map origin_line h.origins in
    let actuator = actuator_lines h.actuator in
    let variants = map variant_line h.settings.variants in
    let facets = map facet_line h.settings.facets in
    let first = format_line h.format in
    let second = publisher_line h.publisher in
    sym (flat_map-cons ended first (second ∷ (origins ++ actuator ++ variants ++ facets))
    ∙ ap (λ (l : List ℕ). ended first ++ l) (flat_map-cons ended second (origins ++ actuator ++ variants ++ facets))
    ∙ ap (λ (l : List ℕ). ended first ++ (ended second ++ l)) (lines_append (origins ++ actuator ++ variants) facets
    ∙ ap (λ (l : List ℕ). l ++ lines_text facets) (lines_append (origins ++ actuator) variants
    ∙ ap (λ (l : List ℕ). l ++ lines_text variants) (lines_append origins actuator)))
    ∙ shift (ended first) (ended second) (lines_text origins) (lines_text actuator) (lines_text variants) (lines_text facets))

-- what was written where nothing failed
pub where_ok : {X E : Type 0} (r : Result X E) (new more old : List ℕ) → new ≡ (if is_ok r then more else old) → OnOk r (new ≡ more)
where_ok (Ok x) new more old e = e
where_ok (Err x) new more old e = tt
