-- Findings of one more path.
use Rattle.std.proofs.Common.{◌≡◌, ℕ, ◌+◌, Bool, List, [], ◌∷◌, ◌++◌, map, take, get_or, Option, Some, None, refl, sym, ◌∙◌, ap, subst, append_assoc, Contains}
use Rattle.std.specs.Prelude.{slice_get}
use Rattle.std.specs.List.Sorted.{IsStrictlySortedBy}
use Rattle.std.specs.Ordering.{nat_cmp}
use Rattle.std.specs.Cmp.Lexicographic.{slice_cmp}
use Rattle.std.proofs.lemmas.Option.{get_or_from_slice_get, slice_get_within}
use Rattle.std.proofs.lemmas.List.Elements.{Contains-get_or}
use Rattle.ips_text.proofs.Lists.{map_item}
use Rattle.ips_outside.specs.Image.{Image}
use Rattle.ips_after.specs.Findings.{Damage, Finding, finding, finding_as, finding_of, findings_at, with_finding}
use Rattle.ips_after.specs.Request.{Want, Wanted}
use Rattle.ips_after.proofs.Sorted.{sorted_once}
use Rattle.ips_meaning.specs.declared.entry.Entry.{Entry}
use Rattle.ips_change.specs.wanted.Wanted.{want_of, wanted_among, wanted_of}
use Rattle.ips_change.proofs.wanted.Found.{found_at}

with_more : (q : List ℕ) (d : Option Damage) (found more : List Finding) → with_finding q d (found ++ more) ≡ with_finding q d found ++ more
with_more q (Some d) found more = refl
with_more q None found more = refl

pub findings_more : (holds : List ℕ → List ℕ → Bool) (want : Want) (t : Image) (front : List (List ℕ)) (p : List ℕ)
    → findings_at holds want t (front ++ p ∷ []) ≡ findings_at holds want t front ++ with_finding p (finding holds want t p) []
findings_more holds want t [] p = refl
findings_more holds want t (q ∷ front) p =
    ap (with_finding q (finding holds want t q)) (findings_more holds want t front p)
    ∙ with_more q (finding holds want t q) (findings_at holds want t front) (with_finding p (finding holds want t p) [])

-- the next entry, and what is wanted at its path
module _ (entries : List (List ℕ × Entry)) (i : ℕ) (p : List ℕ) (e : Entry) (there : slice_get entries i ≡ Some (p, e)) where
  get : (p, e) ≡ get_or entries i (p, e)
  get = sym (get_or_from_slice_get entries i (p, e) (p, e) there)

  pub paths_next : map (λ (x : List ℕ × Entry). x.0) (take (i + 1) entries) ≡ map (λ (x : List ℕ × Entry). x.0) (take i entries) ++ p ∷ []
  paths_next = map_item (λ (x : List ℕ × Entry). x.0) entries i (p, e) (slice_get_within entries i (p, e) there) get

  pub wanted_there : IsStrictlySortedBy (slice_cmp nat_cmp) (map (λ (x : List ℕ × Entry). x.0) entries) → wanted_among entries p ≡ Some (wanted_of e)
  wanted_there order = found_at entries p e (sorted_once _ order)
      (subst (Contains entries) (sym get) (Contains-get_or entries i (p, e) (slice_get_within entries i (p, e) there)))

  -- what is found at the next entry's path, behind what is found before
  pub found_next : (holds : List ℕ → List ℕ → Bool) (t : Image) (first before : List Finding) → IsStrictlySortedBy (slice_cmp nat_cmp) (map (λ (x : List ℕ × Entry). x.0) entries)
      → before ≡ first ++ findings_at holds (want_of entries) t (map (λ (x : List ℕ × Entry). x.0) (take i entries))
      → before ++ with_finding p (finding_as holds t p (wanted_of e)) [] ≡ first ++ findings_at holds (want_of entries) t (map (λ (x : List ℕ × Entry). x.0) (take (i + 1) entries))
  found_next holds t first before order is =
      let paths : List (List ℕ) = map (λ (x : List ℕ × Entry). x.0) (take i entries) in
      let found : List (List ℕ) → List Finding = findings_at holds (want_of entries) t in
      let here : List Finding = with_finding p (finding_as holds t p (wanted_of e)) [] in
      let next : found (map (λ (x : List ℕ × Entry). x.0) (take (i + 1) entries)) ≡ found paths ++ here =
      ap found paths_next ∙ findings_more holds (want_of entries) t paths p
      ∙ ap (λ (w : Option Wanted). found paths ++ with_finding p (finding_of holds t p w) []) (wanted_there order) in
      ap (λ (l : List Finding). l ++ here) is ∙ append_assoc first (found paths) here ∙ ap (λ (l : List Finding). first ++ l) (sym next)
