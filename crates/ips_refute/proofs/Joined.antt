-- How lists are written, piece by piece.
use Rattle.std.proofs.Common.{◌≡◌, ℕ, List, [], ◌∷◌, ◌++◌, refl, sym, ap, ◌∙◌}
use Rattle.std.specs.Prelude.{map}
use Rattle.std.specs.List.{flat_map, join_with_byte}
use Rattle.std.proofs.lemmas.List.{append-nil}
use Rattle.std.proofs.lemmas.List.Concat.{flat_map-cons}
use Rattle.ips_refute.specs.declared.nogoods.Nogood.{Nogood}
use Rattle.ips_refute.specs.Text.{entry_of, entries, entry_text}

-- the values behind the first, each behind its mark
pub joined : {A : Type 0} (mark : ℕ) (spell : A → List ℕ) (x : A) (xs : List A) → join_with_byte mark (map spell (x ∷ xs)) ≡ spell x ++ flat_map (λ y. mark ∷ spell y) xs
joined mark spell x [] = sym (append-nil (spell x))
joined mark spell x (y ∷ xs) = ap (λ (l : List ℕ). spell x ++ (mark ∷ l)) (joined mark spell y xs) ∙ ap (λ (l : List ℕ). spell x ++ l) (sym (flat_map-cons (λ z. mark ∷ spell z) y xs))

-- a line for each nogood
pub lines : (ns : List Nogood) → flat_map (λ (g : Nogood). entry_text (entry_of g)) ns ≡ flat_map entry_text (entries ns)
lines [] = refl
lines (g ∷ ns) =
    flat_map-cons (λ (g : Nogood). entry_text (entry_of g)) g ns
    ∙ ap (λ (l : List ℕ). entry_text (entry_of g) ++ l) (lines ns)
    ∙ sym (flat_map-cons entry_text (entry_of g) (entries ns))
