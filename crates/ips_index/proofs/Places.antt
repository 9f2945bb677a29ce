-- A row that is kept in one text, with the places of its parts.
use Rattle.std.proofs.Common.{◌≡◌, ◌∙◌, ◌≤◌, ◌-◌, ◌++◌, ℕ, List, length, take, drop, refl, sym, ap, subst, arith}
use Rattle.std.specs.Str.{IsUtf8, IsCharBoundary}
use Rattle.std.proofs.Math.Seq.{drop-append_seam, take-append_seam}
use Rattle.std.proofs.lemmas.List.{drop-append-le, length-append, length-drop}
use Rattle.std.proofs.lemmas.Str.{IsCharBoundary-at_seam, IsCharBoundary-from_drop, IsUtf8-append, IsUtf8-drop}
use Rattle.ips_action.specs.declared.kind.ActionKind.{ActionKind}
use Rattle.ips_index.specs.declared.entry.Field.{Field}
use Rattle.ips_index.specs.Entries.{row_of, row_at, ArePlaces}
use Rattle.ips_index.proofs.Order.{same}

-- what the value ends with begins at a character of the whole text too
cut_on : (value stem : List ℕ) (token : ℕ) → IsUtf8 value → IsUtf8 stem → IsCharBoundary value token → IsCharBoundary (value ++ stem) token
cut_on value stem token of_value of_stem cut =
    IsCharBoundary-from_drop (value ++ stem) token (omega (arith, length-append value stem, cut.0))
    (subst IsUtf8 (sym (drop-append-le token value stem cut.0)) (IsUtf8-append (drop token value) stem (IsUtf8-drop value token of_value cut) of_stem))

pub places_of : (value stem : List ℕ) (token : ℕ) → IsUtf8 value → IsUtf8 stem → IsCharBoundary value token → ArePlaces token (length value) (value ++ stem)
places_of value stem token of_value of_stem cut = record {
  ordered = cut.0;
  token_cut = cut_on value stem token of_value of_stem cut;
  stem_cut = IsCharBoundary-at_seam (value ++ stem) value stem refl of_stem;
}

pub row_kept : (kind : ActionKind) (field : Field) (value stem : List ℕ) (token : ℕ) → token ≤ length value → row_at kind field token (length value) (value ++ stem) ≡ row_of kind field (drop token value) value stem
row_kept kind field value stem token le =
    same (row_at kind field token (length value) (value ++ stem)) (row_of kind field (drop token value) value stem)
    (ap (take (length value - token)) (drop-append-le token value stem le) ∙ ap (λ (n : ℕ). take n (drop token value ++ stem)) (sym (length-drop token value)) ∙ take-append_seam (drop token value) stem) refl refl
    (take-append_seam value stem) (drop-append_seam value stem)
