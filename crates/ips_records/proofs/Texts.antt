-- A text and its lines.
use Rattle.std.proofs.Common.{◌≡◌, ℕ, Bool, true, false, cond, eqb, List, [], ◌∷◌, ◌++◌, map, refl, sym, ◌∙◌, ap, append_assoc}
use Rattle.std.specs.List.{AllByRecursion, flat_map, onto_first}
use Rattle.std.proofs.lemmas.List.{append_cancel_right}
use Rattle.std.proofs.lemmas.List.Concat.{flat_map-cons}
use Rattle.std.proofs.lemmas.List.Folds.{flat_map-map}
use Rattle.ips_text.specs.Cut.{has_byte}
use Rattle.ips_records.specs.Lines.{ended, lines_text, lines_in}
use Rattle.ips_records.proofs.First.{line_ends}

-- the lines one after another
abbrev joined : List (List ℕ) → List ℕ
joined lines = flat_map (λ (l : List ℕ). l) lines

joined_onto : (b : ℕ) (lines : List (List ℕ)) → joined (onto_first b lines) ≡ b ∷ joined lines
joined_onto b [] = flat_map-cons (λ (l : List ℕ). l) (b ∷ []) []
joined_onto b (line ∷ lines) = flat_map-cons (λ (l : List ℕ). l) (b ∷ line) lines ∙ ap (λ (l : List ℕ). b ∷ l) (sym (flat_map-cons (λ (l : List ℕ). l) line lines))

joined_lines : (bytes : List ℕ) → joined (lines_in bytes) ≡ bytes
joined_lines [] = refl
joined_lines (b ∷ bytes) = go (eqb b 10) (joined_lines bytes)
  where
    go : (here : Bool) → joined (lines_in bytes) ≡ bytes → joined (cond here ((b ∷ []) ∷ lines_in bytes) (onto_first b (lines_in bytes))) ≡ b ∷ bytes
    go true later = flat_map-cons (λ (l : List ℕ). l) (b ∷ []) (lines_in bytes) ∙ ap (λ (l : List ℕ). b ∷ l) later
    go false later = joined_onto b (lines_in bytes) ∙ ap (λ (l : List ℕ). b ∷ l) later

-- a text whose lines are these is the text of these
pub text_is : (bytes : List ℕ) (lines : List (List ℕ)) → lines_in bytes ≡ map ended lines → bytes ≡ lines_text lines
text_is bytes lines e = sym (joined_lines bytes) ∙ ap joined e ∙ flat_map-map (λ (l : List ℕ). l) ended lines

-- the lines of the text of lines that have no newline
pub text_lines : (lines : List (List ℕ)) → AllByRecursion (λ (line : List ℕ). has_byte 10 line ≡ false) lines → lines_in (lines_text lines) ≡ map ended lines
text_lines [] none = refl
text_lines (line ∷ lines) none =
    ap lines_in (flat_map-cons ended line lines ∙ append_assoc line (10 ∷ []) (lines_text lines))
    ∙ line_ends line (lines_text lines) none.0
    ∙ ap (λ (l : List (List ℕ)). ended line ∷ l) (text_lines lines none.1)
