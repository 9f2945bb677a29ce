-- No two lists of items have one text.
use Rattle.std.proofs.Common.{◌≡◌, ℕ, false, List, [], ◌∷◌, ◌++◌, map, refl, sym, ◌∙◌, ap, ap₂}
use Rattle.std.specs.List.{AllByRecursion}
use Rattle.std.proofs.lemmas.List.{append_cancel_right}
use Rattle.ips_text.specs.Cut.{has_byte}
use Rattle.ips_records.specs.Lines.{ended, lines_text, lines_in}
use Rattle.ips_records.proofs.Texts.{text_lines}

module _ {A : Type 0} (line : A → List ℕ) (Fits : A → Type 0) (one : (a b : A) → Fits a → Fits b → line a ≡ line b → a ≡ b) where
  lines_apart : (items others : List A) → AllByRecursion Fits items → AllByRecursion Fits others → map ended (map line items) ≡ map ended (map line others) → items ≡ others
  lines_apart [] [] fi fo e = refl
  lines_apart [] (y ∷ others) fi fo e = absurd cc
  lines_apart (x ∷ items) [] fi fo e = absurd cc
  lines_apart (x ∷ items) (y ∷ others) fi fo e =
      let first : ended (line x) ≡ ended (line y) = cc in
      let rest : map ended (map line items) ≡ map ended (map line others) = cc in
      ap₂ (λ (a : A) (l : List A). a ∷ l) (one x y fi.0 fo.0 (append_cancel_right (line x) (line y) (10 ∷ []) first)) (lines_apart items others fi.1 fo.1 rest)

  module _ (single : (a : A) → Fits a → has_byte 10 (line a) ≡ false) where
    all_single : (items : List A) → AllByRecursion Fits items → AllByRecursion (λ (l : List ℕ). has_byte 10 l ≡ false) (map line items)
    all_single [] fits = tt
    all_single (x ∷ items) fits = (single x fits.0, all_single items fits.1)

    pub texts_apart : (items others : List A) → AllByRecursion Fits items → AllByRecursion Fits others → lines_text (map line items) ≡ lines_text (map line others) → items ≡ others
    texts_apart items others fi fo e =
        lines_apart items others fi fo (sym (text_lines (map line items) (all_single items fi)) ∙ ap lines_in e ∙ text_lines (map line others) (all_single others fo))
