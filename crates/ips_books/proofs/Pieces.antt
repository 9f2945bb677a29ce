-- The lines of a text.
use Rattle.std.proofs.Common.{◌≡◌, ℕ, Bool, true, false, cond, eqb, List, [], ◌∷◌, refl, sym, ap, ◌∙◌}
use Rattle.std.proofs.lemmas.Bool.{eqb-true}
use Rattle.ips_books.specs.Lines.{AccountLine, onto_line, account_lines, account_text}

onto_same : (b : ℕ) (lines : List AccountLine) → account_text (onto_line b lines) ≡ b ∷ account_text lines
onto_same b [] = refl
onto_same b (line ∷ lines) = refl

-- The text of its lines is the text.
pub text_of-lines_of : (bytes : List ℕ) → account_text (account_lines bytes) ≡ bytes
text_of-lines_of [] = refl
text_of-lines_of (b ∷ bytes) = go (eqb b 10) refl (text_of-lines_of bytes)
  where
    go : (t : Bool) → eqb b 10 ≡ t → account_text (account_lines bytes) ≡ bytes → account_text (cond t (record { text = []; ended = true } ∷ account_lines bytes) (onto_line b (account_lines bytes))) ≡ b ∷ bytes
    go true e rest = ap (λ (c : ℕ). c ∷ account_text (account_lines bytes)) (sym (eqb-true b 10 e)) ∙ ap (λ (l : List ℕ). b ∷ l) rest
    go false e rest = onto_same b (account_lines bytes) ∙ ap (λ (l : List ℕ). b ∷ l) rest
