-- Lists of one word, and of four.
use Rattle.std.proofs.Common.{◌≡◌, ℕ, ◌<◌, ◌≤◌, List, [], ◌∷◌, length, get_or, sym, ap, ◌∙◌, arith}

pub one_word : (words : List (List ℕ)) (v w : List ℕ) → 1 ≤ length words → length words < 2 → v ≡ get_or words 0 v → v ≡ w → w ∷ [] ≡ words
one_word [] v w some few at same = absurd (omega arith)
one_word (a ∷ []) v w some few at same = ap (λ (x : List ℕ). x ∷ []) (sym same ∙ at)
one_word (a ∷ b ∷ words) v w some few at same = absurd (omega arith)

pub four_words : (words : List (List ℕ)) (v k p t a b c d : List ℕ) → 4 ≤ length words → length words < 5 → a ≡ get_or words 0 a → b ≡ get_or words 1 b → c ≡ get_or words 2 c → d ≡ get_or words 3 d
    → a ≡ v → k ≡ b → p ≡ c → t ≡ d → v ∷ k ∷ p ∷ t ∷ [] ≡ words
four_words [] v k p t a b c d some few e f g h m n o q = absurd (omega arith)
four_words (x ∷ []) v k p t a b c d some few e f g h m n o q = absurd (omega arith)
four_words (x ∷ y ∷ []) v k p t a b c d some few e f g h m n o q = absurd (omega arith)
four_words (x ∷ y ∷ z ∷ []) v k p t a b c d some few e f g h m n o q = absurd (omega arith)
four_words (x ∷ y ∷ z ∷ u ∷ []) v k p t a b c d some few e f g h m n o q = cc
four_words (x ∷ y ∷ z ∷ u ∷ w ∷ words) v k p t a b c d some few e f g h m n o q = absurd (omega arith)
