-- Forms of words: what each word of a line has to be.
use Rattle.std.specs.Prelude.{ℕ, List, [], ◌∷◌}

-- a word, as its bytes
abbrev pub Word : Type 0
Word = List ℕ

-- what each word has to be, one after the other
abbrev pub Form : Type 1
Form = List (Word → Type 0)

-- the words are all those of the form
abbrev pub AreOf : Form → List Word → Type 0
AreOf [] [] = Unit {0}
AreOf [] (w ∷ words) = ⊥
AreOf (P ∷ form) [] = ⊥
AreOf (P ∷ form) (w ∷ words) = P w × AreOf form words

-- the words are the first ones of the form
abbrev pub Begin : Form → List Word → Type 0
Begin form [] = Unit {0}
Begin [] (w ∷ words) = ⊥
Begin (P ∷ form) (w ∷ words) = P w × Begin form words
