-- Which folders the words of the command line name.
use Rattle.std.specs.Prelude.{◌≡◌, ◌∷◌, ℕ, List, codes}

-- Where the words begin `-R <image> -s <repository>`, this is the path of the image.
abbrev pub IsImageOf : List (List ℕ) → List ℕ → Type 0
IsImageOf words root = (path repository : List ℕ) (rest : List (List ℕ)) → words ≡ codes "-R" ∷ path ∷ codes "-s" ∷ repository ∷ rest → root ≡ path

-- The same of the path of the repository.
abbrev pub IsRepositoryOf : List (List ℕ) → List ℕ → Type 0
IsRepositoryOf words root = (image path : List ℕ) (rest : List (List ℕ)) → words ≡ codes "-R" ∷ image ∷ codes "-s" ∷ path ∷ rest → root ≡ path
