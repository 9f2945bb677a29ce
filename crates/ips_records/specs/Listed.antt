-- Files of one item a line.
use Rattle.std.specs.Prelude.{◌≡◌, ℕ, List, [], ◌∷◌, map}
use Rattle.std.specs.List.{AllByRecursion}
use Rattle.ips_records.specs.Lines.{ended}

-- Each item may stand behind the one before it.
abbrev pub Chain : {A : Type 0} → (A → A → Type 0) → List A → Type 0
Chain Follows [] = Unit {0}
Chain Follows (x ∷ []) = Unit {0}
Chain Follows (x ∷ y ∷ xs) = Follows x y × Chain Follows (y ∷ xs)

-- The item fits, and no other that fits has its line.
pub record Sole {A : Type 0} (line : A → List ℕ) (Fits : A → Type 0) (x : A) : Type 0 where
  pub fits : Fits x
  pub alone : (other : A) → Fits other → line other ≡ line x → other ≡ x

-- The lines, each with its newline, are those of items that fit, in order.
abbrev pub IsListed : {A : Type 0} → (A → List ℕ) → (A → Type 0) → (A → A → Type 0) → List (List ℕ) → Type 0
IsListed {A} line Fits Follows lines = (items : List A) × AllByRecursion Fits items × Chain Follows items × (lines ≡ map ended (map line items))

-- The item may stand behind these: behind the last one, if there is one.
abbrev pub MayEnd : {A : Type 0} → (A → A → Type 0) → List A → A → Type 0
MayEnd Follows [] x = Unit {0}
MayEnd Follows (y ∷ []) x = Follows y x
MayEnd Follows (y ∷ z ∷ ys) x = MayEnd Follows (z ∷ ys) x

-- No item can come next: the lines begin with that of none that fits and may stand behind these.
abbrev pub NoneNext : {A : Type 0} → (A → List ℕ) → (A → Type 0) → (A → A → Type 0) → List A → List (List ℕ) → Type 0
NoneNext {A} line Fits Follows items lines = (item : A) (others : List (List ℕ)) → Fits item → MayEnd Follows items item → lines ≡ ended (line item) ∷ others → ⊥
