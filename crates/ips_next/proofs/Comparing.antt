-- What comparisons tell.
use Rattle.std.proofs.Common.{◌≡◌, Bool, false, List, [], ◌∷◌, map, Some, IsTrue, refl, sym, ap, ◌∙◌}
use Rattle.std.specs.Cmp.{Equal-is}
use Rattle.std.specs.Ordering.{eq_by_cmp, is_eq}
use Rattle.std.proofs.lemmas.Bool.{true≢false}
use Rattle.std.proofs.lemmas.Option.{same_Some}
use Rattle.ips_fmri.specs.Version.{Parts}
use Rattle.ips_fmri.specs.Order.{version_cmp}
use Rattle.ips_mediate.proofs.Compared.{version_tie}
use Rattle.ips_next.specs.Alike.{AreAlike}

-- versions that compare equal are one
pub version_same : (v w : Parts) (b : Bool) → b ≡ eq_by_cmp version_cmp v w → (IsTrue b → v ≡ w) × (v ≡ w → IsTrue b)
version_same v w b e = (
  λ t. same_Some v w ((version_tie (Some v) (Some w)).0 ((Equal-is (version_cmp v w)).0 (sym e ∙ t))),
  λ s. e ∙ ap is_eq ((version_tie (Some v) (Some w)).1 (ap (λ (x : Parts). Some x) s)),
)

module _ {A B : Type 0} (R : A → A → Type 0) (f : A → B) where
  -- lists that are alike show the same
  pub alike_shown : ((x y : A) → R x y → f x ≡ f y) → (xs ys : List A) → AreAlike R xs ys → map f xs ≡ map f ys
  alike_shown same [] [] all = refl
  alike_shown same [] (y ∷ ys) all = absurd all
  alike_shown same (x ∷ xs) [] all = absurd all
  alike_shown same (x ∷ xs) (y ∷ ys) all = λ i. same x y all.0 i ∷ alike_shown same xs ys all.1 i

  first_of : (x y : B) (xs ys : List B) → x ∷ xs ≡ y ∷ ys → x ≡ y
  first_of x y xs ys e = cc

  rest_of : (x y : B) (xs ys : List B) → x ∷ xs ≡ y ∷ ys → xs ≡ ys
  rest_of x y xs ys e = cc

  no_first : (y : B) (ys : List B) → [] ≡ y ∷ ys → ⊥
  no_first y ys e = cc

  -- and those that show the same are alike
  pub shown_alike : ((x y : A) → f x ≡ f y → R x y) → (xs ys : List A) → map f xs ≡ map f ys → AreAlike R xs ys
  shown_alike same [] [] e = tt
  shown_alike same [] (y ∷ ys) e = no_first (f y) (map f ys) e
  shown_alike same (x ∷ xs) [] e = no_first (f x) (map f xs) (sym e)
  shown_alike same (x ∷ xs) (y ∷ ys) e = (same x y (first_of (f x) (f y) (map f xs) (map f ys) e), shown_alike same xs ys (rest_of (f x) (f y) (map f xs) (map f ys) e))

pub itself : {A : Type 0} (xs : List A) → map (λ (x : A). x) xs ≡ xs
itself [] = refl
itself (x ∷ xs) = ap (λ (l : List _). x ∷ l) (itself xs)

-- lists of things that are equal one by one are equal, and the other way round
pub all_equal : {A : Type 0} (xs ys : List A) → AreAlike (λ (x y : A). x ≡ y) xs ys → xs ≡ ys
all_equal xs ys all = sym (itself xs) ∙ alike_shown (λ x y. x ≡ y) (λ x. x) (λ x y e. e) xs ys all ∙ itself ys

pub equal_all : {A : Type 0} (xs ys : List A) → xs ≡ ys → AreAlike (λ (x y : A). x ≡ y) xs ys
equal_all xs ys e = shown_alike (λ x y. x ≡ y) (λ x. x) (λ x y e. e) xs ys (itself xs ∙ e ∙ sym (itself ys))

-- ---- answers

-- where the answer is no, nothing that would make it yes holds
pub refused : {P : Type 0} (b : Bool) → b ≡ false → (P → IsTrue b) → (IsTrue false → P) × (P → IsTrue false)
refused b e f = (λ t. absurd (true≢false (sym t)), λ p. sym e ∙ f p)

-- an answer on lists that are alike is one on what they show
pub shown_same : {A B : Type 0} (R : A → A → Type 0) (f : A → B) (xs ys ps qs : List A) (old new : List B) (b : Bool) → ((x y : A) → R x y → f x ≡ f y) → ((x y : A) → f x ≡ f y → R x y)
    → xs ≡ ps → ys ≡ qs → map f ps ≡ old → map f qs ≡ new → (IsTrue b → AreAlike R xs ys) × (AreAlike R xs ys → IsTrue b) → (IsTrue b → new ≡ old) × (new ≡ old → IsTrue b)
shown_same R f xs ys ps qs old new b to from x y one other both = (
  λ t. sym (sym one ∙ ap (map f) (sym x) ∙ alike_shown R f to xs ys (both.0 t) ∙ ap (map f) y ∙ other),
  λ e. both.1 (shown_alike R f from xs ys (ap (map f) x ∙ one ∙ sym e ∙ sym other ∙ sym (ap (map f) y))),
)
