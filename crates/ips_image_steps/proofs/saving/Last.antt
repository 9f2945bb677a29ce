-- What is last placed at a path.
use Rattle.std.proofs.Common.{◌≡◌, ◌+◌, ◌<◌, ℕ, Bool, true, false, cond, ◌||◌, List, [], ◌∷◌, ◌++◌, Option, Some, None, get_or, length, take, refl, sym, ◌∙◌, ap, subst}
use Rattle.std.specs.List.{AllByRecursion, flat_map, list_any}
use Rattle.std.proofs.lemmas.List.{flat_map_more}
use Rattle.ips_text.specs.Ancestry.{same_path}
use Rattle.ips_text.proofs.Ancestry.{same_path-true}
use Rattle.ips_text.proofs.Lists.{all_append, take_item}
use Rattle.ips_image_steps.specs.saving.Saving.{Placing, Saved, last_at}

pub last_append : (xs ys : List Placing) (q : List ℕ) (o : Option Saved) → last_at (xs ++ ys) q o ≡ last_at ys q (last_at xs q o)
last_append [] ys q o = refl
last_append (x ∷ xs) ys q o = last_append xs ys q (cond (same_path x.0 q) (Some x.1) o)

-- what one more of a list places comes behind what those before it do
pub last_then : {A : Type 0} (f : A → List Placing) (xs : List A) (x : A) (q : List ℕ) (o before after : Option Saved) → before ≡ last_at (flat_map f xs) q o → after ≡ last_at (f x) q before → after ≡ last_at (flat_map f (xs ++ x ∷ [])) q o
last_then f xs x q o before after so_far here =
    here ∙ ap (last_at (f x) q) so_far ∙ sym (last_append (flat_map f xs) (f x) q o) ∙ ap (λ (l : List Placing). last_at l q o) (flat_map_more f [] xs x)

-- the same of a list that is gone through
pub last_more : {A : Type 0} (f : A → List Placing) (xs : List A) (i : ℕ) (x : A) (q : List ℕ) (o before after : Option Saved) → i < length xs → x ≡ get_or xs i x
    → before ≡ last_at (flat_map f (take i xs)) q o → after ≡ last_at (f x) q before → after ≡ last_at (flat_map f (take (i + 1) xs)) q o
last_more {A = A} f xs i x q o before after lt is so_far here =
    last_then f (take i xs) x q o before after so_far here ∙ ap (λ (l : List A). last_at (flat_map f l) q o) (sym (take_item xs i x lt is))

-- some placing passes the test
abbrev pub any_at : List Placing → List ℕ → Bool
any_at placings q = list_any (λ x. same_path x.0 q) placings

-- The last that is placed at a path is of these, or none is.
pub data Fate (P : List ℕ → Saved → Type 0) (placings : List Placing) (q : List ℕ) (o : Option Saved) : Type 0 where
  At : (what : Saved) → P q what → last_at placings q o ≡ Some what → Fate P placings q o
  Off : last_at placings q o ≡ o → any_at placings q ≡ false → Fate P placings q o

pub fate : (P : List ℕ → Saved → Type 0) (placings : List Placing) (q : List ℕ) (o : Option Saved) → AllByRecursion (λ x. P x.0 x.1) placings → Fate P placings q o
fate P [] q o all = Off refl refl
fate P (x ∷ xs) q o all = go (same_path x.0 q) refl (fate P xs q (Some x.1) all.1) (fate P xs q o all.1)
  where
    over : (b : Bool) → same_path x.0 q ≡ b → last_at (x ∷ xs) q o ≡ last_at xs q (cond b (Some x.1) o)
    over b e = ap (λ (c : Bool). last_at xs q (cond c (Some x.1) o)) e

    here : same_path x.0 q ≡ true → Fate P xs q (Some x.1) → Fate P (x ∷ xs) q o
    here e (At what is last) = At what is (over true e ∙ last)
    here e (Off last none) = At x.1 (subst (λ (p : List ℕ). P p x.1) (same_path-true x.0 q e) all.0) (over true e ∙ last)

    later : same_path x.0 q ≡ false → Fate P xs q o → Fate P (x ∷ xs) q o
    later e (At what is last) = At what is (over false e ∙ last)
    later e (Off last none) = Off (over false e ∙ last) (ap (λ (b : Bool). b || any_at xs q) e ∙ none)

    go : (b : Bool) → same_path x.0 q ≡ b → Fate P xs q (Some x.1) → Fate P xs q o → Fate P (x ∷ xs) q o
    go true e one other = here e one
    go false e one other = later e other

-- what is placed last, where nothing was before, is of these
pub last_of : (P : List ℕ → Saved → Type 0) (placings : List Placing) (q : List ℕ) (what : Saved) → AllByRecursion (λ x. P x.0 x.1) placings → last_at placings q None ≡ Some what → P q what
last_of P placings q what all is = go (fate P placings q None all)
  where
    go : Fate P placings q None → P q what
    go (At other has last) = let one : other ≡ what = cc in subst (P q) one has
    go (Off last none) = let bad : None ≡ Some what = sym last ∙ is in cc

pub all_flat : {A B : Type 0} (P : B → Type 0) (f : A → List B) (xs : List A) → AllByRecursion (λ x. AllByRecursion P (f x)) xs → AllByRecursion P (flat_map f xs)
all_flat P f [] all = tt
all_flat P f (x ∷ xs) all = all_append P (f x) (flat_map f xs) all.0 (all_flat P f xs all.1)

pub each_always : {A : Type 0} (Q : A → Type 0) (xs : List A) → ((x : A) → Q x) → AllByRecursion Q xs
each_always Q [] always = tt
each_always Q (x ∷ xs) always = (always x, each_always Q xs always)
