-- Stems that are put in by their bytes.
use Rattle.std.proofs.Common.{◌≡◌, ℕ, zero, suc, ◌+◌, ◌<◌, Bool, true, false, ◌||◌, List, [], ◌∷◌, ◌++◌, map, take, length, get_or, slice_get, Some, None, option_map, refl, sym, ap, ◌∙◌, arith, bytes_eq}
use Rattle.std.specs.BTreeSet.{insert_key}
use Rattle.std.specs.Ordering.{match_ordering, nat_cmp}
use Rattle.std.specs.Cmp.Lexicographic.{slice_cmp}
use Rattle.std.specs.declared.cmp.Ordering.{Ordering}
use Rattle.std.specs.declared.cmp.Ordering.TheVariants.{Less, Equal, Greater}
use Rattle.std.proofs.lemmas.List.{take_more, take-map}
use Rattle.std.proofs.lemmas.List.Folds.{list_any-append}
use Rattle.std.proofs.lemmas.Option.{none-some, slice_get-map, slice_get_within, get_or_from_slice_get}
use Rattle.ips_action.proofs.KeyOrder.{equal_is}
use Rattle.ips_request.specs.Stems.{has}
use Rattle.ips_text.proofs.Truths.{or_false, or_twice, or_swapped}

-- a stem that was put in by its bytes is there, and so are the others
pub has_inserted : (x s : List ℕ) (ks : List (List ℕ)) → has x (insert_key (slice_cmp nat_cmp) ks s) ≡ (bytes_eq x s || has x ks)
has_inserted x s [] = refl
has_inserted x s (k ∷ ks) = step (slice_cmp nat_cmp s k) refl (has_inserted x s ks)
  where
    step : (o : Ordering) → slice_cmp nat_cmp s k ≡ o → has x (insert_key (slice_cmp nat_cmp) ks s) ≡ (bytes_eq x s || has x ks)
        → has x (match_ordering o (s ∷ k ∷ ks) (k ∷ ks) (k ∷ insert_key (slice_cmp nat_cmp) ks s)) ≡ (bytes_eq x s || (bytes_eq x k || has x ks))
    step Less e rest = refl
    step Equal e rest = or_twice (bytes_eq x k) (has x ks) ∙ ap (λ t. bytes_eq x t || (bytes_eq x k || has x ks)) (sym (equal_is s k e))
    step Greater e rest = ap (λ b. bytes_eq x k || b) rest ∙ or_swapped (bytes_eq x k) (bytes_eq x s) (has x ks)

pub or_ends : (a b : Bool) → (a || (b || false)) ≡ (b || a)
or_ends true true = refl
or_ends true false = refl
or_ends false true = refl
or_ends false false = refl

or_moved : (a b r : Bool) → (a || (b || r)) ≡ ((b || a) || r)
or_moved true true r = refl
or_moved true false r = refl
or_moved false true r = refl
or_moved false false r = refl

-- one stem more
pub has_next : (x s : List ℕ) (before after init old new : List (List ℕ)) → after ≡ before ++ s ∷ [] → has x old ≡ (has x before || has x init) → has x new ≡ (bytes_eq x s || has x old) → has x new ≡ (has x after || has x init)
has_next x s before after init old new split done now =
    now ∙ ap (λ b. bytes_eq x s || b) done ∙ or_moved (bytes_eq x s) (has x before) (has x init)
    ∙ ap (λ b. b || has x init) (ap (λ b. has x before || b) (or_false (bytes_eq x s)) ∙ sym (list_any-append (bytes_eq x) before (s ∷ [])) ∙ sym (ap (has x) split))

-- one element more, which is looked up by its number
pub number_next : {X : Type 0} (f : X → List ℕ) (xs : List X) (i : ℕ) (s : List ℕ) → Some s ≡ option_map f (slice_get xs i) → map f (take (i + 1) xs) ≡ map f (take i xs) ++ s ∷ []
number_next f xs i s e =
    let there : slice_get (map f xs) i ≡ Some s = slice_get-map f xs i ∙ sym e in
    sym (take-map f (i + 1) xs) ∙ take_more (map f xs) i s (slice_get_within (map f xs) i s there)
    ∙ ap (λ l. l ++ get_or (map f xs) i s ∷ []) (take-map f i xs) ∙ ap (λ z. map f (take i xs) ++ z ∷ []) (get_or_from_slice_get (map f xs) i s s there)

-- a number of the list has an element
pub number_there : {X : Type 0} (f : X → List ℕ) (xs : List X) (i : ℕ) → i < length xs → None ≡ option_map f (slice_get xs i) → ⊥
number_there f [] i l e = absurd (omega arith)
number_there f (x ∷ xs) zero l e = none-some (f x) e
number_there f (x ∷ xs) (suc i) l e = number_there f xs i (omega arith) e
