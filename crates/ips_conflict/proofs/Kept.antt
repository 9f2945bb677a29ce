-- Paths kept in a set or a map.
use Rattle.std.proofs.Common.{◌≡◌, ℕ, Bool, true, false, cond, ◌||◌, List, [], ◌∷◌, Vec, Global, Option, Some, Ordering, Less, Equal, Greater, nat_cmp, is_eq, refl, sym, ◌∙◌, ap}
use Rattle.std.specs.List.{list_any}
use Rattle.std.specs.Map.{lookup}
use Rattle.std.specs.BTreeMap.{insert_entry}
use Rattle.std.specs.BTreeSet.{insert_key}
use Rattle.std.specs.Cmp.Lexicographic.{slice_cmp}
use Rattle.std.proofs.lemmas.Bool.{true≢false}
use Rattle.std.proofs.lemmas.Map.Text.{is_eq-slice_cmp}
use Rattle.std.proofs.lemmas.Slice.Eq.{bytes_eq-Decides}
use Rattle.ips_action.specs.Attrs.{is_same}
use Rattle.ips_text.proofs.Truths.{or_swapped, or_twice}
use Rattle.ips_action.proofs.KeyOrder.{same_true}

pub is_same_self : (p : List ℕ) → is_same p p ≡ true
is_same_self p = (bytes_eq-Decides p p).1 refl

-- the order of paths finds a path where the two are one
pub tied : (p q : List ℕ) → is_eq (slice_cmp nat_cmp p q) ≡ is_same p q
tied p q = is_eq-slice_cmp p q

pub found_any : (q : List ℕ) (ks : List (Vec ℕ Global)) → list_any (λ k. is_eq (slice_cmp nat_cmp q k.items)) ks ≡ list_any (λ k. is_same q k.items) ks
found_any q [] = refl
found_any q (k ∷ ks) = (λ i. tied q k.items i || found_any q ks i)

pub found_at : {X : Type 0} (q : List ℕ) (es : List (Vec ℕ Global × X)) → lookup (λ k. is_eq (slice_cmp nat_cmp q k.items)) es ≡ lookup (λ k. is_same q k.items) es
found_at q [] = refl
found_at {X} q (e ∷ es) = (λ i. cond (tied q e.0.items i) (Some e.1) (found_at q es i))

-- what a set has after one more path is kept
pub any_insert : (key : Vec ℕ Global) (q : List ℕ) (ks : List (Vec ℕ Global)) → list_any (λ k. is_same q k.items) (insert_key (λ a b. slice_cmp nat_cmp a.items b.items) ks key) ≡ (is_same q key.items || list_any (λ k. is_same q k.items) ks)
any_insert key q [] = refl
any_insert key q (k ∷ ks) = go (slice_cmp nat_cmp key.items k.items) refl (any_insert key q ks)
  where
    go : (o : Ordering) → slice_cmp nat_cmp key.items k.items ≡ o
        → list_any (λ x. is_same q x.items) (insert_key (λ a b. slice_cmp nat_cmp a.items b.items) ks key) ≡ (is_same q key.items || list_any (λ x. is_same q x.items) ks)
        → list_any (λ x. is_same q x.items) (insert_key (λ a b. slice_cmp nat_cmp a.items b.items) (k ∷ ks) key) ≡ (is_same q key.items || (is_same q k.items || list_any (λ x. is_same q x.items) ks))
    go Less is rest = rw is refl
    go Equal is rest =
        let one : key.items ≡ k.items = same_true key.items k.items (sym (tied key.items k.items) ∙ ap is_eq is) in
        rw is (rw one (or_twice (is_same q k.items) (list_any (λ x. is_same q x.items) ks)))
    go Greater is rest = rw is (ap (λ (b : Bool). is_same q k.items || b) rest ∙ or_swapped (is_same q k.items) (is_same q key.items) (list_any (λ x. is_same q x.items) ks))

both_found : {A : Type 0} (s r : Bool) (a b c : A) → (s ≡ true → r ≡ true → ⊥) → cond s a (cond r b c) ≡ cond r b (cond s a c)
both_found true true a b c apart = absurd (apart refl refl)
both_found true false a b c apart = refl
both_found false true a b c apart = refl
both_found false false a b c apart = refl

pub once : {A : Type 0} (s : Bool) (a b c : A) → cond s a c ≡ cond s a (cond s b c)
once true a b c = refl
once false a b c = refl

-- what is found after one more path is kept
pub found_insert : {X : Type 0} (key : Vec ℕ Global) (v : X) (q : List ℕ) (es : List (Vec ℕ Global × X))
    → lookup (λ k. is_same q k.items) (insert_entry (λ a b. slice_cmp nat_cmp a.items b.items) es key v) ≡ cond (is_same q key.items) (Some v) (lookup (λ k. is_same q k.items) es)
found_insert key v q [] = refl
found_insert {X} key v q (e ∷ es) = go (slice_cmp nat_cmp key.items e.0.items) refl (found_insert key v q es)
  where
    go : (o : Ordering) → slice_cmp nat_cmp key.items e.0.items ≡ o
        → lookup (λ k. is_same q k.items) (insert_entry (λ a b. slice_cmp nat_cmp a.items b.items) es key v) ≡ cond (is_same q key.items) (Some v) (lookup (λ k. is_same q k.items) es)
        → lookup (λ k. is_same q k.items) (insert_entry (λ a b. slice_cmp nat_cmp a.items b.items) (e ∷ es) key v) ≡ cond (is_same q key.items) (Some v) (cond (is_same q e.0.items) (Some e.1) (lookup (λ k. is_same q k.items) es))
    go Less is rest = rw is refl
    go Equal is rest =
        let one : key.items ≡ e.0.items = same_true key.items e.0.items (sym (tied key.items e.0.items) ∙ ap is_eq is) in
        rw is (rw one (once (is_same q e.0.items) (Some v) (Some e.1) (lookup (λ k. is_same q k.items) es)))
    go Greater is rest =
        let apart : is_same key.items e.0.items ≡ false = sym (tied key.items e.0.items) ∙ ap is_eq is in
        rw is (ap (λ (o : Option X). cond (is_same q e.0.items) (Some e.1) o) rest ∙ both_found (is_same q e.0.items) (is_same q key.items) (Some e.1) (Some v) (lookup (λ k. is_same q k.items) es)
        (λ at_entry at_key.
        let one : key.items ≡ e.0.items = sym (same_true q key.items at_key) ∙ same_true q e.0.items at_entry in
        true≢false (sym (is_same_self key.items) ∙ ap (is_same key.items) one ∙ apart)))
