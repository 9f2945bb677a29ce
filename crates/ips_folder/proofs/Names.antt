-- A set of names with one more.
use Rattle.std.proofs.Common.{◌≡◌, ℕ, Bool, true, false, ◌||◌, List, [], ◌∷◌, Vec, Global, refl, sym, ◌∙◌, ap}
use Rattle.std.specs.List.{list_any}
use Rattle.std.specs.BTreeSet.{insert_key}
use Rattle.std.specs.Ordering.{nat_cmp, is_eq, match_ordering}
use Rattle.std.specs.Cmp.Lexicographic.{slice_cmp}
use Rattle.std.specs.declared.cmp.Ordering.{Ordering}
use Rattle.std.specs.declared.cmp.Ordering.TheVariants.{Less, Equal, Greater}
use Rattle.ips_text.specs.Ancestry.{same_path}
use Rattle.ips_text.proofs.Ancestry.{same_path-true}
use Rattle.ips_outside.proofs.Maps.{is_eq-path}

-- the names compare by their bytes
abbrev pub by_bytes : Vec ℕ Global → Vec ℕ Global → Ordering
by_bytes x y = slice_cmp nat_cmp x.items y.items

module _ (q : List ℕ) where
  either : (s x : Bool) → (s || x) ≡ (s || (s || x))
  either true x = refl
  either false x = refl

  swapped : (s t x y : Bool) → y ≡ (t || x) → (s || y) ≡ (t || (s || x))
  swapped s true x y e = rw e (last s)
    where
      last : (s : Bool) → (s || true) ≡ true
      last true = refl
      last false = refl
  swapped s false x y e = rw e refl

  pub added : (k : Vec ℕ Global) (keys : List (Vec ℕ Global)) → list_any (λ x. same_path x.items q) (insert_key by_bytes keys k) ≡ (same_path k.items q || list_any (λ x. same_path x.items q) keys)
  added k [] = refl
  added k (x ∷ keys) = go (by_bytes k x) refl (added k keys)
    where
      go : (o : Ordering) → by_bytes k x ≡ o → list_any (λ x. same_path x.items q) (insert_key by_bytes keys k) ≡ (same_path k.items q || list_any (λ x. same_path x.items q) keys)
          → list_any (λ x. same_path x.items q) (match_ordering o (k ∷ x ∷ keys) (x ∷ keys) (x ∷ insert_key by_bytes keys k)) ≡ (same_path k.items q || (same_path x.items q || list_any (λ x. same_path x.items q) keys))
      go Less is ih = refl
      go Equal is ih =
          let one : x.items ≡ k.items = same_path-true x.items k.items (sym (is_eq-path k.items x.items) ∙ ap is_eq is) in
          either (same_path x.items q) (list_any (λ x. same_path x.items q) keys) ∙ ap (λ (p : List ℕ). same_path p q || (same_path x.items q || list_any (λ x. same_path x.items q) keys)) one
      go Greater is ih = swapped (same_path x.items q) (same_path k.items q) (list_any (λ x. same_path x.items q) keys) _ ih
