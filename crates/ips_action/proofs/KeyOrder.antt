-- The order of keys.
use Rattle.std.proofs.Common.{◌≡◌, ℕ, Bool, true, false, not, ◌&&◌, List, refl, sym, ◌∙◌, ap, subst}
use Rattle.std.specs.declared.cmp.Ordering.{Ordering}
use Rattle.std.specs.declared.cmp.Ordering.TheVariants.{Less, Equal, Greater}
use Rattle.std.specs.Ordering.{nat_cmp, is_lt, is_gt, ordering_reverse, ordering_then}
use Rattle.std.specs.Cmp.Lexicographic.{slice_cmp, bytes_decides}
use Rattle.std.specs.FinMap.{slice_cmp-IsAntisymmetric, nat_cmp-IsAntisymmetric}
use Rattle.std.proofs.lemmas.Cmp.{nat_list_cmp_total, tied_itself}
use Rattle.ips_action.specs.Attrs.{is_same, IsBefore}
use Rattle.ips_action.specs.Gathering.{UpTo}

abbrev pub by_bytes : List ℕ → List ℕ → Ordering
by_bytes = slice_cmp nat_cmp

pub same_true : (a b : List ℕ) → is_same a b ≡ true → a ≡ b
same_true a b e = (bytes_decides a b).0 e

pub same_self : (a b : List ℕ) → a ≡ b → is_same a b ≡ true
same_self a b e = (bytes_decides a b).1 e

pub equal_is : (a b : List ℕ) → by_bytes a b ≡ Equal → a ≡ b
equal_is a b e = slice_cmp-IsAntisymmetric nat_cmp-IsAntisymmetric a b e

pub self_equal : (a : List ℕ) → by_bytes a a ≡ Equal
self_equal a = tied_itself nat_list_cmp_total a

pub turned : (a b : List ℕ) → by_bytes a b ≡ ordering_reverse (by_bytes b a)
turned a b = nat_list_cmp_total.antisymm a b

pub before_trans : (a b c : List ℕ) → IsBefore a b → IsBefore b c → IsBefore a c
before_trans a b c h g = nat_list_cmp_total.trans a b c h g

not_both : Less ≡ Equal → ⊥
not_both e = cc

-- a key before another isn't that one
pub before_other : (a b : List ℕ) → IsBefore a b → is_same a b ≡ false
before_other a b h = go (is_same a b) refl
  where
    go : (t : Bool) → is_same a b ≡ t → t ≡ false
    go true e = let P : List ℕ → Type 0 = λ x. by_bytes a x ≡ Less in absurd (not_both (sym (subst P (sym (same_true a b e)) h) ∙ self_equal a))
    go false e = refl

pub after_other : (a b : List ℕ) → IsBefore a b → is_same b a ≡ false
after_other a b h = go (is_same b a) refl
  where
    go : (t : Bool) → is_same b a ≡ t → t ≡ false
    go true e = let P : List ℕ → Type 0 = λ x. by_bytes a x ≡ Less in absurd (not_both (sym (subst P (same_true b a e) h) ∙ self_equal a))
    go false e = refl

-- before a key that doesn't come behind a third one
pub before_upto : (a b c : List ℕ) → IsBefore a b → UpTo b c → IsBefore a c
before_upto a b c h u = go (by_bytes b c) refl u
  where
    go : (o : Ordering) → by_bytes b c ≡ o → is_gt o ≡ false → IsBefore a c
    go Less e g = before_trans a b c h e
    go Equal e g = let P : List ℕ → Type 0 = λ x. IsBefore a x in subst P (equal_is b c e) h
    go Greater e g = absurd cc

pub upto_unlike : (a b : List ℕ) → UpTo a b → is_same a b ≡ false → IsBefore a b
upto_unlike a b u n = go (by_bytes a b) refl u
  where
    go : (o : Ordering) → by_bytes a b ≡ o → is_gt o ≡ false → by_bytes a b ≡ Less
    go Less e g = e
    go Equal e g = let is : is_same a b ≡ true = same_self a b (equal_is a b e) in absurd cc
    go Greater e g = absurd cc

-- what a sort says of two neighbours
pub upto_from_sorted : (a b : List ℕ) → is_lt (by_bytes b a) ≡ false → UpTo a b
upto_from_sorted a b h = go (by_bytes b a) refl h
  where
    go : (o : Ordering) → by_bytes b a ≡ o → is_lt o ≡ false → is_gt (by_bytes a b) ≡ false
    go Less e g = absurd cc
    go Equal e g = ap is_gt (turned a b ∙ ap ordering_reverse e)
    go Greater e g = ap is_gt (turned a b ∙ ap ordering_reverse e)

pub sorted_from_before : (a b : List ℕ) → IsBefore a b → is_lt (by_bytes b a) ≡ false
sorted_from_before a b h = ap is_lt (turned b a ∙ ap ordering_reverse h)

-- keys that tie are the same
pub ties_are : (a b : List ℕ) → (not (is_lt (by_bytes a b)) && not (is_lt (by_bytes b a))) ≡ is_same b a
ties_are a b = go (by_bytes b a) refl
  where
    go : (o : Ordering) → by_bytes b a ≡ o → (not (is_lt (by_bytes a b)) && not (is_lt (by_bytes b a))) ≡ is_same b a
    go Less e = rw (turned a b, e) (sym (before_other b a e))
    go Equal e = rw (turned a b, e) (sym (same_self b a (equal_is b a e)))
    go Greater e = rw (turned a b, e) (sym (after_other a b (turned a b ∙ ap ordering_reverse e)))

-- two orders, one behind the other, tell no difference: neither does
pub both_equal : (a b : Ordering) → ordering_then a b ≡ Equal → (a ≡ Equal) × (b ≡ Equal)
both_equal Less b is = cc
both_equal Equal b is = (refl, is)
both_equal Greater b is = cc
