-- Fewer than two actions of a text: no two of one key break a rule.
use Rattle.std.proofs.Common.{◌≡◌, ℕ, ◌<◌, List, [], ◌∷◌, length, refl, sym, subst, ◌∙◌, inl, inr, arith}
use Rattle.std.specs.List.{Contains}
use Rattle.std.specs.declared.cmp.Ordering.TheVariants.{Less}
use Rattle.std.proofs.lemmas.List.Elements.{Contains-push_cases}
use Rattle.ips_conflict.specs.declared.placed.Placed.{Placed}
use Rattle.ips_conflict.specs.declared.placed.Sort.{Sort}
use Rattle.ips_conflict.specs.Key.{Key}
use Rattle.ips_conflict.specs.Order.{place_cmp}
use Rattle.ips_conflict.specs.Index.{IsGroup}
use Rattle.ips_conflict.specs.Search.{NoneBelow}
use Rattle.ips_conflict.proofs.Ordered.{place_total, le_self, less_le}
use Rattle.ips_conflict.proofs.Grouped.{key_text}
use Rattle.ips_conflict.proofs.FirstPair.{pair_of}

only : (x i : ℕ) → Contains (x ∷ []) i → x ≡ i
only x i w = elim (Contains-push_cases [] x i w) [ inl none ↦ absurd (omega (arith, none.1)) | inr same ↦ same ]

one_of : (members : List ℕ) (i j : ℕ) → length members < 2 → Contains members i → Contains members j → i ≡ j
one_of [] i j few w v = absurd (omega (arith, w.1))
one_of (x ∷ []) i j few w v = sym (only x i w) ∙ only x j v
one_of (x ∷ y ∷ more) i j few w v = absurd (omega (arith, few))

pub alone : (placed : List Placed) (sort : Sort) (text members : List ℕ) → IsGroup placed text members → length members < 2 → NoneBelow placed (record { sort = sort; text = text }) 4
alone placed sort text members group few d h ek low =
    let key : Key = record { sort = sort; text = text } in
    let w = pair_of placed key d.rule d low h ek refl in
    let p = w.2 in
    let same : d.first ≡ w.0 = one_of members d.first w.0 few ((group d.first).1 (p.a, p.a_key.here, key_text p.a key p.a_key.key_is)) ((group w.0).1 (p.b, p.b_key.here, key_text p.b key p.b_key.key_is)) in
    let less : place_cmp placed d.first d.first ≡ Less = subst (λ (j : ℕ). place_cmp placed d.first j ≡ Less) (sym same) p.earlier in
    le_self (place_cmp placed) (place_total placed) d.first (less_le (place_cmp placed) (place_total placed) d.first d.first less)
