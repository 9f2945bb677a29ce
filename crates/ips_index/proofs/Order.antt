-- Rows that stand at one place of their order are one.
use Rattle.std.proofs.Common.{◌≡◌, ℕ, List, refl, ◌∙◌, ap}
use Rattle.std.specs.declared.cmp.Ordering.{Ordering}
use Rattle.std.specs.declared.cmp.Ordering.TheVariants.{Less, Equal, Greater}
use Rattle.std.specs.Ordering.{nat_cmp, on, ordering_then, then_cmp}
use Rattle.std.specs.Cmp.Lexicographic.{slice_cmp}
use Rattle.std.proofs.lemmas.Map.Lookups.{CmpEqualImpliesEq}
use Rattle.ips_action.specs.declared.kind.ActionKind.{ActionKind}
use Rattle.ips_action.specs.Kind.{kind_name}
use Rattle.ips_action.proofs.One.{one_kind}
use Rattle.ips_action.proofs.KeyOrder.{equal_is}
use Rattle.ips_index.specs.Rows.{IndexedValue, row_cmp, rest_cmp}

both_equal : {K : Type 0} (R S : K → K → Ordering) (a b : K) → then_cmp R S a b ≡ Equal → (R a b ≡ Equal) × (S a b ≡ Equal)
both_equal R S a b e = go (R a b) (S a b) e
  where
    go : (x y : Ordering) → ordering_then x y ≡ Equal → (x ≡ Equal) × (y ≡ Equal)
    go Less y h = cc
    go Equal y h = (refl, h)
    go Greater y h = cc

row : List ℕ → List ℕ → ActionKind → List ℕ → List ℕ → IndexedValue
row token index kind value stem = record { token = token; index = index; kind = kind; value = value; stem = stem }

pub same : (a b : IndexedValue) → a.token ≡ b.token → a.index ≡ b.index → a.kind ≡ b.kind → a.value ≡ b.value → a.stem ≡ b.stem → a ≡ b
unfolding row
same a b token index kind value stem =
    ap (λ t. row t a.index a.kind a.value a.stem) token ∙ ap (λ i. row b.token i a.kind a.value a.stem) index ∙ ap (λ k. row b.token b.index k a.value a.stem) kind ∙ ap (λ v. row b.token b.index b.kind v a.stem) value
    ∙ ap (λ s. row b.token b.index b.kind b.value s) stem

-- the rows are compared by these bytes
by : (IndexedValue → List ℕ) → IndexedValue → IndexedValue → Ordering
by f = on f (slice_cmp nat_cmp)

pub exact_rows : CmpEqualImpliesEq row_cmp
unfolding by
exact_rows a b e =
    let first = both_equal (by (λ r. r.token)) rest_cmp a b e in
    let second = both_equal (by (λ r. r.index)) (then_cmp (by (λ r. kind_name r.kind)) (then_cmp (by (λ r. r.value)) (by (λ r. r.stem)))) a b first.1 in
    let third = both_equal (by (λ r. kind_name r.kind)) (then_cmp (by (λ r. r.value)) (by (λ r. r.stem))) a b second.1 in
    let fourth = both_equal (by (λ r. r.value)) (by (λ r. r.stem)) a b third.1 in
    same a b (equal_is a.token b.token first.0) (equal_is a.index b.index second.0) (one_kind a.kind b.kind (equal_is (kind_name a.kind) (kind_name b.kind) third.0)) (equal_is a.value b.value fourth.0) (equal_is a.stem b.stem fourth.1)
