use denote.Ref.{Bor}
use Rattle.std.proofs.Common.{◌≡◌, ℕ, Bool, List, map, IsTrue, ap}
use Rattle.ips_next.specs.Alike.{AreAlike}
use Rattle.ips_filter.specs.Settings.{Set}
use Rattle.ips_next.proofs.Comparing.{refused, shown_same}
use Rattle.ips_next.proofs.unchanged.same_settings.Goals as goal

abbrev Lent : Type 0
Lent = Bor (List ℕ) × Bor (List ℕ)

abbrev Switch : Type 0
Switch = Bor (List ℕ) × Bool

abbrev AreOne : Lent → Lent → Type 0
AreOne a b = (a.0.now ≡ b.0.now) × (a.1.now ≡ b.1.now)

abbrev AreSet : Switch → Switch → Type 0
AreSet a b = (a.0.now ≡ b.0.now) × (a.1 ≡ b.1)

variants_same : (xs ys ps qs : List Lent) (old new : List (List ℕ × List ℕ)) (b : Bool) → xs ≡ ps → ys ≡ qs
    → map (λ (x : Lent). (x.0.now, x.1.now)) ps ≡ old → map (λ (x : Lent). (x.0.now, x.1.now)) qs ≡ new
    → (IsTrue b → AreAlike AreOne xs ys) × (AreAlike AreOne xs ys → IsTrue b) → (IsTrue b → new ≡ old) × (new ≡ old → IsTrue b)
variants_same xs ys ps qs old new b x y one other both =
    shown_same AreOne (λ (x : Lent). (x.0.now, x.1.now)) xs ys ps qs old new b (λ p q e i. (e.0 i, e.1 i)) (λ p q e. (ap (λ (z : List ℕ × List ℕ). z.0) e, ap (λ (z : List ℕ × List ℕ). z.1) e)) x y one other both

facets_same : (xs ys ps qs : List Switch) (old new : List (List ℕ × Bool)) (b : Bool) → xs ≡ ps → ys ≡ qs
    → map (λ (x : Switch). (x.0.now, x.1)) ps ≡ old → map (λ (x : Switch). (x.0.now, x.1)) qs ≡ new
    → (IsTrue b → AreAlike AreSet xs ys) × (AreAlike AreSet xs ys → IsTrue b) → (IsTrue b → new ≡ old) × (new ≡ old → IsTrue b)
facets_same xs ys ps qs old new b x y one other both =
    shown_same AreSet (λ (x : Switch). (x.0.now, x.1)) xs ys ps qs old new b (λ p q e i. (e.0 i, e.1 i)) (λ p q e. (ap (λ (z : List ℕ × Bool). z.0) e, ap (λ (z : List ℕ × Bool). z.1) e)) x y one other both

pub returns-then-not-are_alike : goal.returns-then-not-are_alike
returns-then-not-are_alike c =
    let old = c.args.old.now in
    let new = c.args.new.now in
    let same = variants_same c.deref.result.now c.deref-2.result.now c.in_ok-variants.variants.items c.in_ok-others.others.items old.variants new.variants c.are_alike.result
    c.deref.ensures.value c.deref-2.ensures.value c.in_ok-variants.ensures.each c.in_ok-others.ensures.each c.are_alike.ensures in
    refused c.are_alike.result c.if-not-are_alike.true (λ e. same.1 (ap (λ (s : Set). s.variants) e))

pub returns : goal.returns
returns c =
    let old = c.args.old.now in
    let new = c.args.new.now in
    let variants = variants_same c.deref.result.now c.deref-2.result.now c.in_ok-variants.variants.items c.in_ok-others.others.items old.variants new.variants c.are_alike.result
    c.deref.ensures.value c.deref-2.ensures.value c.in_ok-variants.ensures.each c.in_ok-others.ensures.each c.are_alike.ensures in
    let facets = facets_same c.deref-3.result.now c.deref-4.result.now c.in_ok-facets.facets.items c.in_ok-others-2.others.items old.facets new.facets c.are_alike-2.result
    c.deref-3.ensures.value c.deref-4.ensures.value c.in_ok-facets.ensures.each c.in_ok-others-2.ensures.each c.are_alike-2.ensures in
    let first = variants.0 c.if-not-are_alike.false in (
      λ t. let second = facets.0 t in λ i. record { variants = first i; facets = second i },
      λ e. facets.1 (ap (λ (s : Set). s.facets) e),
    )
