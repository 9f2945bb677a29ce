-- The comparison of links by cases.
use Rattle.std.proofs.Common.{◌≡◌, ◌≢◌, ◌⊎◌, ℕ, ◌<◌, ◌≤◌, false, List, Option, Some, None, refl, sym, ap, subst, ◌∙◌, inl, inr, arith}
use Rattle.std.specs.declared.cmp.Ordering.{Ordering}
use Rattle.std.specs.declared.cmp.Ordering.TheVariants.{Less, Equal, Greater}
use Rattle.std.specs.Ordering.{MatchOrdering, nat_cmp, ordering_then, is_gt, is_eq}
use Rattle.std.specs.Cmp.{IsTotalOrder, ranks, then_total, on_total, back_total}
use Rattle.std.specs.Cmp.Lexicographic.{slice_cmp, options_total}
use Rattle.std.specs.Option.{option_cmp}
use Rattle.std.proofs.lemmas.Bool.{true≢false}
use Rattle.std.proofs.lemmas.Cmp.{nat_cmp_total, nat_list_cmp_total, tied_itself}
use Rattle.std.proofs.lemmas.Map.Text.{is_eq-slice_cmp}
use Rattle.std.proofs.lemmas.Slice.Eq.{bytes_eq-Decides}
use Rattle.ips_fmri.specs.Version.{Parts}
use Rattle.ips_fmri.specs.Order.{IsLess, version_cmp, version_total}
use Rattle.ips_fmri.proofs.Orders.{versions_tell}
use Rattle.ips_action.specs.Action.{Fields}
use Rattle.ips_mediate.specs.Mediation.{Mediation, mediation_of, version_of, implementation_of, rank_of}
use Rattle.ips_mediate.specs.Best.{IsLessVersion, ComesBefore, IsPreferred}
use Rattle.ips_mediate.specs.Order.{link_cmp}

pub texts_cmp_total : IsTotalOrder (option_cmp (slice_cmp nat_cmp))
texts_cmp_total = options_total nat_list_cmp_total

pub versions_cmp_total : IsTotalOrder (option_cmp version_cmp)
versions_cmp_total = options_total version_total

pub link_cmp_total : IsTotalOrder link_cmp
link_cmp_total = then_total (then_total (on_total rank_of nat_cmp_total) (on_total version_of versions_cmp_total)) (back_total (on_total implementation_of texts_cmp_total))

-- ---- versions and implementations

some_holds : (L G : Type 0) (o : Ordering) (v w : Parts) → MatchOrdering o L (v ≡ w) G → MatchOrdering o L ((let x : Option Parts = Some v in x) ≡ Some w) G
some_holds L G Less v w h = h
some_holds L G Equal v w h = ap (λ (x : Parts). Some x) h
some_holds L G Greater v w h = h

pub versions_by : (v w : Option Parts) → MatchOrdering (option_cmp version_cmp v w) (IsLessVersion v w) (v ≡ w) (IsLessVersion w v)
versions_by None None = refl
versions_by None (Some w) = tt
versions_by (Some v) None = tt
versions_by (Some v) (Some w) = some_holds (IsLess v w) (IsLess w v) (version_cmp v w) v w (versions_tell v w).holds

texts_same : (x y : List ℕ) → slice_cmp nat_cmp x y ≡ Equal → x ≡ y
texts_same x y e = (bytes_eq-Decides x y).0 (sym (is_eq-slice_cmp x y) ∙ ap is_eq e)

pub texts_by : (x y : Option (List ℕ)) → MatchOrdering (option_cmp (slice_cmp nat_cmp) x y) (ComesBefore x y) (x ≡ y) (Unit {0})
texts_by None None = refl
texts_by None (Some y) = tt
texts_by (Some x) None = tt
texts_by (Some x) (Some y) = go (slice_cmp nat_cmp x y) refl
  where
    go : (o : Ordering) → slice_cmp nat_cmp x y ≡ o → MatchOrdering o (ComesBefore (Some x) (Some y)) ((let t : Option (List ℕ) = Some x in t) ≡ Some y) (Unit {0})
    go Less e = e
    go Equal e = ap (λ (t : List ℕ). Some t) (texts_same x y e)
    go Greater e = tt

-- a tie is the same, and the other way round
tie : {K : Type 0} (R : K → K → Ordering) → IsTotalOrder R → (L G : Type 0) (x y : K) → MatchOrdering (R x y) L (x ≡ y) G → (R x y ≡ Equal → x ≡ y) × (x ≡ y → R x y ≡ Equal)
tie R total L G x y h = (λ e. subst (λ (o : Ordering). MatchOrdering o L (x ≡ y) G) e h, λ e. ap (R x) (sym e) ∙ tied_itself total x)

pub version_tie : (v w : Option Parts) → (option_cmp version_cmp v w ≡ Equal → v ≡ w) × (v ≡ w → option_cmp version_cmp v w ≡ Equal)
version_tie v w = tie (option_cmp version_cmp) versions_cmp_total (IsLessVersion v w) (IsLessVersion w v) v w (versions_by v w)

pub text_tie : (x y : Option (List ℕ)) → (option_cmp (slice_cmp nat_cmp) x y ≡ Equal → x ≡ y) × (x ≡ y → option_cmp (slice_cmp nat_cmp) x y ≡ Equal)
text_tie x y = tie (option_cmp (slice_cmp nat_cmp)) texts_cmp_total (ComesBefore x y) (Unit {0}) x y (texts_by x y)

-- ---- mediations are the same, or they aren't

differ : {K : Type 0} (R : K → K → Ordering) → IsTotalOrder R → (x y : K) (o : Ordering) → R x y ≡ o → o ≢ Equal → x ≡ y → ⊥
differ R total x y o is ne e = ne (sym is ∙ ap (R x) (sym e) ∙ tied_itself total x)

decided : {K : Type 0} (R : K → K → Ordering) (total : IsTotalOrder R) (L G : Type 0) (x y : K) (o : Ordering) → R x y ≡ o → MatchOrdering o L (x ≡ y) G → (x ≡ y) ⊎ (x ≡ y → ⊥)
decided R total L G x y Less is h = inr (differ R total x y Less is (λ e. cc))
decided R total L G x y Equal is h = inl h
decided R total L G x y Greater is h = inr (differ R total x y Greater is (λ e. cc))

same_version_or_not : (v w : Option Parts) → (v ≡ w) ⊎ (v ≡ w → ⊥)
same_version_or_not v w = decided (option_cmp version_cmp) versions_cmp_total (IsLessVersion v w) (IsLessVersion w v) v w (option_cmp version_cmp v w) refl (versions_by v w)

same_text_or_not : (x y : Option (List ℕ)) → (x ≡ y) ⊎ (x ≡ y → ⊥)
same_text_or_not x y = decided (option_cmp (slice_cmp nat_cmp)) texts_cmp_total (ComesBefore x y) (Unit {0}) x y (option_cmp (slice_cmp nat_cmp) x y) refl (texts_by x y)

pub same_parts : (m n : Mediation) → m.version ≡ n.version → m.implementation ≡ n.implementation → m ≡ n
same_parts m n v i =
    let all : (let x : Mediation = record { version = m.version; implementation = m.implementation } in x) ≡ record { version = n.version; implementation = n.implementation } = rw (v, i) refl in all

pub same_or_not : (m n : Mediation) → (m ≡ n) ⊎ (m ≡ n → ⊥)
same_or_not m n =
    elim (same_version_or_not m.version n.version) [
      | inl v ↦ elim (same_text_or_not m.implementation n.implementation) [ inl i ↦ inl (same_parts m n v i) | inr ne ↦ inr (λ e. ne (ap (λ (x : Mediation). x.implementation) e)) ]
      | inr ne ↦ inr (λ e. ne (ap (λ (x : Mediation). x.version) e))
    ]

-- ---- a link that doesn't stand above another one

-- its priority is less, or the same, and then the other's mediation is preferred or the same
abbrev pub AtMost : Fields → Fields → Type 0
AtMost l link = (rank_of l < rank_of link) ⊎ ((rank_of l ≡ rank_of link) × (IsPreferred (mediation_of link) (mediation_of l) ⊎ (mediation_of l ≡ mediation_of link)))

module _ (l link : Fields) where
  by_texts : (t : Ordering) → rank_of l ≡ rank_of link → version_of l ≡ version_of link → MatchOrdering t (ComesBefore (implementation_of link) (implementation_of l)) (implementation_of link ≡ implementation_of l) (Unit {0}) → is_gt t ≡ false → AtMost l link
  by_texts Less r v h low = inr (r, inl (inr (sym v, h)))
  by_texts Equal r v h low = inr (r, inr (same_parts (mediation_of l) (mediation_of link) v (sym h)))
  by_texts Greater r v h low = absurd (true≢false low)

  by_versions : (v t : Ordering) → rank_of l ≡ rank_of link → MatchOrdering v (IsLessVersion (version_of l) (version_of link)) (version_of l ≡ version_of link) (IsLessVersion (version_of link) (version_of l))
      → MatchOrdering t (ComesBefore (implementation_of link) (implementation_of l)) (implementation_of link ≡ implementation_of l) (Unit {0}) → is_gt (ordering_then v t) ≡ false → AtMost l link
  by_versions Less t r h k low = inr (r, inl (inl h))
  by_versions Equal t r h k low = by_texts t r h k low
  by_versions Greater t r h k low = absurd (true≢false low)

  by_ranks : (r v t : Ordering) → MatchOrdering r (rank_of l < rank_of link) (rank_of l ≡ rank_of link) (rank_of link < rank_of l)
      → MatchOrdering v (IsLessVersion (version_of l) (version_of link)) (version_of l ≡ version_of link) (IsLessVersion (version_of link) (version_of l))
      → MatchOrdering t (ComesBefore (implementation_of link) (implementation_of l)) (implementation_of link ≡ implementation_of l) (Unit {0}) → is_gt (ordering_then (ordering_then r v) t) ≡ false → AtMost l link
  by_ranks Less v t h k j low = inl h
  by_ranks Equal v t h k j low = by_versions v t h k j low
  by_ranks Greater v t h k j low = absurd (true≢false low)

  pub at_most : is_gt (link_cmp l link) ≡ false → AtMost l link
  at_most low =
      by_ranks (nat_cmp (rank_of l) (rank_of link)) (option_cmp version_cmp (version_of l) (version_of link)) (option_cmp (slice_cmp nat_cmp) (implementation_of link) (implementation_of l))
      (ranks (rank_of l) (rank_of link)) (versions_by (version_of l) (version_of link)) (texts_by (implementation_of link) (implementation_of l)) low

pub rank_at_most : (l link : Fields) → AtMost l link → rank_of l ≤ rank_of link
rank_at_most l link (inl h) = omega arith
rank_at_most l link (inr h) = omega (arith, h.0)
