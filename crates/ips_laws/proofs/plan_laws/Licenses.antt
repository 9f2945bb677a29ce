-- The licenses that are newly delivered are one list of texts.
use Rattle.std.proofs.Common.{◌≡◌, ◌∷◌, [], ◌&&◌, ◌||◌, ℕ, Bool, List, map, Ordering, Less, Equal, Greater, nat_cmp, refl, sym, ap, subst, ◌∙◌, arith, length}
use Rattle.std.specs.Cmp.{IsTotalOrder, on_total, then_total}
use Rattle.std.specs.Cmp.Lexicographic.{slice_cmp}
use Rattle.std.specs.BTreeSet.{BTreeSet}
use Rattle.std.specs.List.{list_any}
use Rattle.std.specs.Ordering.{is_eq, ordering_then}
use Rattle.std.proofs.lemmas.Cmp.{nat_list_cmp_total}
use Rattle.std.proofs.lemmas.Map.Lookups.{btree_set_from_contains}
use Rattle.ips_text.specs.Ancestry.{same_path}
use Rattle.ips_action.proofs.KeyOrder.{both_equal, equal_is}
use Rattle.ips_conflict.proofs.Kept.{tied}
use Rattle.ips_conflict.specs.declared.placed.Placed.{Placed}
use Rattle.ips_due.proofs.outstanding.Gone.{one_path}
use Rattle.ips_delivered.specs.new_licenses.New.{AreNew, LicenseName, has_name, license_cmp, shown_license}
use Rattle.ips_state.specs.declared.state.State.{State}
use Rattle.ips_state.specs.State.{recorded}
use Rattle.ips_plan.specs.image_plan.Licenses.{AreDisplayed, AreNeeded, AreNewBetween}
use Rattle.ips_laws.proofs.plan_laws.States.{admitted_same}

name_total : IsTotalOrder license_cmp
name_total = then_total (on_total (λ (n : LicenseName). n.0) nat_list_cmp_total) (on_total (λ (n : LicenseName). n.1) nat_list_cmp_total)

name_exact : (a b : LicenseName) → license_cmp a b ≡ Equal → a ≡ b
name_exact a b is =
    let parts = both_equal (slice_cmp nat_cmp a.0 b.0) (slice_cmp nat_cmp a.1 b.1) is in
    λ i. (equal_is a.0 b.0 parts.0 i, equal_is a.1 b.1 parts.1 i)

eq_both : (a b : Ordering) → is_eq (ordering_then a b) ≡ (is_eq a && is_eq b)
eq_both Less b = refl
eq_both Equal b = refl
eq_both Greater b = refl

name_tied : (one n : LicenseName) → is_eq (license_cmp one n) ≡ (same_path n.0 one.0 && same_path n.1 one.1)
name_tied one n =
    eq_both (slice_cmp nat_cmp one.0 n.0) (slice_cmp nat_cmp one.1 n.1)
    ∙ (λ i. (tied one.0 n.0 ∙ sym (one_path n.0 one.0)) i && (tied one.1 n.1 ∙ sym (one_path n.1 one.1)) i)

names_in : (names : List LicenseName) (one : LicenseName) → list_any (λ n. is_eq (license_cmp one n)) names ≡ has_name names one
names_in [] one = refl
names_in (n ∷ names) one = λ i. name_tied one n i || names_in names one i

-- those that are newly delivered and marked are one list
new_one : (was is : List Placed) (key : List ℕ) (x y : List (List ℕ)) → AreNew was is key x → AreNew was is key y → x ≡ y
new_one was is key x y h k =
    let first : BTreeSet LicenseName = record { keys = h.names } in
    let second : BTreeSet LicenseName = record { keys = k.names } in
    let names : h.names ≡ k.names = btree_set_from_contains name_total first second h.order k.order (λ n. names_in h.names n ∙ h.each n ∙ sym (k.each n) ∙ sym (names_in k.names n)) name_exact in
    h.written ∙ ap (map shown_license) names ∙ sym k.written

module _ (old other new next : State) (was_same : recorded old ≡ recorded other) (is_same : recorded new ≡ recorded next) where
  newly_one : (shown more asked others : List (List ℕ)) → AreNewBetween old new shown asked → AreNewBetween other next more others → (shown ≡ more) × (asked ≡ others)
  newly_one shown more asked others h k =
      let was : h.was ≡ k.was = admitted_same old other was_same h.was k.was h.were_admitted k.were_admitted in
      let is : h.is ≡ k.is = admitted_same new next is_same h.is k.is h.are_admitted k.are_admitted in
      let moved : (key : List ℕ) (texts : List (List ℕ)) → AreNew h.was h.is key texts → AreNew k.was k.is key texts = λ key texts n. subst (λ (l : List Placed). AreNew k.was l key texts) is (subst (λ (l : List Placed). AreNew l h.is key texts) was n) in
      (new_one k.was k.is _ shown more (moved _ shown h.display) k.display, new_one k.was k.is _ asked others (moved _ asked h.accept) k.accept)

  -- the licenses that are shown are one list
  pub displayed_one : (accept : Bool) (shown more : List (List ℕ)) → AreDisplayed old new accept shown → AreDisplayed other next accept more → shown ≡ more
  displayed_one accept shown more h k = (newly_one shown more h.asked k.asked h.delivered k.delivered).0

  -- and so are those that must be accepted
  pub needed_one : (accept : Bool) (asked others : List (List ℕ)) → AreNeeded old new accept asked → AreNeeded other next accept others → asked ≡ others
  needed_one accept asked others h k = (newly_one h.shown k.shown asked others h.delivered k.delivered).1

  -- where some must be accepted and aren't, not all are
  pub needed_apart : (accept : Bool) (asked shown : List (List ℕ)) → AreNeeded old new accept asked → AreDisplayed other next accept shown → ⊥
  needed_apart accept asked shown h k =
      let none : asked ≡ [] = (newly_one h.shown shown asked k.asked h.delivered k.delivered).1 ∙ k.accepted h.refused in
      let few = ap (λ (l : List (List ℕ)). length l) none in
      omega (arith, h.some, few)
