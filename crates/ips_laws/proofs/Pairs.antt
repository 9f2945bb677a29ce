-- What two actions of one key say where nothing clashes.
use Rattle.std.proofs.Common.{◌≡◌, ◌==◌, ℕ, ◌<◌, Bool, true, false, cond, ◌&&◌, List, Option, Some, None, refl, sym, ap, subst, ◌∙◌, inl, inr, arith}
use Rattle.std.specs.Prelude.{slice_get, codes}
use Rattle.std.specs.Option.{option_eq}
use Rattle.std.specs.Ordering.{nat_cmp, ordering_reverse}
use Rattle.std.specs.declared.cmp.Ordering.{Ordering}
use Rattle.std.specs.declared.cmp.Ordering.TheVariants.{Less, Equal, Greater}
use Rattle.std.proofs.lemmas.Bool.{and_parts, cases_Bool, true≢false, eqb-true}
use Rattle.ips_action.specs.declared.kind.ActionKind.{ActionKind}
use Rattle.ips_action.specs.declared.kind.ActionKind.TheVariants as kind
use Rattle.ips_action.specs.Attrs.{is_same}
use Rattle.ips_action.specs.Action.{Fields}
use Rattle.ips_conflict.specs.declared.placed.Placed.{Placed}
use Rattle.ips_conflict.specs.declared.clashing.Rule.{Rule}
use Rattle.ips_conflict.specs.declared.clashing.Rule.TheVariants as rule
use Rattle.ips_conflict.specs.Key.{Key, value_of}
use Rattle.ips_conflict.specs.Order.{place_cmp}
use Rattle.ips_conflict.specs.Alike.{kind_place, mode_of, led_to, same_kind, alike, alike_as, overlaid}
use Rattle.ips_conflict.specs.Verdict.{breaks, rule_rank}
use Rattle.ips_conflict.specs.Clash.{HasKey, Counts, file_rank, file_cmp}
use Rattle.ips_conflict.proofs.Places.{one_there}
use Rattle.ips_conflict.proofs.Ordered.{place_total, file_total, le_cases, less_le}
use Rattle.ips_conflict.proofs.FirstPair.{place_tie, conflict_of}
use Rattle.ips_meaning.specs.Want.{IsFreeOfClashes}
use Rattle.ips_action.proofs.KeyOrder.{same_true}
use Rattle.ips_text.proofs.Orders.{last_tie}

-- ---- what is said of two actions

by_apart : (same of_files unlike overlaid : Bool) → same ≡ false → (cond same (cond of_files (cond overlaid 0 3) (cond unlike 0 2)) 1 == 1) ≡ true
by_apart true f x o e = absurd (true≢false e)
by_apart false f x o e = refl

by_unlike : (same of_files like overlaid : Bool) → same ≡ true → of_files ≡ false → like ≡ false → (cond same (cond of_files (cond overlaid 0 3) (cond like 0 2)) 1 == 2) ≡ true
by_unlike true false false o e g h = refl
by_unlike false f x o e g h = absurd (true≢false (sym e))
by_unlike true true x o e g h = absurd (true≢false g)
by_unlike true false true o e g h = absurd (true≢false h)

eqb-self : (k l : ℕ) → k ≡ l → (k == l) ≡ true
eqb-self k l e = grind (arith, e)

-- actions of other kinds break one rule, and those of one kind that say other things another one
kinds_broken : (a b : Fields) → (kind_place a.kind == kind_place b.kind) ≡ false → breaks rule.Kinds a b ≡ true
kinds_broken a b e = by_apart (kind_place a.kind == kind_place b.kind) (kind_place a.kind == 1) (alike a b) (overlaid a b) e

attributes_broken : (of : ActionKind) (a b : Fields) → (kind_place of == 1) ≡ false → a.kind ≡ of → b.kind ≡ of → alike a b ≡ false → breaks rule.Attributes a b ≡ true
attributes_broken of a b no_file one two unlike =
    by_unlike (kind_place a.kind == kind_place b.kind) (kind_place a.kind == 1) (alike a b) (overlaid a b)
    (eqb-self (kind_place a.kind) (kind_place b.kind) (ap kind_place (one ∙ sym two)))
    (ap (λ (k : ActionKind). kind_place k == 1) one ∙ no_file)
    unlike

-- ---- what actions that are alike say

alike_of : (of : ActionKind) (a b : Fields) → a.kind ≡ of → alike a b ≡ true → alike_as of a b ≡ true
alike_of of a b is h = subst (λ (k : ActionKind). alike_as k a b ≡ true) is (and_parts (same_kind a b) (alike_as a.kind a b) h).1

same_mode : (a b : Fields) → a.kind ≡ kind.Dir → alike a b ≡ true → mode_of a ≡ mode_of b
same_mode a b is h =
    let access = alike_of kind.Dir a b is h in
    let owned = and_parts ((mode_of a == mode_of b) && is_same (value_of (codes "owner") a) (value_of (codes "owner") b)) (is_same (value_of (codes "group") a) (value_of (codes "group") b)) access in
    eqb-true (mode_of a) (mode_of b) (and_parts (mode_of a == mode_of b) (is_same (value_of (codes "owner") a) (value_of (codes "owner") b)) owned.0).0

same_target : (a b : Fields) → a.kind ≡ kind.Link → alike a b ≡ true → value_of (codes "target") a ≡ value_of (codes "target") b
same_target a b is h = same_true (value_of (codes "target") a) (value_of (codes "target") b) (alike_of kind.Link a b is h)

same_path : (x y : Option (List ℕ)) → option_eq is_same x y ≡ true → x ≡ y
same_path None None e = refl
same_path None (Some y) e = absurd (true≢false (sym e))
same_path (Some x) None e = absurd (true≢false (sym e))
same_path (Some x) (Some y) e = ap (λ (z : List ℕ). Some z) (same_true x y e)

same_end : (a b : Fields) → a.kind ≡ kind.Hardlink → alike a b ≡ true → led_to a ≡ led_to b
same_end a b is h = same_path (led_to a) (led_to b) (alike_of kind.Hardlink a b is h)

-- ---- two actions of one key

-- one file counts at a path
pub one_counts : (kept : List Placed) (path : List ℕ) (i j : ℕ) (p q : Placed) → Counts kept path i p → Counts kept path j q → p ≡ q
one_counts kept path i j p q a b = one_there kept i p q a.at.at.here (subst (λ (k : ℕ). slice_get kept k ≡ Some q) (sym same) b.at.at.here)
  where
    same : i ≡ j
    same = elim (le_cases (file_cmp kept) (file_total kept) i j (a.first j q b.at)) [
      | inl less ↦ absurd (b.first i p a.at (less_le (file_cmp kept) (file_total kept) i j less))
      | inr tie ↦ place_tie kept i j (last_tie (nat_cmp (file_rank kept i) (file_rank kept j)) (place_cmp kept i j) tie)
    ]

module _ (kept : List Placed) (free : IsFreeOfClashes kept) (key : Key) where
  -- two actions of the key break no rule
  unbroken : (r : Rule) → rule_rank r < 4 → (i j : ℕ) (p q : Placed) → HasKey kept key i p → HasKey kept key j q → place_cmp kept i j ≡ Less → breaks r p.action q.action ≡ true → ⊥
  unbroken r low i j p q at there less broken =
      free (record { key = key; rule = r; first = i; second = Some j }) (conflict_of kept key r i j low (record { a = p; b = q; a_key = at; b_key = there; earlier = less; broken = broken }))

  -- what holds of two where the first stands before the second holds of any two
  by_place : (R : Placed → Placed → Type 0) → ((p : Placed) → R p p) → ((p q : Placed) → R q p → R p q)
      → ((i j : ℕ) (p q : Placed) → HasKey kept key i p → HasKey kept key j q → place_cmp kept i j ≡ Less → R p q)
      → (i j : ℕ) (p q : Placed) → HasKey kept key i p → HasKey kept key j q → R p q
  by_place R itself turned apart i j p q at there = go (place_cmp kept i j) refl
    where
      go : (o : Ordering) → place_cmp kept i j ≡ o → R p q
      go Less is = apart i j p q at there is
      go Equal is = subst (R p) (one_there kept i p q at.here (subst (λ (k : ℕ). slice_get kept k ≡ Some q) (sym (place_tie kept i j is)) there.here)) (itself p)
      go Greater is = turned p q (apart j i q p there at ((place_total kept).antisymm j i ∙ ap ordering_reverse is))

  -- actions of the key are of one kind
  pub one_kind : (i j : ℕ) (p q : Placed) → HasKey kept key i p → HasKey kept key j q → kind_place p.action.kind ≡ kind_place q.action.kind
  one_kind = by_place (λ p q. kind_place p.action.kind ≡ kind_place q.action.kind) (λ p. refl) (λ p q e. sym e)
      (λ i j p q at there less. elim (cases_Bool (kind_place p.action.kind == kind_place q.action.kind)) [
        | inl same ↦ eqb-true (kind_place p.action.kind) (kind_place q.action.kind) same
        | inr other ↦ absurd (unbroken rule.Kinds (omega arith) i j p q at there less (kinds_broken p.action q.action other))
      ])

  -- where those of a kind are no files, what alike ones say is one
  one_value : {X : Type 0} (of : ActionKind) (f : Fields → X) → (kind_place of == 1) ≡ false → ((a b : Fields) → a.kind ≡ of → alike a b ≡ true → f a ≡ f b)
      → (i j : ℕ) (p q : Placed) → HasKey kept key i p → HasKey kept key j q → p.action.kind ≡ of → q.action.kind ≡ of → f p.action ≡ f q.action
  one_value of f no_file says = by_place (λ p q. p.action.kind ≡ of → q.action.kind ≡ of → f p.action ≡ f q.action) (λ p one two. refl) (λ p q h one two. sym (h two one))
      (λ i j p q at there less one two. elim (cases_Bool (alike p.action q.action)) [
        | inl same ↦ says p.action q.action one same
        | inr other ↦ absurd (unbroken rule.Attributes (omega arith) i j p q at there less (attributes_broken of p.action q.action no_file one two other))
      ])

  pub one_mode : (i j : ℕ) (p q : Placed) → HasKey kept key i p → HasKey kept key j q → p.action.kind ≡ kind.Dir → q.action.kind ≡ kind.Dir → mode_of p.action ≡ mode_of q.action
  one_mode = one_value kind.Dir mode_of refl same_mode

  pub one_target : (i j : ℕ) (p q : Placed) → HasKey kept key i p → HasKey kept key j q → p.action.kind ≡ kind.Link → q.action.kind ≡ kind.Link → value_of (codes "target") p.action ≡ value_of (codes "target") q.action
  one_target = one_value kind.Link (value_of (codes "target")) refl same_target

  pub one_end : (i j : ℕ) (p q : Placed) → HasKey kept key i p → HasKey kept key j q → p.action.kind ≡ kind.Hardlink → q.action.kind ≡ kind.Hardlink → led_to p.action ≡ led_to q.action
  one_end = one_value kind.Hardlink led_to refl same_end
