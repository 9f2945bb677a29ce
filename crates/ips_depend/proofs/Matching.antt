-- The computed tests on versions are `at least` and `incorporates`.
use Rattle.std.proofs.Common.{◌≡◌, ℕ, Bool, true, eqb, Option, Some, None, refl, sym, ap, ◌∙◌}
use Rattle.std.specs.Prelude.{◌↔◌, Decides}
use Rattle.std.specs.List.{starts_with}
use Rattle.std.specs.Option.{option_eq}
use Rattle.std.specs.declared.cmp.Ordering.{Ordering}
use Rattle.std.specs.declared.cmp.Ordering.TheVariants.{Less, Equal, Greater}
use Rattle.std.specs.Ordering.{MatchOrdering, is_ge}
use Rattle.std.specs.Cmp.Lexicographic.{bytes_decides}
use Rattle.std.proofs.lemmas.Bool.{true≢false, and_parts, and_from}
use Rattle.std.proofs.lemmas.Bool.Decides.{same_from_decides, Decides-eqb}
use Rattle.ips_fmri.specs.Version.{Parts}
use Rattle.ips_fmri.specs.Order.{IsAtMost, IfStamped, Incorporates, version_cmp}
use Rattle.ips_fmri.proofs.Orders.{versions_tell}
use Rattle.ips_fmri.proofs.Prefixes.{prefix_tells}
use Rattle.ips_depend.specs.Matching.{is_at_least, is_incorporated, is_stamped_as}
use Rattle.ips_text.proofs.Truths.{some_same}

-- where the answer isn't `Less`, the first fact doesn't hold
not_ge : (r : Ordering) → is_ge r ≡ true → r ≡ Less → ⊥
not_ge r e l = true≢false (sym e ∙ ap is_ge l)

ge_unless : (r : Ordering) (L E G : Type 0) → MatchOrdering r L E G → (L → ⊥) → is_ge r ≡ true
ge_unless Less L E G m h = absurd (h m)
ge_unless Equal L E G m h = refl
ge_unless Greater L E G m h = refl

pub at_least_tells : (v floor : Parts) → Decides (is_at_least v floor) (IsAtMost floor v)
at_least_tells v floor =
    let t = versions_tell v floor in
    (λ e less. not_ge (version_cmp v floor) e (t.less less), λ h. ge_unless (version_cmp v floor) _ _ _ t.holds h)

stamps_decide : (x y : Option ℕ) → Decides (option_eq eqb x y) (x ≡ y)
stamps_decide None None = (λ e. refl, λ e. refl)
stamps_decide None (Some y) = (λ e. absurd (true≢false (sym e)), λ e. absurd cc)
stamps_decide (Some x) None = (λ e. absurd (true≢false (sym e)), λ e. absurd cc)
stamps_decide (Some x) (Some y) = (λ e. ap (λ (n : ℕ). Some n) ((Decides-eqb x y).0 e), λ e. (Decides-eqb x y).1 (some_same x y e))

stamped_tells : (v l : Parts) (o : Option ℕ) → Decides (is_stamped_as v l o) (IfStamped v l o)
stamped_tells v l None = (λ e. tt, λ u. refl)
stamped_tells v l (Some n) = (
  λ e.
      let a = and_parts _ _ e in
      let b = and_parts _ _ a.1 in
      ((bytes_decides v.release l.release).0 a.0, (bytes_decides v.branch l.branch).0 b.0, (stamps_decide v.stamp l.stamp).0 b.1),
  λ h. and_from _ _ ((bytes_decides v.release l.release).1 h.0) (and_from _ _ ((bytes_decides v.branch l.branch).1 h.1) ((stamps_decide v.stamp l.stamp).1 h.2)),
)

pub incorporated_tells : (v l : Parts) → Decides (is_incorporated v l) (Incorporates v l)
incorporated_tells v l =
    let r = prefix_tells v.release l.release (starts_with eqb v.release l.release) refl in
    let b = prefix_tells v.branch l.branch (starts_with eqb v.branch l.branch) refl in
    let s = stamped_tells v l l.stamp in (
      λ e.
          let p = and_parts _ _ e in
          let q = and_parts _ _ p.1 in
          record { release = r.0 p.0; branch = b.0 q.0; stamped = s.0 q.1 },
      λ h. and_from _ _ (r.1 h.release) (and_from _ _ (b.1 h.branch) (s.1 h.stamped)),
    )

-- what `at_least` answers is what the test computes
pub at_least_same : (v floor : Parts) (r : Bool) → (r ≡ true) ↔ IsAtMost floor v → r ≡ is_at_least v floor
at_least_same v floor r t = same_from_decides r _ t (at_least_tells v floor)

-- what `incorporates` answers is what the test computes
pub incorporated_same : (v l : Parts) (r : Bool) → (r ≡ true) ↔ Incorporates v l → r ≡ is_incorporated v l
incorporated_same v l r t = same_from_decides r _ t (incorporated_tells v l)
