-- Total orders, and those of places and files.
use Rattle.std.proofs.Common.{◌≡◌, ◌≢◌, ◌⊎◌, false, List, refl, sym, ap, ◌∙◌, inl, inr}
use Rattle.std.specs.declared.cmp.Ordering.{Ordering}
use Rattle.std.specs.declared.cmp.Ordering.TheVariants.{Less, Equal, Greater}
use Rattle.std.specs.Ordering.{is_gt, ordering_reverse}
use Rattle.std.specs.Cmp.{IsTotalOrder, then_total, on_total}
use Rattle.std.specs.Cmp.Lexicographic.{options_total}
use Rattle.std.proofs.lemmas.Bool.{true≢false}
use Rattle.std.proofs.lemmas.Cmp.{upto, tied_itself, nat_cmp_total, nat_list_cmp_total}
use Rattle.ips_conflict.specs.declared.placed.Placed.{Placed}
use Rattle.ips_conflict.specs.Order.{stem_at, line_at, place_cmp}
use Rattle.ips_conflict.specs.Clash.{file_rank, file_cmp}

low : (o : Ordering) → o ≢ Greater → is_gt o ≡ false
low Less h = refl
low Equal h = refl
low Greater h = absurd (h refl)

not_high : (o : Ordering) → is_gt o ≡ false → o ≢ Greater
not_high o h e = true≢false (sym (ap is_gt e) ∙ h)

turned_low : (o : Ordering) → (o ≡ Less → ⊥) → is_gt (ordering_reverse o) ≡ false
turned_low Less h = absurd (h refl)
turned_low Equal h = refl
turned_low Greater h = refl

turned_less : (o : Ordering) → ordering_reverse o ≡ Less → o ≡ Greater
turned_less Less e = cc
turned_less Equal e = cc
turned_less Greater e = refl

pub less_or : (o : Ordering) → o ≢ Greater → (o ≡ Less) ⊎ (o ≡ Equal)
less_or Less h = inl refl
less_or Equal h = inr refl
less_or Greater h = absurd (h refl)

module _ {K : Type 0} (R : K → K → Ordering) (total : IsTotalOrder R) where
  pub le_trans : (x y z : K) → R x y ≢ Greater → R y z ≢ Greater → R x z ≢ Greater
  le_trans x y z h k = not_high (R x z) (upto total x y z (low (R x y) h) (low (R y z) k))

  pub le_of_less : (x y : K) → R x y ≡ Less → R x y ≢ Greater
  le_of_less x y h e = let same : Less ≡ Greater = sym h ∙ e in absurd cc

  pub le_self : (x : K) → R x x ≢ Greater
  le_self x e = let same : Equal ≡ Greater = sym (tied_itself total x) ∙ e in absurd cc

  -- what doesn't stand before isn't passed
  pub le_unless : (x y : K) → (R y x ≡ Less → ⊥) → R x y ≢ Greater
  le_unless x y h = not_high (R x y) (ap is_gt (total.antisymm x y) ∙ turned_low (R y x) h)

  pub less_le : (x y : K) → R x y ≡ Less → R y x ≡ Greater
  less_le x y h = turned_less (R y x) (sym (total.antisymm x y) ∙ h)

  pub le_cases : (x y : K) → R x y ≢ Greater → (R x y ≡ Less) ⊎ (R x y ≡ Equal)
  le_cases x y h = less_or (R x y) h

pub place_total : (placed : List Placed) → IsTotalOrder (place_cmp placed)
place_total placed = then_total (then_total (on_total (stem_at placed) (options_total nat_list_cmp_total)) (on_total (line_at placed) (options_total nat_cmp_total))) nat_cmp_total

pub file_total : (placed : List Placed) → IsTotalOrder (file_cmp placed)
file_total placed = then_total (on_total (file_rank placed) nat_cmp_total) (place_total placed)
