-- What ties in orders.
use Rattle.std.proofs.Common.{◌≡◌, ◌≢◌, inl, inr}
use Rattle.std.specs.Cmp.{IsTotalOrder}
use Rattle.std.specs.declared.cmp.Ordering.{Ordering}
use Rattle.std.specs.declared.cmp.Ordering.TheVariants.{Equal, Greater}
use Rattle.ips_conflict.proofs.Ordered.{le_cases, less_le}

-- two of which neither comes behind the other tie
pub tie : {K : Type 0} (R : K → K → Ordering) → IsTotalOrder R → (x y : K) → R x y ≢ Greater → R y x ≢ Greater → R x y ≡ Equal
tie R total x y h k = elim (le_cases R total x y h) [ inl less ↦ absurd (k (less_le R total x y less)) | inr equal ↦ equal ]
