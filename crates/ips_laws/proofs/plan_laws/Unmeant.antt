-- Packages that mean no image have one fault, and those that mean one have none.
use Rattle.std.proofs.Common.{◌≡◌, ℕ, List, refl, sym, subst, ◌∙◌}
use Rattle.std.specs.Cmp.Lexicographic.{slice_cmp}
use Rattle.std.specs.Ordering.{nat_cmp}
use Rattle.std.proofs.lemmas.Cmp.{nat_list_cmp_total}
use Rattle.ips_action.proofs.KeyOrder.{equal_is}
use Rattle.ips_mediate.specs.declared.set.SetMediator.{SetMediator}
use Rattle.ips_state.specs.declared.state.State.{State}
use Rattle.ips_state.specs.State.{recorded}
use Rattle.ips_conflict.specs.declared.placed.Placed.{Placed}
use Rattle.ips_meaning.specs.declared.entry.Entry.{Entry}
use Rattle.ips_meaning.specs.declared.fault.WantFault.{WantFault}
use Rattle.ips_meaning.specs.declared.fault.WantFault.TheVariants as fault
use Rattle.ips_meaning.specs.Reserved.{IsLeastReserved}
use Rattle.ips_meaning.specs.Taken.{Leaves, Stays}
use Rattle.ips_meaning.specs.Want.{IsFaultIn}
use Rattle.ips_laws.proofs.Apart.{apart, one_left}
use Rattle.ips_plan.specs.image_plan.Meaning.{StateFails, StateMeans}
use Rattle.ips_laws.specs.plan_laws.Alike.{IsSameUnmeant}
use Rattle.ips_laws.proofs.plan_laws.Clashes.{first_one}
use Rattle.ips_laws.proofs.plan_laws.States.{admitted_moved, admitted_same, mediators_same}
use Rattle.ips_laws.proofs.plan_laws.Ties.{tie}

least_one : (admitted : List Placed) (x y : List ℕ) → IsLeastReserved admitted x → IsLeastReserved admitted y → x ≡ y
least_one admitted x y h k = equal_is x y (tie (slice_cmp nat_cmp) nat_list_cmp_total x y (h.least y k.taken) (k.least x h.taken))

fault_in : (admitted kept : List Placed) (f g : WantFault) → IsFaultIn admitted kept f → IsFaultIn admitted kept g → IsSameUnmeant f g
fault_in admitted kept (fault.Reserved path) (fault.Reserved other) h k = least_one admitted path.bytes other.bytes h k
fault_in admitted kept (fault.Reserved path) (fault.Clash other) h k = absurd (k.0 path.bytes h.taken)
fault_in admitted kept (fault.Clash clash) (fault.Reserved path) h k = absurd (h.0 path.bytes k.taken)
fault_in admitted kept (fault.Clash clash) (fault.Clash other) h k = h.1.2 ∙ first_one kept h.1.0 k.1.0 h.1.1 k.1.1 ∙ sym k.1.2

module _ (a b : State) (same : recorded a ≡ recorded b) where
  -- the fault of one state is that of another with the same records
  pub fails_too : (f : WantFault) → StateFails a f → StateFails b f
  fails_too f h = record {
    taken = record {
      admitted = h.taken.admitted;
      kept = h.taken.kept;
      are_admitted = admitted_moved a b same h.taken.admitted h.taken.are_admitted;
      are_kept = subst (λ (m : List SetMediator). Leaves (Stays m h.taken.admitted) h.taken.admitted h.taken.kept) (mediators_same a b same) h.taken.are_kept;
    };
    fault_is = h.fault_is;
  }

  pub fault_one : (f g : WantFault) → StateFails a f → StateFails b g → IsSameUnmeant f g
  fault_one f g h k =
      let here : StateFails b f = fails_too f h in
      let admitted : here.taken.admitted ≡ k.taken.admitted = admitted_same b b refl here.taken.admitted k.taken.admitted here.taken.are_admitted k.taken.are_admitted in
      let left : Leaves (Stays b.mediators.items k.taken.admitted) k.taken.admitted here.taken.kept = subst (λ (l : List Placed). Leaves (Stays b.mediators.items l) l here.taken.kept) admitted here.taken.are_kept in
      let kept : here.taken.kept ≡ k.taken.kept = one_left (Stays b.mediators.items k.taken.admitted) k.taken.admitted here.taken.kept k.taken.kept left k.taken.are_kept in
      fault_in k.taken.admitted k.taken.kept f g (subst (λ (l : List Placed). IsFaultIn k.taken.admitted l f) kept (subst (λ (l : List Placed). IsFaultIn l here.taken.kept f) admitted here.fault_is)) k.fault_is

  pub fails_or_means : (f : WantFault) (x : List (List ℕ × Entry)) → StateFails a f → StateMeans b x → ⊥
  fails_or_means f x h k = apart b.settings b.mediators.items b.installed.items x f k.mean (fails_too f h)
