use Rattle.std.proofs.Common.{ℕ, List, take, drop, sym, subst}
use Rattle.std.specs.List.{AllByRecursion}
use Rattle.ips_action.specs.Held.{OfKey, BeginsOther}
use Rattle.ips_action.proofs.Places.{held_drop, split_run}
use Rattle.ips_action.proofs.attrs.AttrList.split_first.Goals as goal

pub invariant_of-rest : goal.invariant_of-rest
invariant_of-rest c = rw c.split_at.ensures.back (held_drop c.self.inside.text.now c.run_of.result c.self.inside.slots.now c.self.invariant)

pub returns : goal.returns
returns c =
    rw (← c.self.view_is) (split_run c.self.inside.text.now c.self.inside.slots.now c.split_at.result.0.now c.split_at.result.1.now c.in_ok-first.first.now c.run_of.result
    (sym c.in_ok-first.ensures.value) c.split_at.ensures.front c.split_at.ensures.back
    (subst (λ (k : List ℕ). AllByRecursion (OfKey k) (take c.run_of.result c.self.inside.slots.now)) c.as_str.ensures c.run_of.ensures.same)
    (subst (λ (k : List ℕ). BeginsOther k (drop c.run_of.result c.self.inside.slots.now)) c.as_str.ensures c.run_of.ensures.other))
