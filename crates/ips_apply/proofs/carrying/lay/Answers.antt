use Rattle.ips_steps.specs.View.{step_of, sort_of}
use Rattle.ips_outside.proofs.Trees.{on_err}
use Rattle.ips_apply.proofs.Takers.{it_takes, it_counts, it_stays, clashing}
use Rattle.ips_apply.proofs.carrying.lay.Goals as goal

pub unreachable-requires : goal.unreachable-requires
unreachable-requires g c =
    clashing (λ k. (goal.Kind-dyn g (k.vtable, k.value)).sorts k.value) (λ k. (goal.Kind-dyn g (k.vtable, k.value)).finished k.value) (sort_of (step_of c.args.step.now)) c.deref.result.now c.args.kinds.now.items c.deref.ensures.value
    (c.requires.takers (sort_of (step_of c.args.step.now))) c.in_default.ensures.none

pub carry_out-requires-clause-takes : goal.carry_out-requires-clause-takes
carry_out-requires-clause-takes g c =
    it_takes (λ k. (goal.Kind-dyn g (k.vtable, k.value)).sorts k.value) (λ k. (goal.Kind-dyn g (k.vtable, k.value)).finished k.value) (sort_of (step_of c.args.step.now)) c.deref.result.now c.args.kinds.now.items c.deref.ensures.value
    c.in-Some.place c.index_mut.result.now c.index_mut.ensures.value c.in-Some.ensures.first

pub returns-clause-counted : goal.returns-clause-counted
returns-clause-counted g c =
    it_counts (λ k. (goal.Kind-dyn g (k.vtable, k.value)).sorts k.value) (λ k. (goal.Kind-dyn g (k.vtable, k.value)).finished k.value) (sort_of (step_of c.args.step.now)) c.deref.result.now c.args.kinds.now.items c.deref.ensures.value
    c.in-Some.place c.index_mut.result.now c.index_mut.ensures.value c.in-Some.ensures.first c.carry_out.new.kind c.carry_out.ensures.sorts c.in_ok-carry_out.ensures.counted

pub returns-in_err-carry_out-clause-uncounted : goal.returns-in_err-carry_out-clause-uncounted
returns-in_err-carry_out-clause-uncounted g c =
    on_err c.from_residual.result (it_stays (λ k. (goal.Kind-dyn g (k.vtable, k.value)).sorts k.value) (λ k. (goal.Kind-dyn g (k.vtable, k.value)).finished k.value) (sort_of (step_of c.args.step.now)) c.deref.result.now c.args.kinds.now.items c.deref.ensures.value
    c.in-Some.place c.index_mut.result.now c.index_mut.ensures.value c.in-Some.ensures.first c.carry_out.new.kind c.carry_out.ensures.sorts c.in_err-carry_out.ensures.uncounted)
