use Rattle.std.proofs.Common.{◌≡◌, None, map, sym, subst}
use Rattle.std.proofs.lemmas.Result.{IfOk-weaker}
use Rattle.ips_steps.specs.View.{step_of}
use Rattle.ips_emit.specs.declared.emitting.Emitted.{Emitted}
use Rattle.ips_plan_limits.specs.Limits.{first_excess}
use Rattle.ips_plan.specs.image_plan.Behind.{AreSteps, ComesOfDue, IsBeyond, IsPlannedOf}
use Rattle.ips_plan.specs.image_plan.Licenses.{AreDisplayed}
use Rattle.ips_plan.proofs.image_plan.Beyond.{too_large}
use Rattle.ips_load.proofs.Answered.{bad_weaker}
use Rattle.ips_plan.proofs.image_plan.behind.plan_of.Goals as goal

pub returns-in-Ok-steps_between-clause-planned : goal.returns-in-Ok-steps_between-clause-planned
returns-in-Ok-steps_between-clause-planned g c =
    let told = g.F.Source.outside.tells c.args.folder.now in
    let t = (g.F.Source.outside.state c.args.folder.now).held in
    let b = c.args.between in
    let e = c.in-Ok-steps_between.emitted in
    IfOk-weaker c.within.result (λ p. (p.emitted ≡ e) × (p.licenses.items ≡ c.in-Ok.licenses.items) × (first_excess (map step_of e.steps.items) e.staged.items ≡ None)) (IsPlannedOf told t c.args.moment.now b c.args.due.now c.args.accept)
    (λ p h. record {
      steps = subst (AreSteps told t c.args.moment.now b c.args.due.now) (sym h.0) (record { lists = c.in-Ok-steps_between.ensures.lists; steps = c.in-Ok-steps_between.ensures.planned; over = c.in-Ok-steps_between.ensures.over });
      within = subst (λ (x : Emitted). first_excess (map step_of x.steps.items) x.staged.items ≡ None) (sym h.0) h.2;
      displayed = subst (AreDisplayed b.old.now b.new.now c.args.accept) (sym h.1) c.in-Ok.ensures.displayed;
    }) c.within.ensures.within

pub returns-in-Ok-steps_between-clause-refused : goal.returns-in-Ok-steps_between-clause-refused
returns-in-Ok-steps_between-clause-refused g c =
    let told = g.F.Source.outside.tells c.args.folder.now in
    let t = (g.F.Source.outside.state c.args.folder.now).held in
    let b = c.args.between in
    let e = c.in-Ok-steps_between.emitted in
    bad_weaker c.within.result (IsBeyond e) (ComesOfDue told t c.args.moment.now b c.args.due.now c.args.accept)
    (too_large told t c.args.moment.now b c.args.due.now c.args.accept e c.in-Ok.licenses.items c.in-Ok.ensures.displayed (record { lists = c.in-Ok-steps_between.ensures.lists; steps = c.in-Ok-steps_between.ensures.planned; over = c.in-Ok-steps_between.ensures.over }))
    c.within.ensures.beyond
