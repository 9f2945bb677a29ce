use Rattle.std.proofs.Common.{◌≡◌, IsTrue, refl, sym, subst}
use Rattle.std.proofs.lemmas.Bool.{false_from_ne_true}
use Rattle.std.proofs.lemmas.Result.{IfOk-weaker}
use Rattle.ips_state.specs.State.{recorded}
use Rattle.ips_load.proofs.Answered.{bad_weaker}
use Rattle.ips_emit.specs.declared.emitting.Emitted.{Emitted}
use Rattle.ips_plan.specs.created.Creating.{AreStepsToMake, ComesOfMaking, IsBeyond}
use Rattle.ips_plan.proofs.created.Making.{beyond_comes, never_hindered, steps_made}
use Rattle.ips_plan.proofs.created.laying.lay_due.Goals as goal

pub returns-in-Ok-clause-plans : goal.returns-in-Ok-clause-plans
returns-in-Ok-clause-plans g c =
    let told = g.F.Source.outside.tells c.args.folder.now in
    let t = (g.F.Source.outside.state c.args.folder.now).held in
    let e = c.in-Ok.emitted in
    let text = c.args.text.now in
    let new = c.args.new.now in
    let want = c.args.want.now in
    let made = λ (tells : IsTrue told).
    steps_made new c.requires.can.blank want c.requires.meant t (g.met.F.Source.sane.formed c.args.folder.now tells) (c.requires.can.records tells) c.args.due.now c.requires.due text _ e refl refl (c.in-Ok.ensures.over tells) (c.in-Ok.ensures.planned tells) in
    record {
      laid = λ tells. IfOk-weaker c.within.result (λ (x : Emitted). x ≡ e) (AreStepsToMake text (recorded new) want t) (λ x is. subst (AreStepsToMake text (recorded new) want t) (sym is) (made tells)) c.within.ensures.same;
      refused = bad_weaker c.within.result (IsBeyond e) (ComesOfMaking told t text (recorded new) want) (beyond_comes told t text (recorded new) want e c.in-Ok.ensures.lists made) c.within.ensures.beyond;
    }

pub returns-in-Err-Bad-Unmovable-clause-plans : goal.returns-in-Err-Bad-Unmovable-clause-plans
returns-in-Err-Bad-Unmovable-clause-plans g c = record {
  laid = λ told. tt;
  refused = false_from_ne_true (g.F.Source.outside.tells c.args.folder.now) (λ told.
      let t = (g.F.Source.outside.state c.args.folder.now).held in
      never_hindered c.args.new.now c.requires.can.blank c.args.want.now c.requires.meant t (g.met.F.Source.sane.formed c.args.folder.now told) (c.requires.can.records told) c.args.due.now c.requires.due c.args.text.now _ c.in-Err-Bad-Unmovable.path.bytes refl refl
      (rw c.in-Err-Bad-Unmovable.field-0-0-is at (rw c.in-Err-Bad-Unmovable.field-0-is at (c.in-Err-Bad-Unmovable.ensures.over_hindered told)))
      (rw c.in-Err-Bad-Unmovable.field-0-0-is at (rw c.in-Err-Bad-Unmovable.field-0-is at (c.in-Err-Bad-Unmovable.ensures.hindered told))));
}
