use Rattle.std.proofs.Common.{◌≡◌, IsTrue, rules, sym, subst}
use Rattle.std.proofs.lemmas.Result.{IfOk-weaker}
use Rattle.ips_load.proofs.Answered.{bad_weaker}
use Rattle.ips_emit.specs.declared.emitting.Emitted.{Emitted}
use Rattle.ips_repair.specs.Drawing.{IsBeyond}
use Rattle.ips_repair.specs.Repairing.{AreStepsToRepair, ComesOfRepair}
use Rattle.ips_repair.proofs.Told.{beyond_comes}
use Rattle.ips_repair.proofs.gathering.repair_movable.Goals as goal

pub returns-in-Ok-draw : goal.returns-in-Ok-draw
returns-in-Ok-draw g c =
    let told = g.F.Source.outside.tells c.args.folder.now in
    let t = (g.F.Source.outside.state c.args.folder.now).held in
    let history = c.args.new.now.history.items in
    let want = c.args.want.now in
    let text = c.args.text.now in
    let e = c.in-Ok-draw.emitted in
    let drawn = λ (tells : IsTrue told).
    c.in-Ok-draw.ensures text t (g.met.F.Source.sane.formed c.args.folder.now tells) (c.requires.records tells) (c.requires.gathered tells) (c.requires.free tells) (c.in-Ok.ensures.put tells) in
    record {
      plans = record {
        lists = c.checked.ensures.lists;
        within = c.checked.ensures.within;
        repaired = λ tells. IfOk-weaker c.checked.result (λ (x : Emitted). x ≡ e) (AreStepsToRepair text history want t) (λ x is. subst (AreStepsToRepair text history want t) (sym is) (drawn tells)) c.checked.ensures.same;
        refused = bad_weaker c.checked.result (IsBeyond e) (ComesOfRepair told t text history want) (beyond_comes told t text history want e drawn) c.checked.ensures.beyond;
        reads = search rules;
      };
    }
