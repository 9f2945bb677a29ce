use Rattle.std.proofs.Common.{Option, sym, subst}
use Rattle.std.specs.Prelude.{IfSome}
use Rattle.ips_image_steps.specs.saving.Saving.{CanBeMade, Saved}
use Rattle.ips_image_steps.proofs.saving.Gathered.{can_place}
use Rattle.ips_image_steps.proofs.saving.Emission.{added, both_ok}
use Rattle.ips_image_steps.proofs.saving.saving.add_saved.Goals as goal

pub emit-requires : goal.emit-requires
emit-requires c = λ q. subst (λ (o : Option Saved). IfSome o CanBeMade) (sym (c.in-Ok.ensures q)) (can_place c.args.root.now.bytes c.args.things.now c.args.sides.now c.args.names.now c.args.ways.now c.requires q)

pub returns-in-Ok : goal.returns-in-Ok
returns-in-Ok c = both_ok c.emit.result (λ order steps r t a turns provenances good bare root under found are same short before.
    added r t a c.args.root.now.bytes c.args.things.now c.args.sides.now c.args.names.now c.args.ways.now c.fill.new.saved turns provenances c.emit.new.emitted good bare root under found are same short c.in-Ok.ensures order (steps r.bytes t turns provenances before)) c.emit.ensures.order c.emit.ensures.steps
