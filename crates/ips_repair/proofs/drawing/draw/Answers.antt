use Rattle.std.specs.Option.{option_map}
use Rattle.ips_change.specs.wanted.Named.{is_payload_of}
use Rattle.ips_repair.proofs.History.{over, says}
use Rattle.ips_repair.proofs.Steps.{all_repaired}
use Rattle.ips_repair.proofs.drawing.draw.Goals as goal

pub returns-in-Ok : goal.returns-in-Ok
returns-in-Ok c = λ text t formed stands known free put.
    let want = c.args.want.now in
    let history = c.args.new.now.history.items in
    let means = c.requires.changes.meant in
    let laws = c.repairs_are_lawful.ensures in
    let drafted = c.drafted_saving_steps_are_a_plan.ensures in
    all_repaired _ _ _ want means text history t formed stands c.args.changes.now c.args.things.now c.args.root.now.bytes c.args.ways.now known
    (λ bytes. laws.repair _ _ _ want means bytes is_payload_of history t (over history t) (says history t bytes))
    (λ bytes q own. laws.own_old _ _ _ want means bytes is_payload_of t (over history t) q own)
    (λ bytes q own. laws.own_new _ _ _ want means bytes is_payload_of t (over history t) q own)
    (c.repairs_hang_together.ensures.salvage (λ p. p) is_payload_of history t (over history t) (says history t (λ p. p)))
    c.repairs_are_in_order.ensures
    (λ bytes asides sources e asked formed own is are none emitted. (drafted.steps _ t _ asides sources e asked formed own is are none emitted, drafted.staged _ t _ asides sources e asked formed own is are none emitted))
    free c.requires.movable c.requires.path (option_map (λ text. text.items) c.args.put) put c.add_all.new.emitted c.in-Ok.ensures
