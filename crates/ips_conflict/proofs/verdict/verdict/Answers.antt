use Rattle.std.proofs.Common.{◌∙◌, ap}
use Rattle.ips_action.specs.Action.{Fields}
use Rattle.ips_conflict.specs.Alike.{kind_place}
use Rattle.ips_conflict.proofs.Decided.{found_is}
use Rattle.ips_conflict.proofs.verdict.verdict.Goals as goal

pub returns : goal.returns
returns c =
    found_is c.args.table.now c.args.a.now c.args.b.now _ _ _ _ c.find.result c.in_ok-likeness.likeness c.overlaid-overlay.result c.requires.table c.requires.a c.requires.b
    (c.kind_place.ensures ∙ ap (λ (f : Fields). kind_place f.kind) c.a.view_is) (c.kind_place-2.ensures ∙ ap (λ (f : Fields). kind_place f.kind) c.b.view_is) c.from.ensures c.from-2.ensures c.in_ok-likeness.ensures c.overlaid-overlay.ensures
    c.find.ensures.value
