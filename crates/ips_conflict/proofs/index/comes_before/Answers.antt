use Rattle.std.proofs.Common.{◌∙◌, sym, ap}
use Rattle.ips_conflict.specs.Alike.{takes_place}
use Rattle.ips_conflict.proofs.Places.{at_index}
use Rattle.ips_conflict.proofs.Indexed.{by_places}
use Rattle.ips_conflict.proofs.index.comes_before.Goals as goal

pub returns : goal.returns
returns c =
    let same =
    by_places c.args.placed.now c.args.i c.args.j c.index-placed-i.result c.index-placed-j.result c.takes_place-first.result c.takes_place-second.result (at_index c.args.placed.now c.args.i c.index-placed-i.result c.requires.i c.index-placed-i.is)
    (at_index c.args.placed.now c.args.j c.index-placed-j.result c.requires.j c.index-placed-j.is) (c.takes_place-first.ensures ∙ ap takes_place c.action.ensures) (c.takes_place-second.ensures ∙ ap takes_place c.action-2.ensures) c.if-first-second.false
    in (λ h. same ∙ c.is_earlier.ensures.0 h, λ e. c.is_earlier.ensures.1 (sym same ∙ e))
