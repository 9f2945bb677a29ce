use Rattle.std.proofs.Common.{ap, refl, sym, ◌∙◌, ◌∷◌}
use Rattle.std.proofs.lemmas.Option.{slice_get_read}
use Rattle.ips_refute.specs.declared.nogoods.Nogood.{Nogood}
use Rattle.ips_refute.proofs.Checks.{earlier_iff, no_earlier}
use Rattle.ips_refute.proofs.checking.has_earlier.Goals as goal

pub returns-then-number-earlier : goal.returns-then-number-earlier
returns-then-number-earlier c =
    let at = c.index-earlier-number in
    earlier_iff c.is_within.result c.args.earlier.now c.args.number at.result c.deref.result.now (c.args.more ∷ c.args.set.now)
    (slice_get_read c.args.earlier.now _ c.args.number at.result refl c.if-number-earlier.true at.is)
    (c.deref.ensures.value ∙ ap (λ (g : Nogood). g.set.items) (sym at.is))
    c.is_within.ensures

pub returns-else-number-earlier : goal.returns-else-number-earlier
returns-else-number-earlier c = no_earlier c.args.earlier.now c.args.number (c.args.more ∷ c.args.set.now) c.if-number-earlier.false
