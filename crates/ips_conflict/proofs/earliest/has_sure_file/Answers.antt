use Rattle.std.proofs.Common.{◌∙◌, ap, sym}
use Rattle.std.proofs.lemmas.Option.{MatchOption-at_some, get_or_from_slice_get}
use Rattle.ips_conflict.specs.declared.placed.Placed.{Placed}
use Rattle.ips_conflict.specs.Clash.{HasSureFile, may_be_missing}
use Rattle.ips_conflict.proofs.Found.{sure_by, not_missing}
use Rattle.ips_conflict.proofs.earliest.has_sure_file.Goals as goal

pub returns-in-Some : goal.returns-in-Some
returns-in-Some c =
    let w = MatchOption-at_some _ _ c.in-Some.i (sym c.in-Some.ensures) (c.requires.files c.args.path.now) in
    let there = get_or_from_slice_get c.args.placed.now c.in-Some.i w.0 c.index-placed-i.result w.1.at.at.here in
    not_missing c.may_be_missing.result (HasSureFile c.args.placed.now c.args.path.now)
    (sure_by c.args.placed.now c.args.path.now c.in-Some.i w.0 c.may_be_missing.result w.1 (c.may_be_missing.ensures ∙ ap may_be_missing (c.action.ensures ∙ ap (λ (p : Placed). p.action) (c.index-placed-i.is ∙ there))))
