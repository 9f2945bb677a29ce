use Rattle.std.proofs.Common.{◌∙◌, ap}
use Rattle.ips_tell.specs.refusals.Told.{unmeant_told}
use Rattle.ips_showing.proofs.Told.{unmeant_by, unmeant_in}
use Rattle.ips_showing.proofs.comparing.compared.Goals as goal

pub returns-in-Err-Bad-clause-decided : goal.returns-in-Err-Bad-clause-decided
returns-in-Err-Bad-clause-decided g c = λ tells.
    let t = (g.F.Source.outside.state c.args.folder.now).held in
    unmeant_by t (record { state = c.args.state.now; holds = c.requires tells }) c.in-Err-Bad.fault c.unmeant.result (c.unmeant.ensures.told ∙ ap unmeant_told c.in-Err-Bad.fault-is)
    (unmeant_in c.args.state.now c.in-Err-Bad.fault c.deref.result.now c.deref-2.result.now c.deref.ensures.value c.deref-2.ensures.value (rw c.in-Err-Bad.field-0-is at c.in-Err-Bad.ensures.fault))
