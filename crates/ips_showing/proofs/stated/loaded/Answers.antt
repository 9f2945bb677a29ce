use Rattle.ips_state.specs.declared.state.State.{State}
use Rattle.ips_image.specs.Whole.{IsStateFault}
use Rattle.ips_showing.specs.Asked.{asked}
use Rattle.ips_showing.proofs.Told.{unread_by, unread_of}
use Rattle.ips_showing.proofs.stated.loaded.Goals as goal

pub returns-in-Err-clause-decided : goal.returns-in-Err-clause-decided
returns-in-Err-clause-decided g c = λ tells.
    let t = (g.F.Source.outside.state c.args.folder.now).held in
    let a = asked c.args.showing.now in
    unread_by State t a (IsStateFault t) c.in-Err.fault c.unread.result c.unread.ensures.told (c.in-Err.ensures.fault tells) (λ f. unread_of t a f c.requires)
