use Rattle.ips_showing.proofs.comparing.against.Goals as goal

pub returns-in-Ok-clause-decided : goal.returns-in-Ok-clause-decided
returns-in-Ok-clause-decided g c = λ tells.
    let t = (g.F.Source.outside.state c.args.folder.now).held in
    c.judged.ensures.decided t (record { state = c.args.state.now; holds = c.requires.holds tells })
    (record { entries = c.args.want.now; mean = c.requires.mean; found_are = c.in-Ok.ensures.found tells })
