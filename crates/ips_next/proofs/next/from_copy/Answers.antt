use Rattle.ips_state.specs.declared.state.State.{State}
use Rattle.ips_next.proofs.Leading.{starved_before}
use Rattle.ips_next.proofs.next.from_copy.Goals as goal

pub returns-in-Err : goal.returns-in-Err
returns-in-Err g c = starved_before {X = State} g.S.Source.outside (λ state. state) c.args.old.now c.args.command.now c.args.moment c.args.source.now
