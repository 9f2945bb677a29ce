use Rattle.ips_asked.proofs.asking.ask_mediators.Goals as goal

pub returns-in-SetMediator : goal.returns-in-SetMediator
returns-in-SetMediator c = rw c.in-SetMediator.is c.set_mediator.ensures
