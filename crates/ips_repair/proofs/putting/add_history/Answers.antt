use Rattle.ips_repair.proofs.putting.add_history.Goals as goal

pub returns-in-Some : goal.returns-in-Some
returns-in-Some c = rw c.in-Some.is c.add_text.ensures
