use Rattle.ips_asked.proofs.asking.ask_freeze.Goals as goal

pub returns-in-Freeze : goal.returns-in-Freeze
returns-in-Freeze c = rw c.in-Freeze.is (rw (← c.deref.ensures.value) c.put_in.ensures)
