use Rattle.ips_actuate.proofs.Found.{asked_are}
use Rattle.ips_actuate.proofs.services.asked_for.Goals as goal

pub returns : goal.returns
returns c =
    asked_are c.args.key.now c.args.old.now c.args.new.now c.args.disabled.now c.requires.disabled c.args.standing.now.old_lines c.args.standing.now.new_lines c.new-set.result c.add_asked.new.set c.add_asked-2.new.set c.requires.old_lines
    c.requires.new_lines c.new-set.ensures.empty c.in_ok-add_asked.ensures c.in_ok-add_asked-2.ensures
