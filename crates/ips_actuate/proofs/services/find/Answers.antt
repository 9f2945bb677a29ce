use Rattle.ips_actuate.proofs.Found.{disabled_are}
use Rattle.ips_actuate.proofs.services.find.Goals as goal

pub asked_for-requires-clause-disabled : goal.asked_for-requires-clause-disabled
asked_for-requires-clause-disabled c =
    disabled_are c.args.old.now c.args.new.now c.args.standing.now.new_lines c.args.standing.now.new_keys c.in_ok-disabled.disabled c.requires.new_lines c.requires.new_keys c.in_ok-disabled.ensures

pub asked_for-requires-2-clause-disabled : goal.asked_for-requires-2-clause-disabled
asked_for-requires-2-clause-disabled c =
    disabled_are c.args.old.now c.args.new.now c.args.standing.now.new_lines c.args.standing.now.new_keys c.in_ok-disabled.disabled c.requires.new_lines c.requires.new_keys c.in_ok-disabled.ensures

pub asked_for-requires-3-clause-disabled : goal.asked_for-requires-3-clause-disabled
asked_for-requires-3-clause-disabled c =
    disabled_are c.args.old.now c.args.new.now c.args.standing.now.new_lines c.args.standing.now.new_keys c.in_ok-disabled.disabled c.requires.new_lines c.requires.new_keys c.in_ok-disabled.ensures

pub returns : goal.returns
returns c = record {
  disabled = disabled_are c.args.old.now c.args.new.now c.args.standing.now.new_lines c.args.standing.now.new_keys c.in_ok-disabled.disabled c.requires.new_lines c.requires.new_keys c.in_ok-disabled.ensures;
  suspended = c.in_ok-suspended.ensures;
  refreshed = c.in_ok-refreshed.ensures;
  restarted = c.in_ok-restarted.ensures;
}
