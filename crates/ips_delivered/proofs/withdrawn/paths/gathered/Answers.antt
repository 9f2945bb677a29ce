use Rattle.std.proofs.Common.{◌++◌}
use Rattle.ips_state.specs.State.{recorded}
use Rattle.ips_state.specs.Records.{taken_away}
use Rattle.ips_due.specs.Delivered.{delivered_gone}
use Rattle.ips_delivered.specs.delivered.Named.{names_told}
use Rattle.ips_delivered.proofs.withdrawn.More.{just_from, more_then}
use Rattle.ips_delivered.proofs.withdrawn.paths.gathered.Goals as goal

pub returns : goal.returns
returns c =
    let taken = taken_away (recorded c.args.old.now) (recorded c.args.new.now) in
    let more = delivered_gone (names_told c.args.was.now) (names_told c.args.is.now) in
    just_from c.new-gone.result c.add_delivered.new.gone (taken ++ more) c.new-gone.ensures.empty (more_then c.new-gone.result c.add_taken.new.gone c.add_delivered.new.gone taken more c.in_ok-add_taken.ensures c.in_ok-add_delivered.ensures)
