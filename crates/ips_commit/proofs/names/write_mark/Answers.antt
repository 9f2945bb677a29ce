use Rattle.std.proofs.Common.{◌+◌, ◌-◌, length, ◌∙◌}
use Rattle.ips_contents.proofs.OwnPaths.{mark_written}
use Rattle.ips_commit.proofs.names.write_mark.Goals as goal

pub returns-clause-written : goal.returns-clause-written
returns-clause-written c =
    mark_written c.args.number (13 + length c.as_bytes-digits.result.now - 13) c.copy_from_slice.new.self c.copy_from_slice-2.new.self c.args.bytes.now c.as_bytes-digits.result.now
    c.copy_from_slice.ensures.after c.copy_from_slice-2.ensures.after (c.as_bytes-digits.ensures.value ∙ c.format.ensures.text)
