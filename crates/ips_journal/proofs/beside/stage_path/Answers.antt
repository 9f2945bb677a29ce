use Rattle.std.proofs.Common.{◌+◌, ◌-◌, length, ◌∙◌}
use Rattle.ips_journal.proofs.Paths.{stage_written}
use Rattle.ips_journal.proofs.beside.stage_path.Goals as goal

pub returns-clause-written : goal.returns-clause-written
returns-clause-written c =
    stage_written c.args.number (14 + length c.as_bytes-digits.result.now - 14) c.copy_from_slice.new.self c.copy_from_slice-2.new.self c.args.bytes.now c.as_bytes-digits.result.now
    c.copy_from_slice.ensures.after c.copy_from_slice-2.ensures.after (c.as_bytes-digits.ensures.value ∙ c.format.ensures.text)
