use Rattle.ips_salvage.proofs.Destruction.{unseen_spared}
use Rattle.ips_change.specs.survey.Rows.{row_pair}
use Rattle.ips_salvage.proofs.destroying.is_spared.Goals as goal

pub returns-in_default : goal.returns-in_default
returns-in_default c = λ r t of looked made.
    let row = c.args.row.now in
    unseen_spared r t row.path.now.bytes (row_pair row).was (row_pair row).wanted row.stands of.0 of.1 looked made c.in_default.not-File
