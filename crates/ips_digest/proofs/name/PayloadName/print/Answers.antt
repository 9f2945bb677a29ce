use Rattle.std.proofs.Common.{sym, ◌∙◌, arith}
use Rattle.std.proofs.lemmas.List.{take_all, take_at, drop_all, drop_at}
use Rattle.ips_digest.specs.Name.{spelling}
use Rattle.ips_digest.proofs.name.PayloadName.print.Goals as goal

pub returns-in-Sha1-clause-spelled : goal.returns-in-Sha1-clause-spelled
unfolding spelling
returns-in-Sha1-clause-spelled c =
    rw c.in-Sha1.is (take_at _ _ 40 (omega arith) ∙ c.write_lower_hex.ensures)

pub returns-in-Sha1-clause-rest : goal.returns-in-Sha1-clause-rest
returns-in-Sha1-clause-rest c = drop_at c.write_lower_hex.new.text _ 40 (omega arith)

pub returns-in-Sha256-clause-spelled : goal.returns-in-Sha256-clause-spelled
unfolding spelling
returns-in-Sha256-clause-spelled c =
    rw c.in-Sha256.is (take_all 64 c.write_lower_hex-in-Sha256.new.text (omega arith) ∙ c.write_lower_hex-in-Sha256.ensures)

pub returns-in-Sha256-clause-rest : goal.returns-in-Sha256-clause-rest
returns-in-Sha256-clause-rest c =
    drop_all 64 c.write_lower_hex-in-Sha256.new.text (omega arith) ∙ sym (drop_all 64 c.args.out.now (omega arith))
