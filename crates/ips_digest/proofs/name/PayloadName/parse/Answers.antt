use Rattle.std.proofs.Common.{None, Some, rules}
use Rattle.ips_digest.specs.Name.{spelling}
use Rattle.ips_digest.specs.declared.name.PayloadName.TheVariants.{Sha1, Sha256}
use Rattle.ips_digest.proofs.Names.{read_only}
use Rattle.ips_digest.proofs.name.PayloadName.parse.Goals as goal

pub returns-in_err-from_lower_hex-in-40-clause-only : goal.returns-in_err-from_lower_hex-in-40-clause-only
unfolding spelling
returns-in_err-from_lower_hex-in-40-clause-only c =
    read_only c.args.text.now c.from_residual.result (search rules)

pub returns-in_err-from_lower_hex-in-64-clause-only : goal.returns-in_err-from_lower_hex-in-64-clause-only
unfolding spelling
returns-in_err-from_lower_hex-in-64-clause-only c =
    read_only c.args.text.now c.from_residual-in_err-from_lower_hex-in-64.result (search rules)

pub returns-in_ok-from_lower_hex-in-40-clause-only : goal.returns-in_ok-from_lower_hex-in-40-clause-only
unfolding spelling
returns-in_ok-from_lower_hex-in-40-clause-only c =
    read_only c.args.text.now (Some (Sha1 c.in_ok-from_lower_hex-in-40.field-0)) (search rules)

pub returns-in_ok-from_lower_hex-in-64-clause-only : goal.returns-in_ok-from_lower_hex-in-64-clause-only
unfolding spelling
returns-in_ok-from_lower_hex-in-64-clause-only c =
    read_only c.args.text.now (Some (Sha256 c.in_ok-from_lower_hex-in-64.field-0)) (search rules)

pub returns-in_default-clause-only : goal.returns-in_default-clause-only
returns-in_default-clause-only c = read_only c.args.text.now None (search rules)
