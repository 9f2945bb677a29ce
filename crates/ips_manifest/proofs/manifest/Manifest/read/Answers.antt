use Rattle.std.proofs.Common.{ℕ}
use Rattle.std.proofs.lemmas.Result.{err_from_is_err_and}
use Rattle.ips_action.specs.Meaning.{Means, IsFirstFault}
use Rattle.ips_manifest.specs.Manifest.{line_at}
use Rattle.ips_manifest.proofs.Bounds.{bad_within}
use Rattle.ips_manifest.proofs.OnLine.{manifest_stands}
use Rattle.ips_manifest.proofs.manifest.Manifest.read.Goals as goal

pub returns-clause-stand : goal.returns-clause-stand
returns-clause-stand c = manifest_stands c.args.bytes.now c.in_ok-lines.lines.items c.in_ok-lines.ensures.found

pub returns-in_err-lines-clause-within : goal.returns-in_err-lines-clause-within
returns-in_err-lines-clause-within c =
    let p = err_from_is_err_and c.from_residual.result c.from_residual.ensures.1 in
    rw (p.1, p.2) (bad_within Means line_at IsFirstFault ℕ ℕ c.in_err-lines.field-0.0 c.args.bytes.now c.in_err-lines.ensures.fault)
