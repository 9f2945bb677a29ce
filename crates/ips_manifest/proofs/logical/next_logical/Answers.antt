use Rattle.std.proofs.Common.{ℕ}
use Rattle.std.proofs.lemmas.Result.{err_from_is_err_and}
use Rattle.ips_manifest.proofs.Judged.{single_fails}
use Rattle.ips_manifest.proofs.logical.next_logical.Goals as goal

pub returns-in_err-text-in-Some-clause-bad : goal.returns-in_err-text-in-Some-clause-bad
returns-in_err-text-in-Some-clause-bad c =
    let p = err_from_is_err_and c.from_residual.result c.from_residual.ensures.1 in
    rw (p.1, p.2) (single_fails ℕ ℕ c.in_err-text-in-Some.field-0.0 c.args.rest.number c.args.rest.bytes.now c.in-Some.line.now c.in-Some.behind.now c.in-Some.ensures.line c.in-Some.ensures.shorter c.in_err-text-in-Some.ensures.bad)
