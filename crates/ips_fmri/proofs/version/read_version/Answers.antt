use Rattle.std.proofs.Common.{sym, ◌∙◌}
use Rattle.std.proofs.lemmas.Result.{err_from_is_err_and}
use Rattle.ips_fmri.specs.Fields.{seen}
use Rattle.ips_fmri.proofs.Versions.{version_short, version_read, version_long, version_fails}
use Rattle.ips_fmri.proofs.version.read_version.Goals as goal

pub returns-in_err-fields : goal.returns-in_err-fields
returns-in_err-fields c =
    let p = err_from_is_err_and c.from_residual.result c.from_residual.ensures.1 in
    rw (p.1, p.2) (version_fails c.in_err-fields.field-0.0 c.args.bytes.now c.in_err-fields.ensures)

pub invariant_of-result : goal.invariant_of-result
invariant_of-result c = version_short c.args.bytes.now (seen c.in_ok-fields.fields) c.in_ok-fields.ensures (sym c.fits_name.ensures ∙ c.if-fits_name.true)

pub returns-then-fits_name : goal.returns-then-fits_name
returns-then-fits_name c = version_read c.args.bytes.now (seen c.in_ok-fields.fields) c.in_ok-fields.ensures (sym c.fits_name.ensures ∙ c.if-fits_name.true)

pub returns-else-fits_name : goal.returns-else-fits_name
returns-else-fits_name c = version_long c.args.bytes.now (seen c.in_ok-fields.fields) c.in_ok-fields.ensures (sym c.fits_name.ensures ∙ c.if-fits_name.false)
