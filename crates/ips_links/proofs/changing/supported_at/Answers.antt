use Rattle.std.proofs.Common.{◌∙◌}
use Rattle.ips_change.specs.Told.{change_told}
use Rattle.ips_change.specs.survey.Rows.{row_pair}
use Rattle.ips_links.proofs.Directories.{supported_is}
use Rattle.ips_links.proofs.changing.supported_at.Goals as goal

pub returns : goal.returns
returns c = record {
  told = λ r t of is held.
      let row = c.args.row.now in
      c.with_support.ensures.told r.bytes ∙ supported_is r t row.path.now.bytes (row_pair row).wanted (change_told r.bytes c.args.linked) c.args.support of.1 is held;
  fits = c.with_support.ensures.fits;
}
