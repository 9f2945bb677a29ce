use Rattle.std.proofs.Common.{◌∙◌, sym, ap}
use Rattle.std.proofs.lemmas.Slice.Eq.{bytes_eq-Decides}
use Rattle.ips_index.specs.Rows.{index_text}
use Rattle.ips_index.proofs.IndexFiles.{rows_one}
use Rattle.ips_next.proofs.unchanged.same_rows.Goals as goal

pub returns : goal.returns
returns c =
    let one = c.as_slice.ensures.value ∙ c.in_ok-one.ensures.text in
    let other = c.as_slice-2.ensures.value ∙ c.in_ok-other.ensures.text in
    let same = bytes_eq-Decides c.as_slice.result.now c.as_slice-2.result.now in (
      λ t. rows_one c.args.new.now c.args.old.now c.in_ok-other.ensures.rows c.in_ok-one.ensures.rows (sym other ∙ sym (same.0 (sym c.eq.ensures ∙ t)) ∙ one),
      λ e. c.eq.ensures ∙ same.1 (one ∙ ap index_text (sym e) ∙ sym other),
    )
