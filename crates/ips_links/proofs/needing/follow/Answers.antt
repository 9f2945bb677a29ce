use Rattle.std.proofs.Common.{◌<◌, List, length, map, take, take_all, ◌∙◌, ap, arith}
use Rattle.ips_change.specs.declared.survey.row.Row.{Row}
use Rattle.ips_change.specs.survey.Rows.{HasLooked, IsRowOf}
use Rattle.ips_change.specs.survey.Marks.{row_paths}
use Rattle.ips_links.specs.Leading.{is_led}
use Rattle.ips_links.proofs.Led.{led_more}
use Rattle.ips_links.proofs.Linked.{all_here}
use Rattle.ips_links.proofs.needing.follow.Goals as goal

pub loop-row-preserved : goal.loop-row-preserved
loop-row-preserved c =
    let rows = c.args.rows.now in
    let i = c.loop-row.row-index in
    let row = c.row-item.result in
    let lt : i < length rows = c.loop-row-test.true in
    record {
      long = c.add.auto.led ∙ c.loop-row.invariant.long;
      so_far = λ r t of looked.
          c.add.ensures r t (is_led r t (row_paths (take i rows))) (all_here (IsRowOf r) rows i row lt c.row-item.is of) (all_here (HasLooked t) rows i row lt c.row-item.is looked) (c.loop-row.invariant.so_far r t of looked)
          ∙ led_more r t rows i row (row_paths rows) lt c.row-item.is;
    }

pub returns : goal.returns
returns c = λ r t of looked.
    let rows = c.args.rows.now in
    c.loop-row.invariant.so_far r t of looked
    ∙ ap (λ (l : List Row). map (is_led r t (row_paths l)) (row_paths rows)) (take_all c.loop-row.row-index rows (omega (arith, c.loop-row-test.false)))
