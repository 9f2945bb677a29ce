use Rattle.std.proofs.Common.{◌<◌, ◌∷◌, [], false, List, length, map, take_all, ◌∙◌, ap, arith}
use Rattle.std.proofs.lemmas.List.{map-append}
use Rattle.ips_after.specs.After as after
use Rattle.ips_change.specs.Fitting.{Fits}
use Rattle.ips_change.specs.Told.{change_told, naming}
use Rattle.ips_change.specs.declared.survey.row.Row.{Row}
use Rattle.ips_change.specs.survey.Rows.{IsRowOf}
use Rattle.ips_links.specs.Fitting.{FitsSupported}
use Rattle.ips_links.proofs.Fitted.{fit_here, fit_more}
use Rattle.ips_links.proofs.Linked.{all_here, at_path, at_row, by_rows, one_more, row_more, told_here}
use Rattle.ips_links.proofs.changing.supported.Goals as goal

pub loop-i-preserved : goal.loop-i-preserved
loop-i-preserved c =
    let rows = c.args.table.now.rows.items in
    let i = c.loop-i.i in
    let row = c.index.result.now in
    let there = c.index.ensures in
    let change = c.index-linked-i.result in
    let lt : i < length rows = omega (arith, c.loop-i-test.true, c.len-i-end.ensures, c.args.table.now.rows.ok.0) in
    let within : i < length c.args.linked.now = omega (arith, lt, c.requires.linked) in
    record {
      long = one_more c.loop-i.changes.items c.push.new.self.items c.supported_at.result i c.in_ok-push.ensures.items c.loop-i.invariant.long;
      so_far = λ r t of are marks.
          let here = c.supported_at.ensures.told r t (all_here (IsRowOf r) rows i row lt there of)
          (told_here (change_told r.bytes) (after.linked (naming r) t) c.args.linked.now rows i change row are within c.index-linked-i.is lt there)
          (at_row (after.is_support (naming r) t) c.args.supports.now rows i row false marks lt there) in
          ap (map (change_told r.bytes)) c.in_ok-push.ensures.items ∙ map-append (change_told r.bytes) c.loop-i.changes.items (c.supported_at.result ∷ [])
          ∙ row_more (after.supported (naming r) t) rows i row (map (change_told r.bytes) c.loop-i.changes.items) (change_told r.bytes c.supported_at.result) lt there (c.loop-i.invariant.so_far r t of are marks) here;
      fit = λ fit. fit_more FitsSupported rows c.loop-i.changes.items c.push.new.self.items i row c.supported_at.result c.in_ok-push.ensures.items c.loop-i.invariant.long there
          (c.supported_at.ensures.fits (fit_here Fits rows c.args.linked.now i row change lt there within c.index-linked-i.is fit)) (c.loop-i.invariant.fit fit);
    }

pub returns-clause-told : goal.returns-clause-told
returns-clause-told c = λ r t of are marks.
    let rows = c.args.table.now.rows.items in
    c.loop-i.invariant.so_far r t of are marks
    ∙ ap (λ (l : List Row). map (at_path (after.supported (naming r) t)) l) (take_all c.loop-i.i rows (omega (arith, c.loop-i-test.false, c.len-i-end.ensures, c.args.table.now.rows.ok.0)))
    ∙ by_rows (after.supported (naming r) t) rows
