use Rattle.std.proofs.Common.{◌<◌, ◌∷◌, [], false, List, length, map, take_all, Bool, sym, ◌∙◌, ap, subst, arith}
use Rattle.std.proofs.lemmas.List.{map-append}
use Rattle.ips_after.specs.After as after
use Rattle.ips_change.specs.Fitting.{Fits}
use Rattle.ips_change.specs.Told.{change_told, naming}
use Rattle.ips_change.specs.declared.survey.row.Row.{Row}
use Rattle.ips_change.specs.survey.Rows.{HasLooked, IsRowOf}
use Rattle.ips_change.specs.survey.Marks.{IsMarkOf, row_paths}
use Rattle.ips_links.proofs.Fitted.{fit_more}
use Rattle.ips_links.proofs.Linked.{all_here, at_path, at_row, by_rows, one_more, row_more}
use Rattle.ips_links.proofs.linking.links.Goals as goal

pub loop-i-preserved : goal.loop-i-preserved
loop-i-preserved c =
    let rows = c.args.table.now.rows.items in
    let i = c.loop-i.i in
    let row = c.index.result.now in
    let lt : i < length rows = omega (arith, c.loop-i-test.true, c.len-i-end.ensures, c.args.table.now.rows.ok.0) in
    record {
      long = one_more c.loop-i.changes.items c.push.new.self.items c.linked_at.result i c.in_ok-push.ensures.items c.loop-i.invariant.long;
      so_far = λ r t good table looked are.
          let laid = c.in_ok-laid.ensures.marks r t good table looked are in
          let seen = subst (λ (l : List Row). IsMarkOf (after.has_laid (naming r) t) (row_paths l) c.deref-in-loop-i.result.now) (sym c.deref.ensures.value)
          (subst (λ (l : List Bool). IsMarkOf (after.has_laid (naming r) t) (row_paths rows) l) (sym c.deref-in-loop-i.ensures.value) laid) in
          let here = c.linked_at.ensures.told r t (all_here (IsRowOf r) rows i row lt c.index.ensures table.entries) (all_here (HasLooked t) rows i row lt c.index.ensures looked)
          (at_row (after.needs_file (naming r) t) c.args.needs.now rows i row false are lt c.index.ensures) seen in
          ap (map (change_told r.bytes)) c.in_ok-push.ensures.items ∙ map-append (change_told r.bytes) c.loop-i.changes.items (c.linked_at.result ∷ [])
          ∙ row_more (after.linked (naming r) t) rows i row (map (change_told r.bytes) c.loop-i.changes.items) (change_told r.bytes c.linked_at.result) lt c.index.ensures (c.loop-i.invariant.so_far r t good table looked are) here;
      fit = fit_more Fits rows c.loop-i.changes.items c.push.new.self.items i row c.linked_at.result c.in_ok-push.ensures.items c.loop-i.invariant.long c.index.ensures c.linked_at.ensures.fits c.loop-i.invariant.fit;
    }

pub returns-clause-told : goal.returns-clause-told
returns-clause-told c = λ r t good table looked are.
    let rows = c.args.table.now.rows.items in
    c.loop-i.invariant.so_far r t good table looked are
    ∙ ap (λ (l : List Row). map (at_path (after.linked (naming r) t)) l) (take_all c.loop-i.i rows (omega (arith, c.loop-i-test.false, c.len-i-end.ensures, c.args.table.now.rows.ok.0)))
    ∙ by_rows (after.linked (naming r) t) rows
