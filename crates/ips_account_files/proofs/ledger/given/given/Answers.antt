use Rattle.std.proofs.Common.{◌<◌, IsErr, List, length, filter, take_all, Some, ◌∙◌, ap, arith}
use Rattle.ips_outside.specs.Image.{File}
use Rattle.ips_outside.specs.State.{State}
use Rattle.ips_outside.proofs.Reading.{answered, reads_then}
use Rattle.ips_after.specs.Change.{replaces, with_given}
use Rattle.ips_change.specs.declared.survey.row.Row.{Row}
use Rattle.ips_change.specs.survey.Rows.{IsRowOf}
use Rattle.ips_change.specs.survey.Marks.{row_paths}
use Rattle.ips_links.proofs.Linked.{all_here}
use Rattle.ips_account_files.specs.ledger.Left.{changes_by}
use Rattle.ips_account_files.proofs.ledger.Silent.{row_at}
use Rattle.ips_account_files.proofs.ledger.Givings.{given_step, ranked, small_at}
use Rattle.ips_account_files.proofs.ledger.given.given.Goals as goal

pub loop-i-preserved : goal.loop-i-preserved
loop-i-preserved g c =
    let o = g.F.Source.outside in
    let inv = c.loop-i.invariant in
    let rows = c.args.rows.now in
    let s = c.args.settled.now in
    let i = c.loop-i.i in
    let row = c.index-rows-i.result in
    let q = c.args.path.now.bytes in
    let t = (o.state c.args.folder.now).held in
    let lt : i < length rows = c.loop-i-test.true in
    record {
      reads = reads_then o c.args.folder.now c.loop-i.folder c.given_at.new.folder (IsErr c.given_at.result) _ inv.reads c.given_at.ensures.reads (answered c.given_at.result c.in_ok-given.given c.in_ok-given.was) (λ f. absurd f);
      small = λ few r of wanted. c.in_ok-given.ensures.small (inv.small few r of wanted) (r.new.at row.path.now.bytes) (c.settled_at-change.ensures.fits r row.path.now.bytes of (row_at rows i row lt c.index-rows-i.is)) (small_at r.new row.path.now.bytes wanted);
      so_far = λ told r body of silent are marks.
          let change = changes_by r t rows s in
          given_step r t (o.state c.loop-i.folder).held change c.args.was rows i row q _ (Some (File c.args.mode body)) (Some (File c.loop-i.given body)) (Some (File c.in_ok-given.given body)) lt c.index-rows-i.is
          (all_here (IsRowOf r) rows i row lt c.index-rows-i.is of)
          (c.settled_at-change.ensures.told r t row.path.now.bytes silent are (row_at rows i row lt c.index-rows-i.is))
          (ap (λ (s : State). s.held) inv.reads.kept)
          (inv.so_far told r body of silent are marks)
          (c.in_ok-given.ensures.found (inv.reads.call.same_kind ∙ told) (λ p. replaces (change p)) r.bytes body marks);
    }

pub returns-clause-found : goal.returns-clause-found
returns-clause-found g c = λ told r body of silent are marks.
    let rows = c.args.rows.now in
    let t = (g.F.Source.outside.state c.args.folder.now).held in
    c.loop-i.invariant.so_far told r body of silent are marks
    ∙ ap (λ (l : List Row). with_given (changes_by r t rows c.args.settled.now) (filter (ranked r c.args.was) (row_paths l)) t c.args.path.now.bytes (Some (File c.args.mode body))) (take_all c.loop-i.i rows (omega (arith, c.loop-i-test.false)))
