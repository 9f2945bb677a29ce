use Rattle.std.proofs.Common.{◌<◌, List, length, map, take_all, sym, ◌∙◌, ap, arith}
use Rattle.std.proofs.lemmas.Option.{get_or_from_slice_get}
use Rattle.ips_text.proofs.Lists.{element}
use Rattle.ips_after.specs.Change.{replaces}
use Rattle.ips_change.specs.declared.survey.row.Row.{Row}
use Rattle.ips_links.proofs.Linked.{at_path, by_rows, one_more, row_more}
use Rattle.ips_account_files.specs.ledger.Left.{changes_by}
use Rattle.ips_account_files.proofs.ledger.Silent.{changes_bare, row_at}
use Rattle.ips_account_files.proofs.ledger.changing.replaced.Goals as goal

pub loop-i-preserved : goal.loop-i-preserved
loop-i-preserved c =
    let rows = c.args.rows.now in
    let s = c.args.settled.now in
    let i = c.loop-i.i in
    let lt : i < length rows = c.loop-i-test.true in
    let e = element rows i lt in
    let row = e.0 in
    let there = sym (get_or_from_slice_get rows i row row e.1) in
    record {
      long = one_more c.loop-i.marks.items c.push.new.self.items c.is_replacing.result i c.in_ok-push.ensures.items c.loop-i.invariant.long;
      so_far = λ r t silent are.
          c.in_ok-push.ensures.items ∙ row_more (λ q. replaces (changes_by r t rows s q)) rows i row c.loop-i.marks.items c.is_replacing.result lt there (c.loop-i.invariant.so_far r t silent are)
          (c.is_replacing.ensures r.bytes ∙ ap replaces (c.settled_at.ensures.told r t row.path.now.bytes silent are (row_at rows i row lt there)));
    }

pub returns-clause-marks : goal.returns-clause-marks
returns-clause-marks c = λ r t said good table silent are.
    let rows = c.args.rows.now in
    let s = c.args.settled.now in
    record {
      are = c.loop-i.invariant.so_far r t silent are
          ∙ ap (λ (l : List Row). map (at_path (λ q. replaces (changes_by r t rows s q))) l) (take_all c.loop-i.i rows (omega (arith, c.loop-i-test.false)))
          ∙ by_rows (λ q. replaces (changes_by r t rows s q)) rows;
      none_else = λ q apart. ap replaces (changes_bare r t rows said s q good table c.requires.settled apart);
    }
