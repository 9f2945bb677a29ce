use Rattle.std.proofs.Common.{◌≡◌, ◌<◌, false, List, ℕ, get_or, length, map, take_all, sym, ◌∙◌, ap, arith}
use Rattle.std.proofs.lemmas.Option.{get_or_from_slice_get}
use Rattle.ips_text.proofs.Lists.{element}
use Rattle.ips_after.specs.Lists.{listed}
use Rattle.ips_after.specs.Repaired.{is_relaid, mended}
use Rattle.ips_change.specs.Told.{change_told}
use Rattle.ips_change.specs.declared.survey.row.Row.{Row}
use Rattle.ips_links.proofs.Linked.{at_path, at_row, by_rows, one_more, row_more, told_here}
use Rattle.ips_mend.specs.mended.Mending.{lacks}
use Rattle.ips_mend.proofs.mended.Linking.{relaid_here, relaid_none}
use Rattle.ips_mend.proofs.mended.relinking.relaid.Goals as goal

pub loop-i-preserved : goal.loop-i-preserved
loop-i-preserved c =
    let rows = c.args.rows.now in
    let i = c.loop-i.i in
    let own = c.index-own-i.result in
    let marked = get_or c.args.lacking.now i false in
    let lt : i < length rows = c.loop-i-test.true in
    let one = element rows i lt in
    let row = one.0 in
    let there : row ≡ get_or rows i row = sym (get_or_from_slice_get rows i row row one.1) in
    let within : i < length c.args.own.now = omega (arith, lt, c.requires.own) in
    record {
      long = one_more c.loop-i.marks.items c.push.new.self.items c.is_laid.result i c.in_ok-push.ensures.items c.loop-i.invariant.long;
      so_far = λ f t are by marks.
          let here = relaid_here f t row.path.now.bytes (change_told f.bytes own) marked
          (at_row (lacks f t) c.args.lacking.now rows i row false marks lt there)
          (told_here (change_told f.bytes) (mended f t) c.args.own.now rows i own row by within c.index-own-i.is lt there) in
          c.in_ok-push.ensures.items ∙ row_more (is_relaid f t) rows i row c.loop-i.marks.items c.is_laid.result lt there (c.loop-i.invariant.so_far f t are by marks) (c.is_laid.ensures f.bytes ∙ here);
    }

pub returns-clause-marks : goal.returns-clause-marks
returns-clause-marks c = λ f t good are by marks.
    let rows = c.args.rows.now in
    record {
      are = c.loop-i.invariant.so_far f t are by marks
          ∙ ap (λ (l : List Row). map (at_path (is_relaid f t)) l) (take_all c.loop-i.i rows (omega (arith, c.loop-i-test.false)))
          ∙ by_rows (is_relaid f t) rows;
      none_else = λ q apart. relaid_none f t q good (ap (λ (l : List (List ℕ)). listed l q) (sym are.paths) ∙ apart);
    }
