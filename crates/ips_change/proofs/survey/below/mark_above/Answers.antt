use Rattle.std.proofs.Common.{◌∙◌, arith}
use Rattle.ips_text.proofs.Ancestry.{covers-self, parent_length}
use Rattle.ips_change.specs.survey.Marks.{row_paths}
use Rattle.ips_change.proofs.survey.Marking.{advance, begun, ended, so_far, up_more}
use Rattle.ips_change.proofs.survey.below.mark_above.Goals as goal

pub loop-dir-init : goal.loop-dir-init
loop-dir-init c = record {
  long = c.requires.found;
  up = covers-self c.args.path.now;
  marked = λ test is. is ∙ begun test c.args.path.now (row_paths c.args.rows.now);
}

pub loop-dir-smaller : goal.loop-dir-smaller
loop-dir-smaller c = let less = parent_length c.loop-dir.at.now c.in-Some.dir.now c.in-Some.ensures.some in omega (arith, less)

pub loop-dir-preserved : goal.loop-dir-preserved
loop-dir-preserved c =
    let path = c.args.path.now in
    let at = c.loop-dir.at.now in
    let dir = c.in-Some.dir.now in
    record {
      long = c.mark.auto.found ∙ c.loop-dir.invariant.long;
      up = up_more at dir path c.in-Some.ensures.some c.loop-dir.invariant.up;
      marked = λ test is. c.mark.ensures (so_far test path at) (c.loop-dir.invariant.marked test is) ∙ advance test path at dir (row_paths c.args.rows.now) c.in-Some.ensures.some c.loop-dir.invariant.up;
    }

pub returns : goal.returns
returns c = λ test is. c.loop-dir.invariant.marked test is ∙ ended test c.args.path.now c.loop-dir.at.now (row_paths c.args.rows.now) c.in_default.ensures.none
