use Rattle.ips_refute.specs.Meaning.{pairs}
use Rattle.ips_problem.specs.Avoided.{absent_stem}
use Rattle.ips_problem.specs.Posed.{picked}
use Rattle.ips_problem.specs.Seen.{puzzle_of}
use Rattle.ips_problem.proofs.Missing.{gathered_more}
use Rattle.ips_problem.proofs.avoiding.add_missed_among.Goals as goal

pub loop-fmri-preserved : goal.loop-fmri-preserved
loop-fmri-preserved c =
    let s = picked (puzzle_of c.args.stems.now.keys c.args.rows.now) (pairs c.args.chosen.now) in
    gathered_more (absent_stem s) c.args.missed.now.items c.args.fmris.now c.loop-fmri.fmri-index c.fmri-item.result c.loop-fmri.missed.items c.add_absent.new.missed.items
    c.loop-fmri-test.true c.fmri-item.is c.loop-fmri.invariant c.in_ok-add_absent.ensures
