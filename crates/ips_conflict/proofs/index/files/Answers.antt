use Rattle.std.proofs.Common.{◌∙◌, sym, subst, arith}
use Rattle.std.proofs.lemmas.Bool.{true≢false}
use Rattle.ips_conflict.proofs.Places.{at_index}
use Rattle.ips_conflict.proofs.Indexed.{FilesTo, files_none, files_more, files_same, files_done, files_within}
use Rattle.ips_conflict.proofs.index.files.Goals as goal
use Rattle.ips_conflict.proofs.index.files.Goals.{then-is_file+in_ok-count, else-is_file}

pub loop-i-init : goal.loop-i-init
loop-i-init c = files_none c.args.placed.now c.new-files.result c.new-files.ensures.empty

pub count-requires : goal.count-requires
count-requires c = record {
  there = at_index c.args.placed.now c.loop-i.i c.index-placed-i.result c.loop-i-test.true c.index-placed-i.is;
  counted = λ path. files_within c.args.placed.now c.loop-i.i _ c.loop-i.files path (omega (arith, c.loop-i-test.true)) c.loop-i.invariant;
}

pub loop-i-preserved : goal.loop-i-preserved
loop-i-preserved c =
    let here = at_index c.args.placed.now c.loop-i.i c.index-placed-i.result c.loop-i-test.true c.index-placed-i.is in
    elim c.if-is_file.branch [
      | then-is_file+in_ok-count w ↦
          subst (FilesTo c.args.placed.now _) (sym w.files-is) (files_more c.args.placed.now c.loop-i.i c.index-placed-i.result c.loop-i.files w.count.new.files here (c.is_file.ensures.0 w.if-is_file.true) c.loop-i.invariant w.in_ok-count.ensures)
      | else-is_file w ↦
          subst (FilesTo c.args.placed.now _) (sym w.files-is)
          (files_same c.args.placed.now c.loop-i.i c.index-placed-i.result c.loop-i.files here (λ is. true≢false (sym (c.is_file.ensures.1 is) ∙ w.if-is_file.false)) c.loop-i.invariant)
    ]

pub returns : goal.returns
returns c = files_done c.args.placed.now c.loop-i.i c.loop-i.files c.loop-i-test.false c.loop-i.invariant
