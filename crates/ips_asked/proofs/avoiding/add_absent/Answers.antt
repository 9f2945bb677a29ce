use Rattle.std.proofs.Common.{◌∙◌, ap}
use Rattle.ips_request.specs.Stems.{has, stems_of}
use Rattle.ips_asked.proofs.Stems.{absent_more, present_more}
use Rattle.ips_asked.proofs.avoiding.add_absent.Goals as goal
use Rattle.ips_asked.proofs.avoiding.add_absent.Goals.{then-not-is_in+in_ok-add, else-not-is_in}

pub loop-stem-preserved : goal.loop-stem-preserved
loop-stem-preserved c = λ x.
    let stems = c.args.stems.now in
    let there = stems_of c.args.there.now.keys in
    let i = c.loop-stem.stem-index in
    let here = c.stem-item.result in
    elim c.if-not-is_in.branch [
      | then-not-is_in+in_ok-add w ↦
          ap (λ k. has x k.keys) w.all-is
          ∙ absent_more x here stems there c.args.all.now.keys c.loop-stem.all.keys w.add.new.all.keys i c.loop-stem-test.true c.stem-item.is (rw (← c.is_in.ensures) w.if-not-is_in.true) (c.loop-stem.invariant x)
          (w.in_ok-add.ensures x)
      | else-not-is_in w ↦
          ap (λ k. has x k.keys) w.all-is
          ∙ present_more x here stems there c.args.all.now.keys c.loop-stem.all.keys i c.loop-stem-test.true c.stem-item.is (rw (← c.is_in.ensures) w.if-not-is_in.false) (c.loop-stem.invariant x)
    ]
