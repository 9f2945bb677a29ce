use Rattle.std.proofs.Common.{map, take, refl, sym, subst}
use Rattle.ips_text.proofs.Lists.{map_item}
use Rattle.ips_folder.specs.Memory.{mem_folder}
use Rattle.ips_steps.specs.View.{step_of}
use Rattle.ips_journal.specs.Writing.{IsWritten}
use Rattle.ips_folder_tests.proofs.journal.put_steps.Goals as goal

pub loop-step-init : goal.loop-step-init
loop-step-init g c = c.requires

pub step-requires : goal.step-requires
step-requires g c = λ told. c.loop-step.invariant.sole

pub loop-step-preserved : goal.loop-step-preserved
loop-step-preserved g c =
    subst (IsWritten c.step.new.self (mem_folder.state c.step.new.folder).held) (sym (map_item step_of c.args.steps.now c.loop-step.step-index c.step-item.result c.loop-step-test.true c.step-item.is))
    (c.in-Ok.ensures.written refl (map step_of (take c.loop-step.step-index c.args.steps.now)) c.loop-step.invariant)

pub returns : goal.returns
returns g c = c.loop-step.invariant.sole
