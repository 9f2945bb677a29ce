use Rattle.std.proofs.Common.{◌+◌, ◌++◌, [], ℕ, List, map, take, ap, ◌∙◌}
use Rattle.ips_steps.specs.View.{step_of}
use Rattle.ips_journal.specs.Text.{line, step_line}
use Rattle.ips_journal.proofs.Standing.{line_written}
use Rattle.ips_journal.proofs.writing.write_lines.Goals as goal
use Rattle.ips_text.proofs.Lists.{map_item}

pub loop-step-preserved : goal.loop-step-preserved
loop-step-preserved c = λ rest.
    line_written c.loop-step.text.items c.args.text.now.items c.put_line.new.text.items rest (map step_of (take c.loop-step.step-index c.args.steps.now)) (map step_of (take (c.loop-step.step-index + 1) c.args.steps.now)) (step_of c.step-item.result)
    c.loop-step.invariant (c.put_line.ensures.written ∙ ap (λ (l : List ℕ). l ++ line (step_line (step_of c.step-item.result)) []) c.reserve.ensures.items)
    (map_item step_of c.args.steps.now c.loop-step.step-index c.step-item.result c.loop-step-test.true c.step-item.is)
