use Rattle.std.proofs.Common.{◌≡◌, ◌<◌, ◌∙◌, Some, List, ℕ, length, ap, sym, rules}
use Rattle.ips_load.specs.HeadLines.{actuator_in}
use Rattle.ips_load.proofs.HeadBad.{first_set}
use Rattle.ips_load.proofs.heading.actuator_of.Goals as goal

pub returns-in-Actuator : goal.returns-in-Actuator
returns-in-Actuator c =
    let lt : c.loop-line.line-index < length c.args.lines.now = search rules in
    ap (λ (w : List ℕ). Some w) c.in_ok-copy.ensures ∙ first_set c.args.lines.now c.loop-line.line-index c.line-item.result c.in-Actuator.word lt c.line-item.is c.loop-line.invariant c.in-Actuator.is
