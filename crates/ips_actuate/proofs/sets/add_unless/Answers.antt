use Rattle.std.proofs.Common.{◌≡◌}
use Rattle.ips_actuate.specs.Gathering.{Lacks}
use Rattle.ips_actuate.proofs.Gathered.{if_grown, put_lacking}
use Rattle.ips_actuate.proofs.sets.add_unless.Goals as goal

pub returns-then-lacks : goal.returns-then-lacks
returns-then-lacks c =
    let text = c.args.text.now in
    let others = c.args.others.now in
    let set = c.args.set.now in
    let new = c.add.new.set in
    if_grown (λ other. c.in_ok-text.text ≡ other) (λ other. (text ≡ other) × Lacks others other) set new c.add.result
    (put_lacking text c.in_ok-text.text others set new c.in_ok-text.ensures (c.lacks.ensures.0 c.if-lacks.true)) c.add.ensures
