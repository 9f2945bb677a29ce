use Rattle.std.proofs.Common.{◌≡◌, map, take}
use Rattle.ips_turnover.proofs.comparing.actions_of.Given as goal

abbrev pub invariant-loop-one : goal.invariant-loop-one
invariant-loop-one l = map (λ a. a.now) l.actions.items ≡ take l.one-index l.prepared
