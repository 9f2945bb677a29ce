use Rattle.std.proofs.Common.{◌≡◌, ◌∙◌, ap, Some, length, take, false, eqb, List, ℕ, rules}
use Rattle.ips_action.specs.Target.{holder}
use Rattle.ips_action.proofs.Targets.{above_take}
use Rattle.ips_action.proofs.target.leave.Goals as goal

pub returns : goal.returns
returns c =
    let some : eqb (length c.args.at.now.items) 0 ≡ false = search rules in
    let cut : take (length (holder c.args.at.now.items)) c.args.at.now.items ≡ c.truncate.new.self.items = cc in
    above_take c.args.at.now.items some ∙ ap (λ (l : List ℕ). Some l) cut
