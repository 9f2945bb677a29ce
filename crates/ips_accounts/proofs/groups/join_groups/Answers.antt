use Rattle.std.proofs.Common.{List, ℕ, sym, ap, ◌∙◌}
use Rattle.ips_accounts.specs.Editing.{in_groups}
use Rattle.ips_accounts.proofs.groups.join_groups.Goals as goal

pub loop-group-preserved : goal.loop-group-preserved
loop-group-preserved c =
    let user = c.args.user.now in
    ap (in_groups user c.in-Some.rest) c.in_ok-join_group.ensures ∙ sym (ap (λ (l : List (List ℕ)). in_groups user l c.loop-group.lines) c.in-Some.ensures) ∙ c.loop-group.invariant
