use Rattle.std.proofs.Common.{filter, ap, ◌∙◌}
use Rattle.std.proofs.lemmas.Result.{IfOk-weaker}
use Rattle.ips_conflict.specs.Key.{value_of}
use Rattle.ips_turnover.specs.Turnover.{ordered, name_cmp, is_a}
use Rattle.ips_turnover.proofs.Ordered.{fresh_are}
use Rattle.ips_turnover.proofs.comparing.fresh.Goals as goal

pub returns : goal.returns
returns c =
    let kind = c.args.kind.now in
    let found = c.in_ok-found.ensures ∙ fresh_are kind c.in_ok-lines.lines (filter (is_a kind) c.args.old.now) c.args.new.now c.in_ok-lines.ensures in
    IfOk-weaker c.actions_of.result _ _ (λ v e. e ∙ c.deref.ensures.value ∙ c.in_ok-order.ensures ∙ ap (ordered (name_cmp (value_of c.args.key.now))) found) c.actions_of.ensures
