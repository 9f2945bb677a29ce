use Rattle.std.proofs.Common.{sym, ◌∙◌}
use Rattle.std.specs.List.{position}
use Rattle.std.proofs.lemmas.Result.{on_ok_weaker}
use Rattle.ips_books.specs.Accounts.{is_of}
use Rattle.ips_accounts.proofs.Joins.{joined_first, joined_none}
use Rattle.ips_accounts.proofs.groups.join_group.Goals as goal

pub returns-in-Some : goal.returns-in-Some
returns-in-Some c =
    on_ok_weaker c.join_at.result (λ joins. joined_first c.args.user.now c.args.group.now c.args.lines.now c.join_at.new.lines c.in-Some.place (sym (c.in-Some.ensures ∙ (λ i. position (is_of (c.as_bytes.ensures.value i)) (c.named.ensures i)))) joins) c.join_at.ensures

pub returns-in-None : goal.returns-in-None
returns-in-None c = joined_none c.args.user.now c.args.group.now c.args.lines.now (sym (c.in-None.ensures ∙ (λ i. position (is_of (c.as_bytes.ensures.value i)) (c.named.ensures i))))
