use Rattle.std.proofs.Common.{◌∙◌, sym, length}
use Rattle.std.proofs.lemmas.Bool.{true≢false, eq-eqb}
use Rattle.ips_rules.proofs.Equals.{if_none, no_equals, key_stands}
use Rattle.ips_rules.proofs.keys.key_at.Goals as goal

pub returns-in_err-behind-clause-none : goal.returns-in_err-behind-clause-none
returns-in_err-behind-clause-none c = if_none c.from_residual.result (no_equals c.args.text.now c.run.result.0.now c.run.result.1.now c.run.ensures c.in_err-behind.ensures)

pub returns-else-is_empty-clause-some : goal.returns-else-is_empty-clause-some
returns-else-is_empty-clause-some c =
    key_stands c.args.text.now c.run.result.0.now c.run.result.1.now c.in_ok-behind.behind.now c.run.ensures
    (λ e. true≢false (sym (eq-eqb (length c.run.result.0.now) 0 e) ∙ sym c.is_empty.ensures ∙ c.if-is_empty.false)) c.in_ok-behind.ensures
