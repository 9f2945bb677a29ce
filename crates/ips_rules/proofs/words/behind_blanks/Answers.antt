use Rattle.std.proofs.Common.{◌∙◌, sym, length}
use Rattle.std.proofs.lemmas.Bool.{true≢false, eq-eqb}
use Rattle.ips_rules.proofs.Reader.{gap_some}
use Rattle.ips_rules.proofs.words.behind_blanks.Goals as goal

pub returns-else-is_empty-clause-some : goal.returns-else-is_empty-clause-some
returns-else-is_empty-clause-some c =
    gap_some c.args.text.now c.run.result.0.now c.run.result.1.now c.run.ensures
    (λ e. true≢false (sym (eq-eqb (length c.run.result.0.now) 0 e) ∙ sym c.is_empty.ensures ∙ c.if-is_empty.false))
