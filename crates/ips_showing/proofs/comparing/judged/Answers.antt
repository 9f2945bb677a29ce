use Rattle.std.proofs.Common.{◌≡◌, ◌∙◌, List, sym, ap, subst}
use Rattle.std.specs.Prelude.{◌==◌, codes}
use Rattle.ips_text.specs.declared.text.Text.{Text}
use Rattle.ips_meaning.specs.declared.finding.Finding.{Finding}
use Rattle.ips_records.specs.Lines.{ended}
use Rattle.ips_report.specs.declared.outcome.Outcome.TheVariants as outcome
use Rattle.ips_run.specs.declared.operation.Decision.TheVariants.{Shown}
use Rattle.ips_showing.specs.Asked as asked
use Rattle.ips_showing.specs.Shows as shows
use Rattle.ips_showing.specs.Shows.{AreCompared, Shows}
use Rattle.ips_showing.proofs.Told.{none_in, some_in, text_by}
use Rattle.ips_showing.proofs.comparing.judged.Goals as goal

pub returns-then-is_empty-clause-decided : goal.returns-then-is_empty-clause-decided
returns-then-is_empty-clause-decided c = λ t l h.
    let none = none_in c.args.found.items c.is_empty.result (c.is_empty.ensures ∙ ap (λ n. n == 0) c.args.found.ok.0) c.if-is_empty.true in
    text_by t asked.Verify (λ x. x ≡ ended (codes "ok")) c.new.result c.text_shown.result c.text_shown.ensures c.new.ensures
    (λ x e. subst (λ (y : Text). Shows t asked.Verify (Shown (outcome.Shown y))) (sym e) (shows.Sound l (subst (λ (found : List Finding). AreCompared t l.state found) none h)))

pub returns-clause-decided : goal.returns-clause-decided
returns-clause-decided c = λ t l h. shows.Damaged l h (some_in c.args.found.items c.is_empty.result (c.is_empty.ensures ∙ ap (λ n. n == 0) c.args.found.ok.0) c.if-is_empty.false)
