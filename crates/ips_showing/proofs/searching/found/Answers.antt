use Rattle.std.proofs.Common.{◌≡◌, List, map, sym, ap, subst}
use Rattle.ips_text.specs.declared.text.Text.{Text}
use Rattle.ips_index.specs.Rows.{IndexedValue, row_seen}
use Rattle.ips_shown.specs.Shown as lines
use Rattle.ips_report.specs.declared.outcome.Outcome.TheVariants as outcome
use Rattle.ips_run.specs.declared.operation.Decision.TheVariants.{Shown, Refused}
use Rattle.ips_showing.specs.Asked.{Search}
use Rattle.ips_showing.specs.Shows as shows
use Rattle.ips_showing.specs.Shows.{AreFoundIn, Shows}
use Rattle.ips_showing.proofs.Told.{none_in, some_mapped, text_by}
use Rattle.ips_showing.proofs.searching.found.Goals as goal

pub returns-then-not-is_empty-clause-decided : goal.returns-then-not-is_empty-clause-decided
returns-then-not-is_empty-clause-decided c = λ t h.
    let a = Search c.args.pattern.now in
    let rows = map row_seen c.args.rows.now in
    text_by t a (λ x. x ≡ lines.found_text rows) c.found_text.result c.text_shown.result c.text_shown.ensures c.found_text.ensures
    (λ x e. subst (λ (y : Text). Shows t a (Shown (outcome.Shown y))) (sym e) (shows.Found h (some_mapped row_seen c.args.rows.now c.is_empty.result c.is_empty.ensures c.if-not-is_empty.true)))

pub returns-in-Ok-clause-decided : goal.returns-in-Ok-clause-decided
returns-in-Ok-clause-decided c = λ t h.
    let pattern = c.args.pattern.now in
    let none = ap (map row_seen) (none_in c.args.rows.now c.is_empty.result c.is_empty.ensures c.if-not-is_empty.false) in
    subst (λ (x : Text). Shows t (Search pattern) (Refused (outcome.NoMatch x))) (sym c.in-Ok.ensures) (shows.NotFound (subst (λ (found : List IndexedValue). AreFoundIn t pattern found) none h))
