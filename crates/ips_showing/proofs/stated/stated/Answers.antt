use Rattle.std.proofs.Common.{◌≡◌, ◌∙◌, ap, sym, subst}
use Rattle.std.specs.Prelude.{IfOk}
use Rattle.ips_text.specs.declared.text.Text.{Text}
use Rattle.ips_records.specs.Lines.{lines_text}
use Rattle.ips_shown.specs.Shown.{list_text}
use Rattle.ips_report.specs.declared.outcome.Outcome.TheVariants as outcome
use Rattle.ips_run.specs.declared.operation.Decision.TheVariants.{Shown}
use Rattle.ips_showing.specs.Asked as asks
use Rattle.ips_showing.specs.Shows as shows
use Rattle.ips_showing.specs.Shows.{Shows}
use Rattle.ips_showing.proofs.Told.{text_by}
use Rattle.ips_showing.proofs.stated.stated.Goals as goal

pub returns-in-Listing-clause-decided : goal.returns-in-Listing-clause-decided
returns-in-Listing-clause-decided g c = λ tells.
    let t = (g.F.Source.outside.state c.args.folder.now).held in
    let s = c.args.state.now in
    subst (λ x. IfOk c.text_shown.result (Shows t (asks.asked x))) (sym c.in-Listing.is)
    (text_by t asks.Listing (λ x. x ≡ list_text c.deref.result.now) c.list_text.result c.text_shown.result c.text_shown.ensures c.list_text.ensures
    (λ x e. subst (λ (y : Text). Shows t asks.Listing (Shown (outcome.Shown y))) (sym (e ∙ ap list_text c.deref.ensures.value)) (shows.Listed (record { state = s; holds = c.requires.holds tells }))))

pub returns-in-History-clause-decided : goal.returns-in-History-clause-decided
returns-in-History-clause-decided g c = λ tells.
    let t = (g.F.Source.outside.state c.args.folder.now).held in
    let s = c.args.state.now in
    subst (λ x. IfOk c.text_shown-in-History.result (Shows t (asks.asked x))) (sym c.in-History.is)
    (text_by t asks.History (λ x. x ≡ lines_text c.deref-in-History.result.now) c.history_text.result c.text_shown-in-History.result c.text_shown-in-History.ensures c.history_text.ensures
    (λ x e. subst (λ (y : Text). Shows t asks.History (Shown (outcome.Shown y))) (sym (e ∙ ap lines_text c.deref-in-History.ensures.value)) (shows.Remembered (record { state = s; holds = c.requires.holds tells }))))
