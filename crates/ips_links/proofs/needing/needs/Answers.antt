use Rattle.std.proofs.Common.{◌≡◌, List, map, sym, ◌∙◌, subst}
use Rattle.std.specs.List.{AllByRecursion}
use Rattle.ips_change.specs.declared.survey.row.Row.{Row}
use Rattle.ips_change.specs.survey.Rows.{HasLooked, IsRowOf}
use Rattle.ips_change.specs.survey.Marks.{row_paths}
use Rattle.ips_links.specs.Leading.{is_led}
use Rattle.ips_links.proofs.Linked.{needs_wanted}
use Rattle.ips_links.proofs.needing.needs.Goals as goal

pub returns-clause-found : goal.returns-clause-found
returns-clause-found g c = λ told r good table looked.
    let rows = c.args.table.now.rows.items in
    let t = (g.S.Source.outside.state c.args.source.now).held in
    let seen : c.deref.result.now ≡ rows = c.deref.ensures.value in
    let led : c.deref-2.result.now ≡ map (is_led r t (row_paths rows)) (row_paths rows) =
    c.deref-2.ensures.value ∙ subst (λ (l : List Row). c.in_ok-led.led.items ≡ map (is_led r t (row_paths l)) (row_paths l)) seen
    (c.in_ok-led.ensures.led r t (subst (λ (l : List Row). AllByRecursion (IsRowOf r) l) (sym seen) table.entries) (subst (λ (l : List Row). AllByRecursion (HasLooked t) l) (sym seen) looked)) in
    c.in_ok-ask.ensures.found told r table looked led ∙ needs_wanted r t rows c.args.table.now.said.items (row_paths rows) good table
