use Rattle.std.proofs.Common.{◌≡◌, Bool, List, map, sym, ◌∙◌, subst}
use Rattle.ips_after.specs.After as after
use Rattle.ips_change.specs.Told.{naming}
use Rattle.ips_change.specs.declared.survey.row.Row.{Row}
use Rattle.ips_change.specs.survey.Marks.{IsMarkOf, holds_below, row_paths}
use Rattle.ips_change.proofs.survey.Marking.{map_same}
use Rattle.ips_links.specs.Made.{is_made}
use Rattle.ips_links.proofs.supporting.supports.Goals as goal

pub returns-clause-found : goal.returns-clause-found
returns-clause-found g c = λ told r good table looked are.
    let rows = c.args.table.now.rows.items in
    let paths = row_paths rows in
    let t = (g.S.Source.outside.state c.args.source.now).held in
    let test = is_made r t in
    let seen = subst (λ (l : List Row). IsMarkOf test (row_paths l) c.deref-2.result.now) (sym c.deref.ensures.value)
    (subst (λ (l : List Bool). IsMarkOf test paths l) (sym c.deref-2.ensures.value) (c.in_ok-made.ensures.marks r t good table are)) in
    let marks : c.in_ok-below.below.items ≡ map (holds_below test paths) paths =
    subst (λ (l : List Row). c.in_ok-below.below.items ≡ map (holds_below test (row_paths l)) (row_paths l)) c.deref.ensures.value (c.in_ok-below.ensures.below test seen) in
    let below = marks ∙ map_same (holds_below test paths) (after.holds_made (naming r) t) paths (λ p. c.in_ok-made.ensures.below r t p good table) in
    let goes = c.in_ok-taken.ensures.told r t table looked in
    c.in_ok-ask.ensures.found told r table looked (c.deref-3.ensures.value ∙ below) (c.deref-4.ensures.value ∙ goes)
