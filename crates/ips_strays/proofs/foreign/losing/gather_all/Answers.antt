use Rattle.std.proofs.Common.{◌≡◌, ℕ, Bool, List, map, sym, ◌∙◌, subst}
use Rattle.std.specs.List.{AllByRecursion}
use Rattle.ips_after.specs.After.{change_after}
use Rattle.ips_after.specs.Change.{replaces}
use Rattle.ips_after.specs.Request.{takes}
use Rattle.ips_change.specs.Told.{naming}
use Rattle.ips_change.specs.declared.survey.row.Row.{Row}
use Rattle.ips_change.specs.survey.Rows.{IsRowOf}
use Rattle.ips_change.specs.survey.Marks.{IsMarkOf, row_paths}
use Rattle.ips_emptied.specs.Emptying.{marked_in}
use Rattle.ips_strays.specs.Strays.{Adds}
use Rattle.ips_strays.specs.foreign.Foreign.{asks_among}
use Rattle.ips_strays.proofs.foreign.losing.gather_all.Goals as goal

pub returns-clause-found : goal.returns-clause-found
returns-clause-found g c = λ told r good table are.
    let u = (g.F.Source.outside.state c.args.folder.now).held in
    let rows = c.args.table.now.rows.items in
    let emptied = marked_in (row_paths rows) c.args.emptied.now in
    let test : List ℕ → Bool = λ q. replaces (change_after (naming r) u emptied q) in
    let gone = subst (λ (l : List Row). IsMarkOf test (row_paths l) c.deref-2.result.now) (sym c.deref.ensures.value)
    (subst (λ (l : List Bool). IsMarkOf test (row_paths rows) l) (sym c.deref-2.ensures.value) (c.in_ok-gone.ensures.marks r u good table are)) in
    let away = subst (λ (l : List Row). c.deref-3.result.now ≡ map (λ q. takes (r.over.at q)) (row_paths l)) (sym c.deref.ensures.value) (c.deref-3.ensures.value ∙ (c.in_ok-away.ensures.marks r table).are) in
    let all = subst (λ (l : List Row). AllByRecursion (IsRowOf r) l) (sym c.deref.ensures.value) table.entries in
    let adds = subst (λ (l : List Row). Adds u (asks_among r u emptied (row_paths l)) c.args.things.now.items c.ask.new.things.items) c.deref.ensures.value (c.in_ok-ask.ensures.found told r emptied all gone away) in
    record {
      order = c.in_ok-sort.ensures.order;
      each = λ q. c.in_ok-sort.ensures.same q ∙ adds.paths q;
    }

pub returns-clause-things : goal.returns-clause-things
returns-clause-things g c = λ told all. c.in_ok-sort.ensures.found (g.F.Source.outside.state c.args.folder.now).held (c.in_ok-ask.ensures.things told all)
