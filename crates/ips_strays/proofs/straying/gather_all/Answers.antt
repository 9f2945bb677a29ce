use Rattle.std.proofs.Common.{◌≡◌, Bool, List, map, sym, ◌∙◌, subst}
use Rattle.ips_outside.proofs.Trees.{on_ok_to}
use Rattle.ips_after.specs.Request.{Request, takes}
use Rattle.ips_change.specs.Told.{naming}
use Rattle.ips_change.specs.declared.survey.row.Row.{Row}
use Rattle.ips_change.specs.survey.Marks.{IsMarkOf, row_paths}
use Rattle.ips_change.specs.survey.Tables.{IsTable}
use Rattle.ips_salvage.specs.Destroying.{destroys_else, goes_else}
use Rattle.ips_strays.specs.Strays.{Adds, hangs_among, opens}
use Rattle.ips_strays.proofs.straying.gather_all.Goals as goal

pub returns-clause-found : goal.returns-clause-found
returns-clause-found g c = λ told.
    let u = (g.F.Source.outside.state c.args.folder.now).held in
    let rows = c.args.table.now.rows.items in
    let old = c.args.strays.now.items in
    let new = c.gather_open.new.strays.items in
    on_ok_to c.gather_open.result ((r : Request) → IsTable r rows c.args.table.now.said.items → IsMarkOf (destroys_else (naming r) u) (row_paths rows) c.args.destroyed.now → Adds u (hangs_among (opens r u) (row_paths rows) (row_paths rows)) old new)
    (λ adds r table marked.
    let going = c.in_ok-going.ensures.told r u table (c.requires.looked told) marked in
    let away = c.in_ok-away.ensures.marks r table in
    subst (λ (l : List Row). Adds u (hangs_among (opens r u) (row_paths l) (row_paths l)) old new) c.deref.ensures.value
    (adds r
    (subst (λ (l : List Row). c.deref-2.result.now ≡ map (goes_else (naming r) u) (row_paths l)) (sym c.deref.ensures.value) (c.deref-2.ensures.value ∙ going))
    (subst (λ (l : List Row). IsMarkOf (λ q. takes (r.over.at q)) (row_paths l) c.deref-3.result.now) (sym c.deref.ensures.value) (subst (λ (l : List Bool). IsMarkOf (λ q. takes (r.over.at q)) (row_paths rows) l) (sym c.deref-3.ensures.value) away))))
    (c.gather_open.ensures.found told)
