use Rattle.std.proofs.Common.{◌&&◌, ◌||◌, List, is_some, sym, ◌∙◌, ap, subst}
use Rattle.ips_after.specs.Lists.{listed}
use Rattle.ips_change.specs.survey.Marks.{row_paths}
use Rattle.ips_found.specs.declared.found.Thing.{Thing}
use Rattle.ips_found.specs.Found.{AreThings, thing_paths}
use Rattle.ips_strays.specs.Strays.{hangs_among, opens}
use Rattle.ips_strays.proofs.Salvaged.{strays_are}
use Rattle.ips_strays.proofs.straying.strays.Goals as goal

pub returns-clause-listed : goal.returns-clause-listed
returns-clause-listed g c = λ told r good table marked q.
    let u = (g.F.Source.outside.state c.args.folder.now).held in
    let rows = c.args.table.now.rows.items in
    c.in_ok-sort.ensures.same q
    ∙ (c.in_ok-gather_all.ensures.found told r table marked).paths q
    ∙ ap (λ (l : List Thing). listed (thing_paths l) q || (is_some (u.look q) && hangs_among (opens r u) (row_paths rows) (row_paths rows) q)) c.new-strays.ensures.items
    ∙ strays_are r u rows c.args.table.now.said.items c.args.destroyed.now good table (g.met.F.Source.sane.formed c.args.folder.now told) marked q

pub returns-clause-found : goal.returns-clause-found
returns-clause-found g c = λ told.
    let u = (g.F.Source.outside.state c.args.folder.now).held in
    c.in_ok-sort.ensures.found u (c.in_ok-gather_all.ensures.things told (subst (λ (l : List Thing). AreThings u l) (sym c.new-strays.ensures.items) tt))
