use Rattle.std.proofs.Common.{List, sym, subst}
use Rattle.ips_change.specs.survey.Marks.{row_paths}
use Rattle.ips_emptied.specs.Emptying.{marked_in}
use Rattle.ips_found.specs.Found.{AreThings}
use Rattle.ips_found.specs.declared.found.Thing.{Thing}
use Rattle.ips_strays.specs.foreign.Foreign.{Gathers, IsFirstThing}
use Rattle.ips_strays.proofs.foreign.Lost.{first_lost}
use Rattle.ips_strays.proofs.foreign.losing.foreign.Goals as goal

pub returns-clause-found : goal.returns-clause-found
returns-clause-found g c = λ told r good table are.
    let u = (g.F.Source.outside.state c.args.folder.now).held in
    let rows = c.args.table.now.rows.items in
    let emptied = marked_in (row_paths rows) c.args.emptied.now in
    let things = c.gather_all.new.things.items in
    let gathers = subst (λ (l : List Thing). Gathers r u emptied (row_paths rows) l things) c.new-things.ensures.items (c.in_ok-gather_all.ensures.found told r good table are) in
    let seen = c.in_ok-gather_all.ensures.things told (subst (λ (l : List Thing). AreThings u l) (sym c.new-things.ensures.items) tt) in
    first_lost r u emptied rows c.args.table.now.said.items table things c.in_ok-first.field-0 gathers seen (subst (λ (l : List Thing). IsFirstThing l c.in_ok-first.field-0) c.deref.ensures.value c.in_ok-first.ensures)
