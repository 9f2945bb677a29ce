use Rattle.std.proofs.Common.{◌≡◌, ◌&&◌, ◌||◌, Bool, List, map, sym, ◌∙◌, ap, subst}
use Rattle.std.specs.List.{list_any}
use Rattle.ips_text.specs.Ancestry.{same_path}
use Rattle.ips_outside.specs.Image.{Image}
use Rattle.ips_outside.specs.State.{State}
use Rattle.ips_after.specs.Lists.{listed}
use Rattle.ips_after.specs.Salvage as salvage
use Rattle.ips_change.specs.Told.{naming}
use Rattle.ips_change.specs.declared.survey.row.Row.{Row}
use Rattle.ips_change.specs.survey.Marks.{row_paths}
use Rattle.ips_found.specs.Found.{AreThings, thing_paths}
use Rattle.ips_strays.specs.Strays.{Adds}
use Rattle.ips_strays.proofs.Saving.{saved_among}
use Rattle.ips_strays.proofs.joining.add_rows.Goals as goal

pub returns-clause-listed : goal.returns-clause-listed
returns-clause-listed g c = λ told r table marked q.
    let o = g.F.Source.outside in
    let u = (o.state c.args.folder.now).held in
    let rows = c.args.table.now.rows.items in
    let old = c.args.things.now.items in
    let mid = c.add_marked.new.things.items in
    let saved = salvage.salvaged (naming r) u in
    let reads = c.salvaged.ensures.reads in
    let kept : (o.state c.salvaged.new.folder).held ≡ u = ap (λ (s : State). s.held) reads.kept in
    let marks = subst (λ (l : List Row). c.deref-2.result.now ≡ map saved (row_paths l)) (sym c.deref.ensures.value) (c.deref-2.ensures.value ∙ c.in_ok-saved.ensures.found told r table (c.requires.looked told) marked) in
    let adds = c.in_ok-add_marked.ensures.found (reads.call.same_kind ∙ told) saved marks in
    let here = subst (λ (v : Image). Adds v (λ x. list_any (λ p. saved p && same_path p x) (row_paths rows)) old mid) kept
    (subst (λ (l : List Row). Adds (o.state c.salvaged.new.folder).held (λ x. list_any (λ p. saved p && same_path p x) (row_paths l)) old mid) c.deref.ensures.value adds) in
    c.in_ok-sort.ensures.same q ∙ here.paths q ∙ ap (λ (b : Bool). listed (thing_paths old) q || b) (saved_among (naming r) u (row_paths rows) q)

pub returns-clause-found : goal.returns-clause-found
returns-clause-found g c = λ told all.
    let o = g.F.Source.outside in
    let u = (o.state c.args.folder.now).held in
    let reads = c.salvaged.ensures.reads in
    let kept : (o.state c.salvaged.new.folder).held ≡ u = ap (λ (s : State). s.held) reads.kept in
    c.in_ok-sort.ensures.found u (subst (λ (v : Image). AreThings v c.add_marked.new.things.items) kept
    (c.in_ok-add_marked.ensures.things (reads.call.same_kind ∙ told) (subst (λ (v : Image). AreThings v c.args.things.now.items) (sym kept) all)))
