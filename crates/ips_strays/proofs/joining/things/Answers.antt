use Rattle.std.proofs.Common.{◌≡◌, ◌||◌, Bool, sym, ◌∙◌, ap, subst}
use Rattle.ips_outside.specs.Image.{Image}
use Rattle.ips_outside.specs.State.{State}
use Rattle.ips_after.specs.Lists.{listed}
use Rattle.ips_after.specs.Salvage as salvage
use Rattle.ips_change.specs.Told.{naming}
use Rattle.ips_change.specs.survey.Marks.{IsMarkOf, row_paths}
use Rattle.ips_salvage.specs.Destroying.{destroys_else}
use Rattle.ips_found.specs.Found.{thing_paths}
use Rattle.ips_strays.specs.Strays.{saved_at}
use Rattle.ips_strays.proofs.Saving.{either_way}
use Rattle.ips_strays.proofs.joining.things.Goals as goal

pub returns-clause-listed : goal.returns-clause-listed
returns-clause-listed g c = λ told r good table marked q.
    let o = g.F.Source.outside in
    let u = (o.state c.args.folder.now).held in
    let paths = row_paths c.args.table.now.rows.items in
    let old = c.in_ok-things.things.items in
    let reads = c.strays.ensures.reads in
    let kept : (o.state c.strays.new.folder).held ≡ u = ap (λ (s : State). s.held) reads.kept in
    c.in_ok-add_rows.ensures.listed (reads.call.same_kind ∙ told) r table (subst (λ (v : Image). IsMarkOf (destroys_else (naming r) v) paths c.args.destroyed.now) (sym kept) marked) q
    ∙ ap (λ (v : Image). listed (thing_paths old) q || saved_at (naming r) v paths q) kept
    ∙ ap (λ (b : Bool). b || saved_at (naming r) u paths q) (c.in_ok-things.ensures.listed told r good table marked q)
    ∙ either_way (salvage.salvaged (naming r) u q) (listed paths q)
