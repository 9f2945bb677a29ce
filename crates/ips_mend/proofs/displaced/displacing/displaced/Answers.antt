use Rattle.std.proofs.Common.{◌&&◌, ◌||◌, List, is_some, sym, ◌∙◌, ap, subst}
use Rattle.std.specs.List.{list_any}
use Rattle.ips_text.specs.Ancestry.{covers}
use Rattle.ips_after.specs.Lists.{listed}
use Rattle.ips_after.specs.Repaired.{displaces}
use Rattle.ips_found.specs.declared.found.Thing.{Thing}
use Rattle.ips_found.specs.Found.{AreThings, thing_paths}
use Rattle.ips_mend.proofs.displaced.Adding.{displaced_are}
use Rattle.ips_mend.proofs.displaced.displacing.displaced.Goals as goal

pub returns-clause-listed : goal.returns-clause-listed
returns-clause-listed g c = λ told f good is are q.
    let u = (g.F.Source.outside.state c.args.folder.now).held in
    c.in_ok-sort.ensures.same q
    ∙ (c.in_ok-gather_all.ensures.found told f is are).paths q
    ∙ ap (λ (l : List Thing). listed (thing_paths l) q || (is_some (u.look q) && list_any (λ p. displaces f u p && covers p q) f.want.keys)) c.new-things.ensures.items
    ∙ displaced_are f u q good

pub returns-clause-found : goal.returns-clause-found
returns-clause-found g c = λ told.
    let u = (g.F.Source.outside.state c.args.folder.now).held in
    c.in_ok-sort.ensures.found u (c.in_ok-gather_all.ensures.things told (subst (λ (l : List Thing). AreThings u l) (sym c.new-things.ensures.items) tt))
