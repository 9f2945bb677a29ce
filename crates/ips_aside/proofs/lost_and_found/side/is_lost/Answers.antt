use Rattle.std.proofs.Common.{◌||◌, Bool, sym, ◌∙◌, ap}
use Rattle.ips_after.specs.Salvage.{dir_or_other}
use Rattle.ips_aside.specs.lost_and_found.Sides.{dir_or_other_looked}
use Rattle.ips_aside.proofs.lost_and_found.Sided.{dir_or_other_seen}
use Rattle.ips_aside.proofs.lost_and_found.side.is_lost.Goals as goal

pub returns-then-is_wanted-clause-found : goal.returns-then-is_wanted-clause-found
returns-then-is_wanted-clause-found g c = λ told r said table.
    let u = (g.S.Source.outside.state c.args.source.now).held in
    ap (λ (b : Bool). b || dir_or_other (u.look c.args.name.now.bytes)) (sym c.if-is_wanted.true ∙ c.is_wanted.ensures r said table)

pub returns-clause-found : goal.returns-clause-found
returns-clause-found g c = λ told r said table.
    let u = (g.S.Source.outside.state c.args.source.now).held in
    c.is_dir_or_other.ensures ∙ ap dir_or_other_looked (c.in_ok-look_at.ensures.found told) ∙ dir_or_other_seen (u.look c.args.name.now.bytes)
    ∙ ap (λ (b : Bool). b || dir_or_other (u.look c.args.name.now.bytes)) (sym c.if-is_wanted.false ∙ c.is_wanted.ensures r said table)
