use Rattle.std.proofs.Common.{◌∙◌, ap, subst, sym}
use Rattle.ips_asked.specs.Keyed.{AreKeyed, found}
use Rattle.ips_asked.proofs.Latest.{put_found, keyed_put}
use Rattle.ips_asked.proofs.named.put.Goals as goal

pub returns-clause-found : goal.returns-clause-found
returns-clause-found g c = λ name.
    c.in_ok-insert.ensures.updates.0 name
    ∙ put_found c.in_ok-name.name name (g.T.Named.name_of c.args.item.now) c.in_ok-copy.copy c.args.item.now (found name c.args.by_name.now.entries) (c.in_ok-name.ensures ∙ c.name.ensures) c.in_ok-copy.ensures

pub returns-clause-keyed : goal.returns-clause-keyed
returns-clause-keyed g c =
    let name_of = g.T.Named.name_of in
    subst (AreKeyed name_of) (sym c.in_ok-insert.ensures.entries)
    (keyed_put name_of c.args.by_name.now.entries c.in_ok-name.name c.in_ok-copy.copy (ap name_of c.in_ok-copy.ensures ∙ sym (c.in_ok-name.ensures ∙ c.name.ensures)) c.requires)
