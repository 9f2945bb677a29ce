use Rattle.std.proofs.Common.{◌≡◌, Option, None, not, sym, subst}
use Rattle.std.specs.Option.{option_map}
use Rattle.ips_outside.specs.Image.{Entry}
use Rattle.ips_after.specs.After.{links_to}
use Rattle.ips_after.specs.Findings as after
use Rattle.ips_after.specs.Request.{WantLink}
use Rattle.ips_verify.specs.Verified.{damage_told}
use Rattle.ips_verify.proofs.Looked.{no_link}
use Rattle.ips_verify.proofs.damage.link_damage.Goals as goal

pub returns-in_default-clause-found : goal.returns-in_default-clause-found
returns-in_default-clause-found g c = λ told.
    let t = (g.F.Source.outside.state c.args.folder.now).held in
    let e = t.look c.args.path.now.bytes in
    c.not_there.ensures e (c.requires.seen told) (WantLink c.args.target.now) (no_link c.args.found e (c.requires.seen told) c.in_default.not-Link)
    (after.damage_if (not (links_to c.args.target.now e)) after.WrongTarget None)

pub returns-in-Ok-clause-found : goal.returns-in-Ok-clause-found
returns-in-Ok-clause-found g c = λ told.
    subst (λ (e : Option Entry). option_map damage_told c.target_damage.result ≡ after.unless_there (WantLink c.args.target.now) e (after.damage_if (not (links_to c.args.target.now e)) after.WrongTarget None))
    (sym (c.in-Ok.ensures.found told)) (rw c.deref.ensures.value at c.target_damage.ensures)
