use Rattle.std.proofs.Common.{◌∙◌, ap, sym}
use Rattle.ips_request.specs.Stems.{stems_of}
use Rattle.ips_request.proofs.Lookups.{key_put}
use Rattle.ips_request.proofs.stems.add_stem.Goals as goal

pub returns : goal.returns
returns c = ap stems_of c.in_ok-insert.ensures.keys ∙ key_put c.args.stems.now.keys c.in_ok-stem.stem c.args.stem.now c.in_ok-stem.ensures.ok (sym c.has_stem.ensures ∙ c.if-has_stem.false)
