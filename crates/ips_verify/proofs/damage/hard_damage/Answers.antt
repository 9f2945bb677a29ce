use Rattle.std.proofs.Common.{None, not}
use Rattle.ips_after.specs.Findings as after
use Rattle.ips_after.specs.Request.{WantHard}
use Rattle.ips_verify.proofs.Looked.{no_file}
use Rattle.ips_verify.proofs.damage.hard_damage.Goals as goal

pub returns-in_default-clause-found : goal.returns-in_default-clause-found
returns-in_default-clause-found g c = λ told.
    let t = (g.F.Source.outside.state c.args.folder.now).held in
    let e = t.look c.args.path.now.bytes in
    c.not_there.ensures e (c.requires.seen told) (WantHard c.args.to.now.bytes) (no_file c.args.found e (c.requires.seen told) c.in_default.not-File)
    (after.damage_if (not (after.is_name_of t c.args.path.now.bytes c.args.to.now.bytes)) after.NotSame None)
