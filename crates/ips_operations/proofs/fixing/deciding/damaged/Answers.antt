use Rattle.std.proofs.Common.{refl}
use Rattle.ips_operations.proofs.fixing.Decided.{records_told, told_by}
use Rattle.ips_operations.proofs.fixing.deciding.damaged.Goals as goal

pub mended-requires-clause-records : goal.mended-requires-clause-records
mended-requires-clause-records g c = λ tells.
    records_told (g.F.Source.outside.state c.args.folder.now).held (told_by _ _ _ _ c.requires.can tells) (g.met.F.Source.sane.formed c.args.folder.now tells)

pub returns-in-Ok-clause-decided : goal.returns-in-Ok-clause-decided
returns-in-Ok-clause-decided g c = λ tells.
    c.mended.ensures.decided tells (record { command = c.args.command.now; moment = c.args.moment }) refl (record { told = told_by _ _ _ _ c.requires.can tells; noted = c.in-Ok.ensures.noted })
