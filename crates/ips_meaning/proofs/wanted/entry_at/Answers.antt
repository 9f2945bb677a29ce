use Rattle.std.proofs.Common.{refl, inr}
use Rattle.ips_meaning.proofs.Wants.{none_given, implied}
use Rattle.ips_meaning.proofs.wanted.entry_at.Goals as goal

pub returns-in-None-clause-entry : goal.returns-in-None-clause-entry
returns-in-None-clause-entry c = inr (implied c.args.kept.now c.args.path.now (none_given c.args.kept.now c.args.path.now c.args.place c.requires.place c.in-None.is) c.requires.wanted, refl)
