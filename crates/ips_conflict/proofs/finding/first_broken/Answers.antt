use Rattle.ips_conflict.proofs.Alone.{alone}
use Rattle.ips_conflict.proofs.finding.first_broken.Goals as goal

pub returns-then-members-lt2 : goal.returns-then-members-lt2
returns-then-members-lt2 c = alone c.args.placed.now c.args.sort c.args.text.now c.args.members.now c.requires.group c.if-members-lt2.true
