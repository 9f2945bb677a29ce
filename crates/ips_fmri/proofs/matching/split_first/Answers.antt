use Rattle.ips_fmri.proofs.Cuts.{split_none, split_some}
use Rattle.ips_fmri.proofs.matching.split_first.Goals as goal

pub returns-clause-none : goal.returns-clause-none
returns-clause-none c = split_none c.args.mark c.args.text.now c.split_once.result c.utf8.text c.split_once.ensures.cases

pub returns-clause-some : goal.returns-clause-some
returns-clause-some c = split_some c.args.mark c.args.text.now c.split_once.result c.requires c.utf8.text c.split_once.ensures.cases
