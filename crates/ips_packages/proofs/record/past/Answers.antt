use Rattle.ips_load.proofs.HeadWords.{found_behind, none_behind}
use Rattle.ips_packages.proofs.record.past.Goals as goal

pub returns-clause-some : goal.returns-clause-some
returns-clause-some c = found_behind c.strip_prefix.result c.args.front.now c.args.bytes.now c.strip_prefix.ensures.cases

pub returns-clause-none : goal.returns-clause-none
returns-clause-none c = none_behind c.strip_prefix.result c.args.front.now c.args.bytes.now c.strip_prefix.ensures.cases
