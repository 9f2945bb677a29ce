use Rattle.ips_fmri.proofs.Cuts.{no_char}
use Rattle.ips_index.proofs.Plain.{no_match}
use Rattle.ips_index.proofs.finding.has_wildcard.Goals as goal

pub returns-else-contains : goal.returns-else-contains
returns-else-contains c plain = (no_char 42 c.args.pattern.now c.utf8.pattern c.if-contains.ensures.cases, no_char 63 c.args.pattern.now c.utf8.pattern (no_match c.contains-else-contains.result _ _ c.contains-else-contains.ensures.cases plain))
