use Rattle.std.proofs.Common.{◌∙◌}
use Rattle.ips_prepare.proofs.Entries.{text_is}
use Rattle.ips_prepare.proofs.texts.print_texts.Goals as goal

pub returns-in-Ok-clause-manifest : goal.returns-in-Ok-clause-manifest
returns-in-Ok-clause-manifest c = c.in-Ok.ensures ∙ text_is c.args.manifest.now.lines.items
