use Rattle.std.proofs.Common.{[], rules}
use Rattle.ips_listing.proofs.Steps.{text_of}
use Rattle.ips_listing.proofs.printing.print_empty.Goals as goal

pub returns-clause-text : goal.returns-clause-text
returns-clause-text c = text_of _ _ _ c.args.publisher.now [] c.into_inner.ensures.items (search rules) (search rules)
