use Rattle.std.proofs.Common.{◌∙◌}
use Rattle.ips_request.proofs.Lookups.{number_among_keys}
use Rattle.ips_request.proofs.stems.number.Goals as goal

pub returns-clause-number : goal.returns-clause-number
returns-clause-number c = c.get_index_of.ensures.index ∙ number_among_keys c.args.stem.now c.args.stems.now.keys
