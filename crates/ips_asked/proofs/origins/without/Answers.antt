use Rattle.std.proofs.Common.{not, rules, bytes_eq}
use Rattle.std.proofs.lemmas.Fn.{filter_same}
use Rattle.ips_state.specs.declared.state.Origin.{Origin}
use Rattle.ips_asked.proofs.origins.without.Goals as goal

pub returns : goal.returns
returns c = filter_same _ (λ (o : Origin). not (bytes_eq o.name c.args.name.now)) _ (λ x b f k. search rules) _ _ c.retain.ensures.filtered
