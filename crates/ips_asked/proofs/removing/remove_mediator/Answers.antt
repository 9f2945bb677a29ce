use Rattle.std.proofs.Common.{not, rules, bytes_eq}
use Rattle.std.proofs.lemmas.Fn.{filter_same}
use Rattle.ips_mediate.specs.declared.set.SetMediator.{SetMediator}
use Rattle.ips_asked.proofs.removing.remove_mediator.Goals as goal

pub returns : goal.returns
returns c = filter_same _ (λ (m : SetMediator). not (bytes_eq m.name c.args.name.now)) _ (λ x b f k. search rules) _ _ c.retain.ensures.filtered
