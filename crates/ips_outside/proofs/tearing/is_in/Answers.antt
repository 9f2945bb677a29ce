use Rattle.std.proofs.Common.{◌∙◌}
use Rattle.std.specs.List.{list_any}
use Rattle.ips_outside.proofs.Maps.{is_eq-path}
use Rattle.ips_outside.proofs.tearing.is_in.Goals as goal

pub returns : goal.returns
returns c = c.contains.ensures ∙ (λ i. list_any (λ k. is_eq-path c.args.path.now k.items i) c.args.names.now.keys)
