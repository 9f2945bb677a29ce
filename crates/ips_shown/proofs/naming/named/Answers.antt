use Rattle.std.proofs.Common.{sym, ap, ◌∙◌}
use Rattle.ips_request.specs.Stems as lists
use Rattle.ips_shown.specs.Naming.{stems_of}
use Rattle.ips_shown.proofs.Names.{named_known}
use Rattle.ips_shown.proofs.naming.named.Goals as goal

pub unreachable-requires : goal.unreachable-requires
unreachable-requires c = named_known c.args.publisher.now c.args.pattern.now (stems_of c.args.packages.now) c.in_ok-matched.matched.items c.in-Ok.stem c.in_ok-matched.ensures c.in-Ok.ensures.named
    (ap (λ s. lists.has s (stems_of c.args.packages.now)) (sym c.as_str.ensures) ∙ c.in-None.ensures.none)
