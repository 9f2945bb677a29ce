use Rattle.std.proofs.Common.{not, ◌||◌, ◌∙◌, ap}
use Rattle.ips_outside.specs.declared.outside.Look.{Look}
use Rattle.ips_ways.specs.Ways.{gives_at, is_dir_at}
use Rattle.ips_ways.proofs.Giving.{free_looked}
use Rattle.ips_ways.proofs.looking.is_in_the_way.Goals as goal

pub returns-clause-found : goal.returns-clause-found
returns-clause-found g c = λ told.
    let p = c.args.path.now.bytes in
    ap not (c.is_dir_or_free.ensures ∙ ap (λ (l : Look). gives_at p l || is_dir_at l) (c.in_ok-found.ensures.found told) ∙ free_looked p ((g.S.Source.outside.state c.args.source.now).held.look p))
