use Rattle.ips_filling.proofs.Digests.{told_at_end}
use Rattle.ips_filling.proofs.digest.digest.Goals as goal

pub returns-in-Ok-clause-found : goal.returns-in-Ok-clause-found
returns-in-Ok-clause-found g c = λ told front.
    told_at_end (g.S.Source.outside.state c.args.source.now).held c.args.payload c.read_through.new.payload c.told_digest.result (c.read_through.ensures.front told front) c.in-Ok.ensures.ended c.read_through.ensures.named c.read_through.ensures.placed c.told_digest.ensures
