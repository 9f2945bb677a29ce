use Rattle.std.proofs.lemmas.Str.{IsCharBoundary-start}
use Rattle.ips_index.proofs.finding.start.Goals as goal

pub new-requires : goal.new-requires
new-requires c = IsCharBoundary-start c.args.token.now c.utf8.token
