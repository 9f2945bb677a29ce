use Rattle.ips_mogrify.specs.Outcome.{source_seen}
use Rattle.ips_mogrify.proofs.Unread.{there}
use Rattle.ips_mogrify.proofs.files.find.Goals as goal

pub returns-in-Ok-Some-clause-found : goal.returns-in-Ok-Some-clause-found
returns-in-Ok-Some-clause-found g c =
    there (source_seen g.S.Source.outside c.args.source.now) c.args.path.now.bytes c.in-Ok-Some.field-0-0 (λ told. rw c.in-Ok-Some.field-0-is at (c.in-Ok-Some.ensures.found told))
