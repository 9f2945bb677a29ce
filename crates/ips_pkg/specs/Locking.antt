-- Which lock on the image's folder a line of words wants.
use Rattle.std.specs.Prelude.{ℕ, List, Result, Ok}
use Rattle.ips_text.specs.declared.refusal.Stop.{Stop}
use Rattle.ips_syntax.specs.declared.table.Why.{Why}
use Rattle.ips_syntax.specs.declared.table.Verb.{Verb}
use Rattle.ips_syntax.specs.declared.table.Verb.TheVariants as verb
use Rattle.ips_syntax.specs.declared.values.Given.{Given}
use Rattle.ips_syntax.specs.declared.lines.Line.{Line}
use Rattle.ips_syntax.specs.declared.lines.Line.TheVariants.{Does}
use Rattle.ips_host.specs.declared.lock.Lock.{Lock}
use Rattle.ips_host.specs.declared.lock.Lock.TheVariants.{Free, Shared, Exclusive}

-- The lock that a command takes: a shared one where it only shows, none where it works in memory, and else one for itself alone.
abbrev pub lock_of : Verb → Lock
lock_of verb.Verify = Shared
lock_of verb.List = Shared
lock_of verb.Contents = Shared
lock_of verb.History = Shared
lock_of verb.Search = Shared
lock_of verb.Gen = Free
lock_of v = Exclusive

-- The lock that a line wants: that of its command, and none where it asks for help or the version, or is no line.
abbrev pub lock_for : Result (Line × List Given) (Stop Why) → Lock
lock_for (Ok (Does v, given)) = lock_of v
lock_for read = Free
