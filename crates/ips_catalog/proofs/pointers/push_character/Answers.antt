use Rattle.std.proofs.Common.{rules}
use Rattle.ips_catalog.proofs.PlainBytes.{plain_character}
use Rattle.ips_catalog.proofs.pointers.push_character.Goals as goal

pub returns-else-character-eq47 : goal.returns-else-character-eq47
returns-else-character-eq47 c = rw (plain_character c.args.character (c.if-character-eq126.false, c.if-character-eq47.false)) (search rules)
