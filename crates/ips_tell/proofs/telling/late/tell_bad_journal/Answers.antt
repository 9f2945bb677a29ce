use Rattle.std.proofs.Common.{List, ◌++◌, ◌∷◌, []}
use lib.Chars.{codes}
use Rattle.std.specs.Fmt.{decimal}
use Rattle.ips_tell.proofs.telling.late.tell_bad_journal.Goals as goal

pub returns : goal.returns
returns g c = c.put.ensures c.args.out.now (codes "bad journal line " ++ decimal c.args.number) (c.put_number-told.ensures c.args.out.now (codes "bad journal line ") c.tell-told.ensures)
