use Rattle.std.proofs.Common.{sym, subst, arith}
use Rattle.std.proofs.lemmas.Bool.{false≢true}
use Rattle.ips_text.specs.Path.{IsPath}
use Rattle.ips_contents.proofs.OwnPaths.{mark_is_path}
use Rattle.ips_commit.proofs.names.set_mark.Goals as goal

pub unreachable-requires : goal.unreachable-requires
unreachable-requires c = false≢true (c.in-Err.ensures.only (subst IsPath (sym c.write_mark-count.ensures.written) (mark_is_path c.args.number (omega arith))))
