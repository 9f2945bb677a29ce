use Rattle.std.proofs.Common.{rules, false}
use Rattle.std.proofs.lemmas.Slice.Eq.{strip_prefix_is}
use Rattle.std.proofs.lemmas.Bool.Decides.{Decides-eqb}
use Rattle.ips_refute.specs.Text.{header}
use Rattle.ips_refute.proofs.reading.behind_plain.Goals as goal

pub returns : goal.returns
returns c = let h = strip_prefix_is Decides-eqb c.args.bytes.now (header false) c.strip_prefix.result c.strip_prefix.ensures.cases in search rules
