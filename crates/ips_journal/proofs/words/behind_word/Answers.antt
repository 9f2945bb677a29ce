use Rattle.std.proofs.Common.{rules}
use Rattle.std.proofs.lemmas.Slice.Eq.{strip_prefix_is}
use Rattle.std.proofs.lemmas.Bool.Decides.{Decides-eqb}
use Rattle.ips_journal.proofs.words.behind_word.Goals as goal

pub returns : goal.returns
returns c = let h = strip_prefix_is Decides-eqb c.args.line.now c.args.word.now c.strip_prefix.result c.strip_prefix.ensures.cases in search rules
