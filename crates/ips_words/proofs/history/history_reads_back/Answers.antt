use Rattle.ips_words.proofs.Histories.{words_back}
use Rattle.ips_words.proofs.history.history_reads_back.Goals as goal

pub returns : goal.returns
returns c = words_back
