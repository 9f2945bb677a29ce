use Rattle.ips_usage.proofs.Lines.{first_wrong}
use Rattle.ips_usage.proofs.law.usage_names_the_first_wrong_word.Goals as goal

pub returns : goal.returns
returns c = λ words usage. first_wrong words usage
