use Rattle.ips_laws.proofs.answers.laws.answer_is_one.Goals as goal

pub returns : goal.returns
returns g c = λ command moment old a b told other done again tells reads. c.cause_is_answered.ensures.answered command moment old b told other (c.cause_is_answered.ensures.caused command moment old a told done tells reads) again tells reads
