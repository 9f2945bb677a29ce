use Rattle.std.proofs.Common.{sym, ◌∙◌}
use Rattle.ips_unmovable.proofs.Ranked.{first_one, first_other}
use Rattle.ips_unmovable.proofs.first.lesser.Goals as goal

pub returns-in-Greater : goal.returns-in-Greater
returns-in-Greater c = λ f g a b. first_other f g c.args.one.now.bytes c.args.other.now.bytes a b (sym c.cmp.ensures ∙ c.in-Greater.is)

pub returns-in_default : goal.returns-in_default
returns-in_default c = λ f g a b. first_one f g c.args.one.now.bytes c.args.other.now.bytes a b (λ is. c.in_default.not-Greater (c.cmp.ensures ∙ is))
