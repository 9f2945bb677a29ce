use Rattle.ips_laws.proofs.plan_laws.Plans.{plans_like}
use Rattle.ips_laws.proofs.plan_laws.requests.plans_are_one.Goals as goal

pub returns : goal.returns
returns c = λ g moment old other new next accept p q told tells stands was is h k. plans_like c.answers_are_one.ensures c.due_files_fit.ensures g told tells stands old other new next was is accept p q moment h k
