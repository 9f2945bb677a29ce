use Rattle.ips_laws.proofs.plan_laws.Causes.{planned_or_not}
use Rattle.ips_laws.proofs.plan_laws.requests.plan_excludes_causes.Goals as goal

pub returns : goal.returns
returns c = λ g moment old other new next accept p why told tells stands was is h k. planned_or_not c.answers_are_one.ensures c.due_files_fit.ensures g told tells stands moment old other new next was is accept p why h k
