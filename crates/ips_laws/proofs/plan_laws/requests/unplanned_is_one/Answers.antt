use Rattle.ips_laws.proofs.plan_laws.Causes.{unplanned_one}
use Rattle.ips_laws.proofs.plan_laws.requests.unplanned_is_one.Goals as goal

pub returns : goal.returns
returns c = λ g moment old other new next accept why cause told tells stands was is h k hw hc. unplanned_one c.answers_are_one.ensures c.due_files_fit.ensures g told tells stands moment old other new next was is accept why cause h k hw hc
