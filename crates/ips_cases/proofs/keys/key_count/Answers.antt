use Rattle.std.proofs.Common.{arith}
use Rattle.ips_cases.proofs.Numbers.{key_count-small}
use Rattle.ips_cases.proofs.keys.key_count.Goals as goal

pub overflow_mul-result-3 : goal.overflow_mul-result-3
overflow_mul-result-3 c = record { fits = key_count-small _ _ _ _ (omega arith) (omega arith) (omega arith) (omega arith) }
