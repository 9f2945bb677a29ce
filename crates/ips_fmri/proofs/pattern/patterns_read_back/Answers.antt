use Rattle.std.proofs.Common.{subst, List, ℕ}
use Rattle.ips_fmri.specs.Pattern.{pattern_text}
use Rattle.ips_fmri.proofs.Versions.{written_one}
use Rattle.ips_fmri.proofs.Readings.{judges_pattern, pattern_written, WritesPattern}
use Rattle.ips_fmri.proofs.pattern.patterns_read_back.Goals as goal

pub returns-clause-one : goal.returns-clause-one
returns-clause-one c = λ p q hp hq e. written_one judges_pattern (pattern_text q) p q (subst (λ (t : List ℕ). WritesPattern p t) e (pattern_written p hp)) (pattern_written q hq)

pub returns-clause-back : goal.returns-clause-back
returns-clause-back c = λ p h. judges_pattern.only (pattern_text p) p (pattern_written p h)
