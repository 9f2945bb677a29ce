use Rattle.std.proofs.Common.{subst, sym}
use Rattle.std.specs.Str.{IsUtf8}
use Rattle.ips_index.proofs.RowLines.{kind_text}
use Rattle.ips_index.proofs.words.place.Goals as goal

pub returns-in_default-clause-none : goal.returns-in_default-clause-none
returns-in_default-clause-none c = λ k e has. c.in_default.ensures.cases.0 (subst IsUtf8 (sym e) (kind_text k))
