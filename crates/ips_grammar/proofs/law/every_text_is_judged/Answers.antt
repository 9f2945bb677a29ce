use Rattle.std.proofs.Common.{inl, inr}
use Rattle.ips_manifest.specs.Logical.{lines_of}
use Rattle.ips_grammar.proofs.Texts.{lines_mean}
use Rattle.ips_grammar.proofs.law.every_text_is_judged.Goals as goal

pub returns : goal.returns
returns c = λ bytes. elim (lines_mean (lines_of bytes)) [ inl means ↦ inl means | inr none ↦ inr (λ lines means. none (lines, means)) ]
