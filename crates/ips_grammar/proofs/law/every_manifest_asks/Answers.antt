use Rattle.std.proofs.Common.{inl, inr}
use Rattle.ips_grammar.proofs.Asked.{lines_ask}
use Rattle.ips_grammar.proofs.law.every_manifest_asks.Goals as goal

pub returns : goal.returns
returns c = λ settings lines. elim (lines_ask settings lines) [ inl asks ↦ inl asks | inr none ↦ inr (λ ds asks. none (ds, asks)) ]
