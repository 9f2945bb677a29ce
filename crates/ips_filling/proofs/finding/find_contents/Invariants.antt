use Rattle.std.proofs.Common.{IsTrue, take}
use Rattle.std.specs.List.{AllByRecursion}
use Rattle.ips_outside.specs.Outside.{Reads}
use Rattle.ips_sends.specs.Judged.{HasSource}
use Rattle.ips_filling.proofs.finding.find_contents.Given as goal

abbrev pub invariant-loop-draft : goal.invariant-loop-draft
invariant-loop-draft g l = record {
  reads : Reads g.S.Source.outside l.fn.source l.source ⊥;
  found : IsTrue (g.S.Source.outside.tells l.fn.source) → AllByRecursion (HasSource (g.S.Source.outside.state l.fn.source).held) (take l.draft-index l.drafts);
}
