use Rattle.std.proofs.Common.{◌≡◌, ◌++◌, IsTrue, length}
use Rattle.std.specs.List.{AllByRecursion}
use Rattle.ips_outside.specs.Outside.{Reads}
use Rattle.ips_manifest.specs.Draft.{CanBeFilled}
use Rattle.ips_filling.specs.Filled.{IsFilling, IsPlaced, Pairwise}
use Rattle.ips_filling.proofs.filling.fill_all.Given as goal

abbrev pub invariant-loop-draft : goal.invariant-loop-draft
invariant-loop-draft g l = record {
  filled : IsTrue (g.S.Source.outside.tells l.fn.source) → Pairwise (IsFilling (g.S.Source.outside.state l.fn.source).held) l.yielded l.filled.items;
  placed : Pairwise IsPlaced l.yielded l.filled.items;
  parts : l.yielded ++ l.draft-iterator.rest.items ≡ l.fn.drafts.items;
  fillable : AllByRecursion CanBeFilled l.draft-iterator.rest.items;
  room : length l.buffer ≡ length l.fn.buffer;
  reads : Reads g.S.Source.outside l.fn.source l.source ⊥;
}
