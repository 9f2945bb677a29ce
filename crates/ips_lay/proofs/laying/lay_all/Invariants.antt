use Rattle.std.proofs.Common.{◌≡◌, ◌≤◌, ◌<◌, ℕ, IsTrue, Some, slice_get}
use Rattle.ips_outside.specs.Outside.{Reads}
use Rattle.ips_repo.specs.Payload.{HasIntact}
use Rattle.ips_lay.specs.declared.content.Content.{Content}
use Rattle.ips_lay.specs.Laid.{LaysBeside}
use Rattle.ips_lay.specs.Lists.{names_of}
use Rattle.ips_lay.proofs.laying.lay_all.Given as goal

abbrev pub invariant-loop-number : goal.invariant-loop-number
invariant-loop-number g l = record {
  kind : g.F.Source.outside.tells l.folder ≡ g.F.Source.outside.tells l.fn.folder;
  faults : g.F.Source.outside.faults l.folder ≡ g.F.Source.outside.faults l.fn.folder;
  changes : g.F.Source.outside.changes l.fn.folder ≤ g.F.Source.outside.changes l.folder;
  reads : Reads g.S.Source.outside l.fn.source l.source ⊥;
  intact : IsTrue (g.F.Source.outside.tells l.fn.folder) → (n : ℕ) (c : Content) → n < l.number → slice_get l.contents n ≡ Some c → HasIntact l.publisher (g.F.Source.outside.state l.folder).held c.name;
  beside : IsTrue (g.F.Source.outside.tells l.fn.folder) → LaysBeside g.F.Source.outside l.publisher (names_of l.contents) l.fn.folder l.folder;
}
