use Rattle.std.proofs.Common.{◌≡◌, ◌++◌}
use Rattle.std.specs.List.{AllByRecursion}
use Rattle.ips_prepare.specs.Prepared.{HasName}
use Rattle.ips_ready.specs.Plans.{IsPlaced, sources_placed, sources_prepared}
use Rattle.ips_ready.proofs.planning.place_all.Given as goal

abbrev pub invariant-loop-content : goal.invariant-loop-content
invariant-loop-content l = record {
  placed : AllByRecursion (IsPlaced l.publisher) l.placed.items;
  sources : sources_placed l.placed.items ≡ sources_prepared l.yielded;
  parts : l.yielded ++ l.content-iterator.rest.items ≡ l.fn.contents.items;
  names : AllByRecursion HasName l.content-iterator.rest.items;
}
