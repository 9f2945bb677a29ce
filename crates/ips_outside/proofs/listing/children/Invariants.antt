use Rattle.std.proofs.Common.{◌≤◌, vec_capacity}
use Rattle.ips_outside.specs.Children.{path_bytes}
use Rattle.ips_outside.proofs.Children.{IsGoing, later}
use Rattle.ips_outside.proofs.listing.children.Given as goal

abbrev pub invariant-loop-next : goal.invariant-loop-next
invariant-loop-next l = record {
  going : IsGoing l.paths.entries l.dir l.from.items (path_bytes l.found.items);
  room : 1024 ≤ vec_capacity l.from;
}

abbrev pub decreases-loop-next : goal.decreases-loop-next
decreases-loop-next l = later l.paths.entries l.from.items
