use Rattle.std.proofs.Common.{◌≡◌, ◌+◌, ◌≤◌, ◌++◌, length, map}
use Rattle.std.specs.List.{AllByRecursion}
use Rattle.ips_records.specs.Lines.{ended, lines_in}
use Rattle.ips_records.specs.Listed.{Chain, Sole}
use Rattle.ips_records.proofs.list.read_front.Given as goal

abbrev pub invariant-loop-alloc : goal.invariant-loop-alloc
invariant-loop-alloc g l = record {
  sole : AllByRecursion (Sole g.L.Listing.line g.L.Listing.fits) l.items.items;
  chain : Chain g.L.Listing.follows l.items.items;
  lines : lines_in l.bytes ≡ map ended (map g.L.Listing.line l.items.items) ++ lines_in l.rest;
  room : length l.items.items + length l.rest ≤ length l.bytes;
}

abbrev pub decreases-loop-alloc : goal.decreases-loop-alloc
decreases-loop-alloc g l = length l.rest
