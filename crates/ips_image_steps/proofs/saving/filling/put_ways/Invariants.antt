use Rattle.std.proofs.Common.{◌≡◌, ℕ, List, map}
use Rattle.std.specs.List.{flat_map}
use Rattle.std.specs.Map.Iter.{deref}
use Rattle.ips_aside.specs.Ways.{bytes_if_any}
use Rattle.ips_image_steps.specs.saving.Saving.{last_at, saved_at, way_placed}
use Rattle.ips_image_steps.proofs.saving.filling.put_ways.Given as goal

abbrev pub invariant-loop-path : goal.invariant-loop-path
invariant-loop-path l = record { so_far : (q : List ℕ) → saved_at l.saved q ≡ last_at (flat_map (way_placed (bytes_if_any l.ways.standing)) (map deref l.yielded)) q (saved_at l.fn.saved q) }
