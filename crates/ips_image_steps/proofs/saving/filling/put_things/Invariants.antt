use Rattle.std.proofs.Common.{◌≡◌, ℕ, List, take}
use Rattle.std.specs.List.{flat_map}
use Rattle.ips_image_steps.specs.saving.Saving.{last_at, saved_at, thing_placed}
use Rattle.ips_image_steps.proofs.saving.filling.put_things.Given as goal

abbrev pub invariant-loop-i : goal.invariant-loop-i
invariant-loop-i l = record { so_far : (q : List ℕ) → saved_at l.saved q ≡ last_at (flat_map (thing_placed l.root.bytes) (take l.i l.things)) q (saved_at l.fn.saved q) }
