-- How a folder is settled.
use Rattle.std.proofs.Common.{◌≡◌, List, subst}
use Rattle.ips_outside.specs.State.{State}
use Rattle.ips_outside.specs.Outside.{Outside}
use Rattle.ips_kinds.specs.Tallies.{Carrier}
use Rattle.ips_put.specs.Settling.{Settled, SettlesFrom}

-- from the same state
pub settles_as : {F : Type 0} (o : Outside F) (s t : State) (new : F) (before now : List Carrier) (x : Settled) → s ≡ t → SettlesFrom o s new before now x → SettlesFrom o t new before now x
settles_as o s t new before now x same from = subst (λ (u : State). SettlesFrom o u new before now x) same from
