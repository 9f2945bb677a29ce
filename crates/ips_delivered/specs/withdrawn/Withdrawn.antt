-- What goes with a request.
use Rattle.std.specs.Prelude.{◌≡◌, ℕ, ◌++◌, List}
use Rattle.std.specs.List.Sorted.{IsStrictlySortedBy}
use Rattle.std.specs.Ordering.{nat_cmp}
use Rattle.std.specs.Cmp.Lexicographic.{slice_cmp}
use Rattle.ips_after.specs.Lists.{listed}
use Rattle.ips_state.specs.declared.state.State.{State}
use Rattle.ips_state.specs.State.{recorded}
use Rattle.ips_state.specs.Records.{taken_away}
use Rattle.ips_due.specs.Delivered.{Delivered, delivered_gone}
use Rattle.ips_delivered.specs.delivered.Named.{DeliverNamed}

-- The licenses and the legacy packages are those that the installed packages of the state deliver.
abbrev pub IsDeliveredBy : State → Delivered → Type 0
IsDeliveredBy s d = DeliverNamed s.settings s.installed.items d.licenses d.legacy

-- The paths are just those that go with a request from the old state to the new one, each once, by bytes.
pub record AreWithdrawn (old new : State) (paths : List (List ℕ)) : Type 0 where
  pub order : IsStrictlySortedBy (slice_cmp nat_cmp) paths
  pub gone : (was is : Delivered) → IsDeliveredBy old was → IsDeliveredBy new is → (q : List ℕ) → listed paths q ≡ listed (taken_away (recorded old) (recorded new) ++ delivered_gone was is) q
