-- What the packages of an image's state mean.
use Rattle.std.specs.Prelude.{ℕ, List}
use Rattle.ips_state.specs.declared.state.State.{State}
use Rattle.ips_meaning.specs.declared.entry.Entry.{Entry}
use Rattle.ips_meaning.specs.declared.fault.WantFault.{WantFault}
use Rattle.ips_meaning.specs.Want.{PackagesFail}
use Rattle.ips_due.specs.Asked.{AreMeant}

-- The packages of the state mean these entries.
abbrev pub StateMeans : State → List (List ℕ × Entry) → Type 0
StateMeans s entries = AreMeant s.settings s.mediators.items s.installed.items entries

-- The packages of the state mean no image, and this is their fault.
abbrev pub StateFails : State → WantFault → Type 0
StateFails s fault = PackagesFail s.settings s.mediators.items s.installed.items fault
