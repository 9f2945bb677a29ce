-- Actuators run one after another.
use Rattle.std.specs.Prelude.{◌≡◌, ◌≢◌, ℕ, ◌<◌, List, ◌∷◌, [], ◌++◌, length, map, take, slice_get, Some, Result, Ok, Err}
use Rattle.ips_outside.specs.Running.{Run}
use Rattle.ips_actuate.specs.declared.running.ActFault.{ActFault}
use Rattle.ips_actuate.specs.declared.running.ActFault.TheVariants.{Failed, Spawn}

-- the words were run, and ended with status 0
abbrev pub succeeded : List (List ℕ) → Run
succeeded words = record { words = words; status = 0 }

-- How a run through the list ended, by what the spawner ran in it: all of the list, each with status 0; those before the first
-- that ended with another status, which is told, and that one; or those before the one that couldn't be run.
abbrev pub Ends : List (List (List ℕ)) → List Run → Result (Unit {0}) ActFault → Type 0
Ends list ran (Ok x) = ran ≡ map succeeded list
Ends list ran (Err (Failed index status)) = (words : List (List ℕ)) × (slice_get list index ≡ Some words) × (status ≢ 0)
    × (ran ≡ map succeeded (take index list) ++ record { words = words; status = status } ∷ [])
Ends list ran (Err (Spawn index)) = (words : List (List ℕ)) × (slice_get list index ≡ Some words) × (ran ≡ map succeeded (take index list))

-- the fault is at a place of the list, and a status that is told isn't 0
abbrev pub IsFaultOfRun : List (List (List ℕ)) → ActFault → Type 0
IsFaultOfRun list (Failed index status) = (index < length list) × (status ≢ 0)
IsFaultOfRun list (Spawn index) = index < length list

-- a run couldn't be made
abbrev pub IsSpawn : Result (Unit {0}) ActFault → Type 0
IsSpawn (Ok x) = ⊥
IsSpawn (Err (Failed index status)) = ⊥
IsSpawn (Err (Spawn index)) = Unit {0}
