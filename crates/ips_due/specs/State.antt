-- What a change of an image's state makes due.
use Rattle.std.specs.Prelude.{Bool, true, false, ◌==◌, ℕ, List, [], ◌∷◌}
use Rattle.ips_state.specs.State.{Recorded}
use Rattle.ips_state.specs.Records.{packages_path, records_of, taken_away}
use Rattle.ips_due.specs.Due.{Due, own_records}

-- The folders that are made anew: that of the packages' records, where format 2 comes in place of format 1 (the first flag tells that the old
-- format is 1, the second that the new one is).
abbrev pub renewed_by : Bool → Bool → List (List ℕ)
renewed_by true true = []
renewed_by true false = packages_path ∷ []
renewed_by false true = []
renewed_by false false = []

-- What a change from the old state to the new one makes due: the records of the new one, in its format; what it doesn't record any more goes.
abbrev pub state_due : Recorded → Recorded → Due
state_due old new = record {
  accounts = [];
  records = own_records (records_of new);
  renewed = renewed_by (old.format == 1) (new.format == 1);
  folders = [];
  gone = taken_away old new;
}
