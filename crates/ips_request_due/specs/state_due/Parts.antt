-- The records of a state, and others behind them, as records that are due.
use Rattle.std.specs.Prelude.{◌≡◌, ℕ, ◌⊎◌, ◌++◌, List, map}
use Rattle.std.specs.List.{AllByRecursion}
use Rattle.ips_state.specs.State.{Recorded}
use Rattle.ips_entries.specs.Part.{HasPart, record_text}
use Rattle.ips_entries.specs.declared.part.Place.{Place}
use Rattle.ips_due.specs.Due.{Content, Own}
use Rattle.ips_due.specs.declared.outstanding.due.DueRecord.{DueRecord}
use Rattle.ips_due.specs.outstanding.Parts.{due_record}

-- The record at a place of the state, as a record that is due.
abbrev pub due_at : Recorded → Place → List ℕ × Content
due_at r place = (place.path.bytes, Own (record_text r place.part))

-- The records at these places of the state, and the others.
abbrev pub placed_records : Recorded → List Place → List DueRecord → List (List ℕ × Content)
placed_records r places others = map (due_at r) places ++ map due_record others

-- The state is in one of both formats, and has the parts of these places.
pub record HasPlaces (r : Recorded) (places : List Place) : Type 0 where
  pub format : (r.format ≡ 1) ⊎ (r.format ≡ 2)
  pub parts : AllByRecursion (λ place. HasPart r place.part) places
