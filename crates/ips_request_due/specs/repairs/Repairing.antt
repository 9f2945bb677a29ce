-- What a repair makes due, and the repair of what packages mean.
use Rattle.std.specs.Prelude.{ℕ, Bool, List, [], ◌∷◌}
use Rattle.ips_records.specs.Lines.{lines_text}
use Rattle.ips_state.specs.Records.{history_path}
use Rattle.ips_meaning.specs.declared.entry.Entry.{Entry}
use Rattle.ips_after.specs.Repaired.{Repair}
use Rattle.ips_after.specs.Request.{Over}
use Rattle.ips_change.specs.wanted.Wanted.{want_of}
use Rattle.ips_due.specs.Due.{Due, own_records}

-- What is due behind a repair: the history of the image, with these lines.
abbrev pub repair_due : List (List ℕ) → Due
repair_due history = record { accounts = []; records = own_records ((history_path, lines_text history) ∷ []); renewed = []; folders = []; gone = [] }

-- The repair of the entries that packages mean, with the bytes of each payload, whether bytes are a payload's, and what account files and records say.
abbrev pub repair_between : List (List ℕ × Entry) → (List ℕ → List ℕ) → (List ℕ → List ℕ → Bool) → Over → Repair
repair_between entries bytes holds over = record { want = want_of entries; bytes = bytes; holds = holds; over = over }
