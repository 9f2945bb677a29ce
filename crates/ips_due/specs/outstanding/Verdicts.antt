-- What is said of a path, and by which part of what is due.
use Rattle.std.specs.Prelude.{ℕ, false, List, map, Option, Some, None, slice_get}
use Rattle.ips_outside.specs.Image.{Entry, Dir, File, Other}
use Rattle.ips_due.specs.Due.{Content, Due, DueFile, bytes_of_content, said_folder, said_gone}
use Rattle.ips_change.specs.declared.survey.said.Said.{Said}
use Rattle.ips_change.specs.declared.survey.said.Said.TheVariants.{Lays, Takes}
use Rattle.ips_due.specs.declared.outstanding.asking.Role.{Role}
use Rattle.ips_due.specs.declared.outstanding.asking.Role.TheVariants as role
use Rattle.ips_due.specs.declared.outstanding.verdict.Verdict.{Verdict}
use Rattle.ips_due.specs.declared.outstanding.verdict.Verdict.TheVariants as verdict
use Rattle.ips_due.specs.declared.outstanding.verdict.Named.{Named}

-- A folder that is laid.
abbrev pub folder : Entry
folder = Dir 493 false

-- The entry of an account file; where there is none of that number, one that nothing lays.
abbrev pub account_entry : Option DueFile → Entry
account_entry (Some f) = File f.mode f.bytes
account_entry None = Other

-- The entry of a record, with the bytes of each payload; where there is none of that number, one that nothing lays.
abbrev pub record_entry : (List ℕ → List ℕ) → Option (List ℕ × Content) → Entry
record_entry bytes (Some r) = File 420 (bytes_of_content bytes r.1)
record_entry bytes None = Other

-- What is laid, with the bytes of each payload, or nothing where what stands is taken away.
abbrev pub entry_by : (List ℕ → List ℕ) → Due → Verdict → Option Entry
entry_by bytes due (verdict.Account n) = Some (account_entry (slice_get due.accounts n))
entry_by bytes due (verdict.Record n) = Some (record_entry bytes (slice_get due.records n))
entry_by bytes due verdict.Folder = Some folder
entry_by bytes due verdict.Gone = None

-- What is said of a path by this verdict, where there is one, with the bytes of each payload.
abbrev pub meant : (List ℕ → List ℕ) → Due → Option Verdict → Option (Option Entry)
meant bytes due None = None
meant bytes due (Some v) = Some (entry_by bytes due v)

-- The same without what is laid.
abbrev pub said_of : Verdict → Said
said_of (verdict.Account n) = Lays
said_of (verdict.Record n) = Lays
said_of verdict.Folder = Lays
said_of verdict.Gone = Takes

-- What is said of a path of this role.
abbrev pub role_said : Role → Option Entry → Option (Option Entry)
role_said role.Renewed e = Some (Some folder)
role_said role.Folder e = said_folder e
role_said role.Gone e = said_gone e

-- The paths that are named.
abbrev pub named_paths : List Named → List (List ℕ)
named_paths named = map (λ n. n.path.bytes) named
