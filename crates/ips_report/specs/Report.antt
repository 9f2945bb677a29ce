-- The text that tells an outcome, and the number that the program ends with.
use Rattle.std.specs.Prelude.{ℕ, ◌+◌, Bool, true, false, cond, List, [], ◌∷◌, ◌++◌, length, codes, Option, Some, None}
use Rattle.std.specs.List.{flat_map}
use Rattle.std.specs.Fmt.{decimal}
use Rattle.ips_text.specs.Quote.{shown}
use Rattle.ips_digest.specs.Name.{spelling}
use Rattle.ips_fmri.specs.Version.{Parts, version_text}
use Rattle.ips_refute.specs.Text.{entries, refutation_text}
use Rattle.ips_books.specs.declared.books.Book.{Book}
use Rattle.ips_books.specs.declared.books.Book.TheVariants.{Passwd, Shadow, Group}
use Rattle.ips_meaning.specs.declared.finding.Finding.{Finding}
use Rattle.ips_meaning.specs.declared.finding.Damage.{Damage}
use Rattle.ips_meaning.specs.declared.finding.Damage.TheVariants.{Missing, WrongKind, WrongContent, WrongMode, WrongTarget, NotSame}
use Rattle.ips_syntax.specs.declared.table.Why.{Why}
use Rattle.ips_syntax.specs.declared.table.Why.TheVariants as why
use Rattle.ips_counts.specs.declared.counts.Counts.{Counts}
use Rattle.ips_counts.specs.declared.sorts.Sorts.{Sorts}
use Rattle.ips_report.specs.declared.unsolved.Tried.{Tried}
use Rattle.ips_report.specs.declared.outcome.Outcome.{Outcome}
use Rattle.ips_report.specs.declared.outcome.Outcome.TheVariants.{Usage, Unfinished, BadJournal, Recovered, NoImage, ImageExists, BadImage, OldFormat, NoIndex, NoRepository, BadCatalog, NoMatch, Ambiguous, ManifestMissing, BadManifest, BadDepend, NoSolution, SearchSpent, NothingToDo, Reserved, Clash, BadAccountLine, IdTaken, UnknownOwner, LicenseNeeded, Unmovable, PayloadMissing, PayloadDamaged, Compressed, TooLarge, ActuatorFailed, SpawnFault, SourceFault, FolderFault, Damaged, Done, Shown, OutOfMemory}

-- One line.
abbrev pub line : List ℕ → List ℕ
line text = text ++ 10 ∷ []

-- Words, each behind a blank.
abbrev pub behind_blanks : List (List ℕ) → List ℕ
behind_blanks words = flat_map (λ (word : List ℕ). 32 ∷ word) words

-- A line for each text, which begins so.
abbrev pub prefixed_lines : List ℕ → List (List ℕ) → List ℕ
prefixed_lines front texts = flat_map (λ (text : List ℕ). line (front ++ text)) texts

-- What is wrong with a word.
abbrev pub why_text : Why → List ℕ
why_text why.Missing = codes "missing"
why_text why.Unknown = codes "unknown"
why_text why.Repeated = codes "repeated"
why_text why.BadValue = codes "bad value"
why_text why.Extra = codes "extra"

-- An account file.
abbrev pub book_text : Book → List ℕ
book_text Passwd = codes "passwd"
book_text Shadow = codes "shadow"
book_text Group = codes "group"

-- What is wrong at a path.
abbrev pub damage_text : Damage → List ℕ
damage_text Missing = codes "missing"
damage_text WrongKind = codes "wrong kind"
damage_text WrongContent = codes "wrong content"
damage_text WrongMode = codes "wrong mode"
damage_text WrongTarget = codes "wrong target"
damage_text NotSame = codes "not same"

-- The line of a finding.
abbrev pub finding_text : Finding → List ℕ
finding_text f = line (damage_text f.damage ++ 32 ∷ shown f.path.bytes)

-- Behind the commit, or before it.
abbrev pub when_text : Bool → List ℕ
when_text true = codes "after"
when_text false = codes "before"

-- A candidate behind a blank: its version, or `-` for absence.
abbrev pub candidate_text : Option Parts → List ℕ
candidate_text None = 32 ∷ codes "-"
candidate_text (Some v) = 32 ∷ version_text v

-- The line of a stem: its number, its name and its candidates.
abbrev pub tried_text : ℕ → Tried → List ℕ
tried_text i t = line (codes "stem " ++ decimal i ++ 32 ∷ t.stem ++ flat_map candidate_text t.candidates.items)

-- The lines of stems, of which the first has this number.
abbrev pub tried_texts : ℕ → List Tried → List ℕ
tried_texts i [] = []
tried_texts i (t ∷ tried) = tried_text i t ++ tried_texts (i + 1) tried

-- Three numbers, each behind a text.
abbrev pub three : List ℕ → ℕ → List ℕ → ℕ → List ℕ → ℕ → List ℕ
three a x b y c z = a ++ decimal x ++ b ++ decimal y ++ c ++ decimal z

-- How many packages were installed, updated and removed.
abbrev pub counts_text : Counts → List ℕ
counts_text c = line (three (codes "install ") c.installs (codes ", update ") c.updates (codes ", remove ") c.removes)

-- The steps, by their sorts.
abbrev pub sorts_text : Sorts → List ℕ
sorts_text s = line (three (codes "steps: gone ") s.gone (codes ", fresh ") s.fresh (codes ", mode ") s.mode ++ three (codes ", put ") s.put (codes ", link ") s.link (codes ", hard ") s.hard)

-- When an actuator failed, and with which status.
abbrev pub failed_text : Bool → ℕ → List ℕ
failed_text after status = codes "actuator failed " ++ when_text after ++ codes " " ++ decimal status ++ codes ":"

-- What was changed: the licenses to display, the packages and the steps.
abbrev pub done_text : Counts → Sorts → List (List ℕ) → List ℕ
done_text counts steps licenses = prefixed_lines (codes "license: ") licenses ++ counts_text counts ++ sorts_text steps ++ line (codes "done")

-- What a recovery did.
abbrev pub recovered_text : Bool → List ℕ
recovered_text true = line (codes "recovered: new image")
recovered_text false = line (codes "recovered: leftovers cleared")

-- How far a change came.
abbrev pub folder_text : Bool → List ℕ
folder_text true = line (codes "folder fault: unfinished")
folder_text false = line (codes "folder fault: unchanged")

-- The report of an outcome.
abbrev pub report_text : Outcome → List ℕ
report_text (Usage place why) = line (codes "usage: word " ++ decimal place ++ codes ": " ++ why_text why)
report_text Unfinished = line (codes "unfinished: run fix")
report_text (BadJournal number) = line (codes "bad journal line " ++ decimal number)
report_text (Recovered forward) = recovered_text forward
report_text NoImage = line (codes "no image")
report_text ImageExists = line (codes "image exists")
report_text (BadImage file number) = line (codes "bad image " ++ shown file.bytes ++ codes " line " ++ decimal number)
report_text OldFormat = line (codes "old format: run update-format")
report_text NoIndex = line (codes "no index")
report_text NoRepository = line (codes "no repository")
report_text (BadCatalog fault) = line (codes "bad catalog")
report_text (NoMatch pattern) = line (codes "no match " ++ pattern)
report_text (Ambiguous pattern stems) = line (codes "ambiguous " ++ pattern ++ codes ":" ++ behind_blanks stems.items)
report_text (ManifestMissing fmri) = line (codes "manifest missing " ++ fmri)
report_text (BadManifest fmri fault) = line (codes "bad manifest " ++ fmri ++ codes " line " ++ decimal fault.line)
report_text (BadDepend fmri number) = line (codes "bad depend " ++ fmri ++ codes " line " ++ decimal number)
report_text (NoSolution stems refutation) = line (codes "no solution") ++ tried_texts 0 stems.items ++ refutation_text (entries refutation.nogoods.items)
report_text (SearchSpent limit) = line (codes "search limit " ++ decimal limit ++ codes " spent")
report_text NothingToDo = line (codes "nothing to do")
report_text (Reserved path) = line (codes "reserved " ++ shown path.bytes)
report_text (Clash clash) = line (codes "clash " ++ clash.key ++ codes " " ++ clash.first ++ codes " " ++ clash.second)
report_text (BadAccountLine book number) = line (codes "bad account line " ++ book_text book ++ codes " " ++ decimal number)
report_text (IdTaken id) = line (codes "id taken " ++ decimal id)
report_text (UnknownOwner path name) = line (codes "unknown owner " ++ name ++ codes " of " ++ shown path.bytes)
report_text (LicenseNeeded list) = prefixed_lines (codes "license needed: ") list.items
report_text (Unmovable path) = line (codes "unmovable " ++ shown path.bytes)
report_text (PayloadMissing name) = line (codes "payload missing " ++ spelling name)
report_text (PayloadDamaged name found) = line (codes "payload damaged " ++ spelling name ++ codes " found " ++ spelling found)
report_text (Compressed name found) = line (codes "compressed " ++ spelling name ++ codes " found " ++ spelling found)
report_text (TooLarge which count) = line (codes "too large: " ++ decimal count)
report_text (ActuatorFailed after words status) = line (failed_text after status ++ behind_blanks words)
report_text (SpawnFault after) = line (codes "spawn fault " ++ when_text after)
report_text SourceFault = line (codes "source fault")
report_text (FolderFault unfinished) = folder_text unfinished
report_text (Damaged findings) = flat_map finding_text findings.items ++ line (codes "damaged " ++ decimal (length findings.items))
report_text (Done counts steps licenses) = done_text counts steps licenses.items
report_text (Shown text) = text
report_text OutOfMemory = line (codes "out of memory")

-- The number of an outcome.
abbrev pub outcome_number : Outcome → ℕ
outcome_number (Done counts steps licenses) = 0
outcome_number (Shown text) = 0
outcome_number (Recovered forward) = 0
outcome_number (Usage place why) = 2
outcome_number NothingToDo = 4
outcome_number (LicenseNeeded list) = 6
outcome_number OutOfMemory = 99
outcome_number o = 1

-- A report that wasn't told is a fault of its own, of number 1.
abbrev pub status_number : Outcome → Bool → ℕ
status_number o told = cond told (outcome_number o) 1

-- The outcome may come where no memory may be asked for any more: once a change is staged, or in a recovery behind its first change.
abbrev pub IsLate : Outcome → Type 0
IsLate (Done counts steps licenses) = Unit {0}
IsLate (Recovered forward) = Unit {0}
IsLate (BadJournal number) = Unit {0}
IsLate (ActuatorFailed after words status) = Unit {0}
IsLate (SpawnFault after) = Unit {0}
IsLate (FolderFault unfinished) = Unit {0}
IsLate o = ⊥
