-- The text that tells an outcome, and the number that the program ends with.
use Rattle.std.specs.Prelude.{ℕ, Bool, true, false, ◌==◌, if◌then◌else◌, List, [], ◌∷◌, ◌++◌, codes}
use Rattle.std.specs.Fmt.{decimal}
use Rattle.ips_text.specs.Quote.{shown}
use Rattle.ips_syntax.specs.declared.table.Why.{Why}
use Rattle.ips_syntax.specs.declared.table.Why.TheVariants as why
use Rattle.ips_send_report.specs.declared.outcome.SendOutcome.{SendOutcome}
use Rattle.ips_send_report.specs.declared.outcome.SendOutcome.TheVariants.{Usage, BadJournal, Exists, Blocked, NoRepository, BadCatalog, ManifestMissing, BadManifest, ContentMissing, TooLarge, SourceFault, FolderFault, Created, Published, OutOfMemory}
use Rattle.ips_send_report.specs.declared.outcome.SendStatus.{SendStatus}

-- ---- the text

-- one line
abbrev pub line : List ℕ → List ℕ
line text = text ++ 10 ∷ []

-- what is wrong with a word
abbrev pub why_text : Why → List ℕ
why_text why.Missing = codes "missing"
why_text why.Unknown = codes "unknown"
why_text why.Repeated = codes "repeated"
why_text why.BadValue = codes "bad value"
why_text why.Extra = codes "extra"

-- how far a change came
abbrev pub extent_text : Bool → List ℕ
extent_text true = codes "unfinished"
extent_text false = codes "unchanged"

-- the report of an outcome, of words that name this publisher
abbrev pub send_text : List ℕ → SendOutcome → List ℕ
send_text publisher (Usage place why) = line ((codes "usage: word " ++ decimal place ++ codes ": ") ++ why_text why)
send_text publisher (BadJournal number) = line (codes "bad journal line " ++ decimal number)
send_text publisher Exists = line (codes "exists")
send_text publisher (Blocked path) = line (codes "blocked " ++ shown path.bytes)
send_text publisher NoRepository = line (codes "no repository")
send_text publisher (BadCatalog fault) = line (codes "bad catalog")
send_text publisher ManifestMissing = line (codes "no manifest")
send_text publisher (BadManifest fault) = line (codes "bad manifest line " ++ decimal fault.line)
send_text publisher (ContentMissing path) = line (codes "content missing " ++ shown path)
send_text publisher (TooLarge which count) = line (codes "too large: " ++ decimal count)
send_text publisher SourceFault = line (codes "source fault")
send_text publisher (FolderFault unfinished) = line (codes "folder fault: " ++ extent_text unfinished)
send_text publisher Created = line (codes "created " ++ publisher)
send_text publisher (Published fmri) = line (codes "published " ++ fmri)
send_text publisher OutOfMemory = line (codes "out of memory")

-- ---- the number

-- the number of an outcome of which all was told
abbrev pub told_number : SendOutcome → ℕ
told_number (Usage place why) = 2
told_number (BadJournal line) = 1
told_number Exists = 1
told_number (Blocked path) = 1
told_number NoRepository = 1
told_number (BadCatalog fault) = 1
told_number ManifestMissing = 1
told_number (BadManifest fault) = 1
told_number (ContentMissing path) = 1
told_number (TooLarge which count) = 1
told_number SourceFault = 1
told_number (FolderFault unfinished) = 1
told_number Created = 0
told_number (Published fmri) = 0
told_number OutOfMemory = 99

-- the number of an outcome of which not all was told
abbrev pub untold_number : SendOutcome → ℕ
untold_number o = if told_number o == 0 then 1 else told_number o

-- the number of a run
abbrev pub exit_number : SendStatus → ℕ
exit_number s = if s.told then told_number s.outcome else untold_number s.outcome
