-- What a command that shows decides: each outcome under its cause.
use Rattle.std.specs.Prelude.{◌≡◌, ◌≢◌, ℕ, true, false, Bool, List, [], ◌∷◌, map, Contains, Some, None, codes}
use Rattle.ips_text.specs.declared.text.Text.{Text}
use Rattle.ips_text.specs.declared.path.RelPath.{RelPath}
use Rattle.ips_text.specs.declared.limits.Which.{Which}
use Rattle.std.specs.declared.vec.Vec.{Vec}
use Rattle.std.specs.declared.alloc.Global.{Global}
use Rattle.ips_filter.specs.Settings.{Set}
use Rattle.ips_fmri.specs.declared.pattern.Pattern.{Pattern}
use Rattle.ips_outside.specs.Image.{Image}
use Rattle.ips_records.specs.Lines.{ended, lines_text}
use Rattle.ips_manifest.specs.Manifest.{manifest_text}
use Rattle.ips_manifest.specs.declared.package.Package.{Package}
use Rattle.ips_conflict.specs.declared.clashing.Clash as clashes
use Rattle.ips_meaning.specs.Want.{PackagesMean, PackagesFail}
use Rattle.ips_meaning.specs.declared.entry.Entry.{Entry}
use Rattle.ips_meaning.specs.declared.fault.WantFault.{WantFault}
use Rattle.ips_meaning.specs.declared.fault.WantFault.TheVariants as unwanted
use Rattle.ips_meaning.specs.declared.finding.Finding.{Finding}
use Rattle.ips_after.specs.Findings.{findings}
use Rattle.ips_change.specs.wanted.Wanted.{want_of}
use Rattle.ips_change.specs.wanted.Named.{is_payload_of}
use Rattle.ips_verify.specs.Verified.{finding_told}
use Rattle.ips_index.specs.Rows.{IndexedValue}
use Rattle.ips_index.specs.Text.{AreIndexRows}
use Rattle.ips_index.specs.Scan.{AreFound}
use Rattle.ips_state.specs.State.{recorded}
use Rattle.ips_state.specs.Records.{image_path}
use Rattle.ips_state.specs.declared.state.State.{State}
use Rattle.ips_load.specs.Held.{Holds, HoldsIndex}
use Rattle.ips_load.specs.Fault.{IsHeadFile, StandsAs}
use Rattle.ips_load.specs.declared.fault.StateFault.{StateFault}
use Rattle.ips_load.specs.declared.fault.StateFault.TheVariants as unread
use Rattle.ips_image.specs.Fault.{IsSearchFault}
use Rattle.ips_image.specs.Whole.{IsStateFault}
use Rattle.ips_request.specs.Named.{AreMatched, Names}
use Rattle.ips_shown.specs.Shown.{IsContentsText, found_text, list_text}
use Rattle.ips_shown.specs.Naming.{IsUnnamed, stems_of}
use Rattle.ips_shown.specs.declared.naming.NamingFault.{NamingFault}
use Rattle.ips_shown.specs.declared.naming.NamingFault.TheVariants as naming
use Rattle.ips_report.specs.declared.outcome.Outcome.{Outcome}
use Rattle.ips_report.specs.declared.outcome.Outcome.TheVariants as outcome
use Rattle.ips_run.specs.declared.operation.Decision.{Decision}
use Rattle.ips_run.specs.declared.operation.Decision.TheVariants.{Shown, Refused}
use Rattle.ips_showing.specs.Asked.{Asked, Listing, History, Contents, Verify, Search}

-- Why the records that are asked for can't be read: all of them, or for a search the file `image` and the index.
abbrev pub IsUnread : Asked → Image → StateFault → Type 0
IsUnread Listing t f = IsStateFault t f
IsUnread History t f = IsStateFault t f
IsUnread (Contents pattern manifest) t f = IsStateFault t f
IsUnread Verify t f = IsStateFault t f
IsUnread (Search pattern) t f = IsSearchFault t f

-- The records of the image tell this state.
pub record Loaded (t : Image) : Type 0 where
  pub state : State
  pub holds : Holds t (recorded state)

-- The pattern names this installed package, and no other.
pub record IsNamed (s : State) (pattern : Pattern) (p : Package) : Type 0 where
  pub stands : Contains s.installed.items p
  pub named : Names s.publisher (stems_of s.installed.items) pattern (p.stem ∷ [])

-- The text of a package: its manifest, or the paths that it delivers.
abbrev pub IsPackageText : Bool → Set → Package → Text → Type 0
IsPackageText true settings p text = text ≡ manifest_text p.manifest.lines.items
IsPackageText false settings p text = IsContentsText settings p.manifest.lines.items text

-- The pattern names no installed package, or not one alone, for this cause.
abbrev pub IsNotNamed : State → Pattern → NamingFault → Type 0
IsNotNamed s pattern why = (matched : List (List ℕ)) × AreMatched s.publisher pattern (stems_of s.installed.items) matched × IsUnnamed pattern matched why

-- The installed packages mean no image, for this cause.
abbrev pub AreUnmeant : State → WantFault → Type 0
AreUnmeant s why = PackagesFail s.settings s.mediators.items s.installed.items why

-- The installed packages mean these entries, and these are the findings in the image against them.
pub record AreCompared (t : Image) (s : State) (found : List Finding) : Type 0 where
  pub entries : List (List ℕ × Entry)
  pub mean : PackagesMean s.settings s.mediators.items s.installed.items entries
  pub found_are : map finding_told found ≡ findings is_payload_of (want_of entries) t

-- The image has an index, of these rows, and its file `image` is good.
pub record HasIndex (t : Image) (rows : List IndexedValue) : Type 0 where
  pub head : StandsAs IsHeadFile t image_path
  pub rows_are : AreIndexRows rows
  pub stands : HoldsIndex t (Some rows)

-- Of the rows of the image's index these have a token that the pattern matches.
pub record AreFoundIn (t : Image) (pattern : List ℕ) (found : List IndexedValue) : Type 0 where
  pub rows : List IndexedValue
  pub index : HasIndex t rows
  pub found_are : AreFound pattern rows found

-- What is decided where an image is shown: records that can't be read come first, then what each command finds in them.
pub data Shows (t : Image) : Asked → Decision Outcome → Type 0 where
  NoImage : {a : Asked} → IsUnread a t unread.NoImage → Shows t a (Refused outcome.NoImage)
  BadImage : {a : Asked} {file : RelPath} {line : ℕ} → IsUnread a t (unread.BadImage file line) → Shows t a (Refused (outcome.BadImage file line))
  TooLarge : {a : Asked} {which : Which} {count : ℕ} → IsUnread a t (unread.TooLarge which count) → Shows t a (Refused (outcome.TooLarge which count))
  Listed : (l : Loaded t) → Shows t Listing (Shown (outcome.Shown (list_text l.state.installed.items)))
  Remembered : (l : Loaded t) → Shows t History (Shown (outcome.Shown (lines_text l.state.history.items)))
  Delivered : {pattern : Pattern} {manifest : Bool} {text : Text} (l : Loaded t) (p : Package) → IsNamed l.state pattern p → IsPackageText manifest l.state.settings p text
      → Shows t (Contents pattern manifest) (Shown (outcome.Shown text))
  NoMatch : {pattern : Pattern} {manifest : Bool} {text : Text} (l : Loaded t) → IsNotNamed l.state pattern (naming.NoMatch text) → Shows t (Contents pattern manifest) (Refused (outcome.NoMatch text))
  Ambiguous : {pattern : Pattern} {manifest : Bool} {text : Text} {stems : Vec Text Global} (l : Loaded t) → IsNotNamed l.state pattern (naming.Ambiguous text stems)
      → Shows t (Contents pattern manifest) (Refused (outcome.Ambiguous text stems))
  Reserved : {path : RelPath} (l : Loaded t) → AreUnmeant l.state (unwanted.Reserved path) → Shows t Verify (Refused (outcome.Reserved path))
  Clash : {clash : clashes.Clash} (l : Loaded t) → AreUnmeant l.state (unwanted.Clash clash) → Shows t Verify (Refused (outcome.Clash clash))
  Damaged : {found : Vec Finding Global} (l : Loaded t) → AreCompared t l.state found.items → found.items ≢ [] → Shows t Verify (Refused (outcome.Damaged found))
  Sound : (l : Loaded t) → AreCompared t l.state [] → Shows t Verify (Shown (outcome.Shown (ended (codes "ok"))))
  NoIndex : {pattern : Text} → StandsAs IsHeadFile t image_path → HoldsIndex t None → Shows t (Search pattern) (Refused outcome.NoIndex)
  NotFound : {pattern : Text} → AreFoundIn t pattern [] → Shows t (Search pattern) (Refused (outcome.NoMatch pattern))
  Found : {pattern : Text} {found : List IndexedValue} → AreFoundIn t pattern found → found ≢ [] → Shows t (Search pattern) (Shown (outcome.Shown (found_text found)))
