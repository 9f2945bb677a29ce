-- The words of `send`: what they ask for, and where they go wrong.
use Rattle.std.specs.Prelude.{◌≡◌, ℕ, ◌+◌, ◌*◌, ◌<◌, ◌≤◌, ◌==◌, ◌⊎◌, Bool, false, IsTrue, IsFalse, List, [], ◌∷◌, ◌++◌, length, take, slice_get, Option, Some, None, pos, codes}
use Rattle.jiff_core.specs.declared.civil.datetime.DateTime.{DateTime}
use Rattle.jiff_core.specs.DateTime.{civil_nanos}
use Rattle.ips_text.specs.Path.{IsPath}
use Rattle.ips_fmri.specs.declared.fmri.Fmri.{Fmri}
use Rattle.ips_fmri.specs.Name.{IsPublisher}
use Rattle.ips_fmri.specs.Fmri.{IsFmri, WritesFmri}
use Rattle.ips_fmri.specs.Version.{Parts, IsVersion}
use Rattle.ips_moment.specs.Moment.{stamp_number}
use Rattle.ips_syntax.specs.declared.table.Why.{Why}
use Rattle.ips_syntax.specs.declared.table.Why.TheVariants.{Missing, Unknown, BadValue, Extra}
use Rattle.ips_send_words.specs.declared.request.Request.{Request}
use Rattle.ips_send_words.specs.declared.request.Request.TheVariants.{Create, Publish}
use Rattle.ips_send_words.specs.Form.{Word, Form, AreOf, Begin}

-- ---- the version that is published

-- The number is the timestamp of a moment: that of the date and the time of day which a clock in UTC shows so many seconds after the first of January 1970.
abbrev pub IsStampOf : ℕ → ℕ → Type 0
IsStampOf moment stamp = (clock : DateTime) × (civil_nanos clock ≡ pos (moment * 1_000_000_000)) × (stamp ≡ stamp_number clock)

-- the version with this timestamp
abbrev pub with_stamp : Parts → ℕ → Parts
with_stamp v stamp = record { release = v.release; build = v.build; branch = v.branch; stamp = Some stamp }

-- a version as it is published: one without a timestamp gets that of the moment
abbrev pub IsStampedAs : Option ℕ → ℕ → Parts → Parts → Type 0
IsStampedAs (Some stamp) moment given version = version ≡ given
IsStampedAs None moment given version = (stamp : ℕ) × IsStampOf moment stamp × (version ≡ with_stamp given stamp)

-- The word names a version of a stem, and a publisher, for it to be published at the moment.
pub record Names (moment : ℕ) (word publisher stem : List ℕ) (version : Parts) : Type 0 where
  pub fmri : Fmri
  pub is : IsFmri fmri
  pub written : WritesFmri fmri word
  pub publisher_is : fmri.publisher ≡ Some publisher
  pub stem_is : fmri.stem ≡ stem
  pub given : Parts
  pub given_is : fmri.version ≡ Some given
  pub stamped : IsStampedAs given.stamp moment given version
  pub is_version : IsVersion version

-- ---- the forms

-- this word
abbrev pub Is : Word → Word → Type 0
Is text word = word ≡ text

-- any word
abbrev pub IsAny : Word → Type 0
IsAny word = Unit {0}

-- the word begins with `-`
abbrev pub begins_with_dash : Word → Bool
begins_with_dash [] = false
begins_with_dash (byte ∷ word) = byte == 45

-- the path of a manifest; it doesn't begin with `-`
abbrev pub IsManifestPath : Word → Type 0
IsManifestPath word = IsPath word × IsFalse (begins_with_dash word)

-- some version, to be published at the moment
abbrev pub NamesSome : ℕ → Word → Type 0
NamesSome moment word = (publisher : List ℕ) × (stem : List ℕ) × (version : Parts) × Names moment word publisher stem version

-- `send -s <repository> -d <folder>`
abbrev pub front_form : Form
front_form = Is (codes "send") ∷ Is (codes "-s") ∷ IsAny ∷ Is (codes "-d") ∷ IsAny ∷ []

-- behind that `create <publisher>`
abbrev pub create_form : Form
create_form = front_form ++ Is (codes "create") ∷ IsPublisher ∷ []

-- or `publish <fmri> <path>`
abbrev pub publish_form : ℕ → Form
publish_form moment = front_form ++ Is (codes "publish") ∷ NamesSome moment ∷ IsManifestPath ∷ []

-- ---- what the words ask for

-- the words ask for this, at the moment
abbrev pub Asks : ℕ → List Word → Request → Type 0
Asks moment words (Create publisher) = AreOf create_form words × (slice_get words 6 ≡ Some publisher)
Asks moment words (Publish publisher stem version path) =
    AreOf (publish_form moment) words × ((word : Word) × (slice_get words 6 ≡ Some word) × Names moment word publisher stem version) × (slice_get words 7 ≡ Some path.bytes)

-- ---- where they go wrong

-- the words are the first ones of one of the forms
abbrev pub BeginEither : ℕ → List Word → Type 0
BeginEither moment words = Begin create_form words ⊎ Begin (publish_form moment) words

-- an operand stands at the place: the publisher, or the version and the path
abbrev pub IsOperand : List Word → ℕ → Type 0
IsOperand words place = (place ≡ 6) ⊎ ((place ≡ 7) × (slice_get words 5 ≡ Some (codes "publish")))

-- What is wrong at a place: a word is missing behind the last one; a word is no word of the forms, or begins with `-` in the place of an operand; an operand is a bad
-- value; or a word stands behind the last operand.
pub data IsWhy (words : List Word) (place : ℕ) : Why → Type 0 where
  Ends : place ≡ length words → IsWhy words place Missing
  IsNoWord : place < 6 → place < length words → IsWhy words place Unknown
  IsOption : (word : Word) → IsOperand words place → slice_get words place ≡ Some word → IsTrue (begins_with_dash word) → IsWhy words place Unknown
  IsNoValue : (word : Word) → IsOperand words place → slice_get words place ≡ Some word → IsFalse (begins_with_dash word) → IsWhy words place BadValue
  IsBehind : 6 ≤ place → (IsOperand words place → ⊥) → place < length words → IsWhy words place Extra

-- The words ask for nothing, and this is the first place at which no words of either form go on: a word is missing there, or that one is wrong.
pub record IsUsage (moment : ℕ) (words : List Word) (place : ℕ) (why : Why) : Type 0 where
  pub within : place ≤ length words
  pub begins : BeginEither moment (take place words)
  pub stops : place < length words → BeginEither moment (take (place + 1) words) → ⊥
  pub neither : (request : Request) → Asks moment words request → ⊥
  pub cause : IsWhy words place why
