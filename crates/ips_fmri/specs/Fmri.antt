-- The names of packages (FMRIs): pkg://publisher/stem@version, pkg:/stem@version or stem@version, where the part from `@` may be absent.
-- A pattern is written as an FMRI with wildcards in its stem, or with a `/` before it.
use Rattle.std.specs.Prelude.{◌≡◌, ℕ, ◌⊎◌, Bool, true, false, List, [], ◌∷◌, ◌++◌, Option, Some, None, codes}
use Rattle.ips_text.specs.Quote.{fits_name}
use Rattle.ips_fmri.specs.declared.fmri.Fmri.{Fmri}
use Rattle.ips_fmri.specs.declared.pattern.Pattern.{Pattern}
use Rattle.ips_fmri.specs.Version.{Parts, version_text, AreParts, IfVersion}
use Rattle.ips_fmri.specs.Name.{IsComponent, IsPublisher, HasStemForm, IsStem}

-- how a version behind `@` is written: not at all where there is none
abbrev pub version_part_text : Option Parts → List ℕ
version_part_text None = []
version_part_text (Some v) = 64 ∷ version_text v

-- what may be written before the stem, for this publisher or none, and for a name that is anchored or isn't
abbrev pub IsLead : Bool → Option (List ℕ) → Bool → List ℕ → Type 0
IsLead wild None false lead = lead ≡ []
IsLead wild None true lead = (lead ≡ codes "pkg:/") ⊎ ((wild ≡ true) × (lead ≡ codes "/"))
IsLead wild (Some publisher) anchored lead = (anchored ≡ true) × (lead ≡ codes "pkg://" ++ publisher ++ 47 ∷ [])

-- the publisher is one, where it is there
abbrev pub IfPublisher : Option (List ℕ) → Type 0
IfPublisher None = Unit {0}
IfPublisher (Some publisher) = IsPublisher publisher

-- what a name, of a package or a pattern, consists of
pub record IsName (wild : Bool) (name : Pattern) : Type 0 where
  pub publisher : IfPublisher name.publisher
  pub stem : IsStem wild name.stem
  pub version : IfVersion name.version

-- the text is a way to write the name
abbrev pub Writes : Bool → Pattern → List ℕ → Type 0
Writes wild name text = (lead : List ℕ) × IsLead wild name.publisher name.anchored lead × (text ≡ lead ++ name.stem ++ version_part_text name.version)

-- an FMRI as a name; it isn't kept whether `pkg:/` stood before it
abbrev pub as_name : Bool → Fmri → Pattern
as_name anchored f = record { publisher = f.publisher; anchored = anchored; stem = f.stem; version = f.version }

-- what an FMRI consists of
abbrev pub IsFmri : Fmri → Type 0
IsFmri f = IsName false (as_name true f)

-- the text is a way to write the FMRI: with `pkg:/` or without, where there is no publisher
abbrev pub WritesFmri : Fmri → List ℕ → Type 0
WritesFmri f text = (anchored : Bool) × Writes false (as_name anchored f) text

-- what is written before the stem in the canonical spelling: `pkg://` and the publisher, else `pkg:/` where the name is anchored
abbrev pub lead_text : Option (List ℕ) → Bool → List ℕ
lead_text (Some publisher) anchored = codes "pkg://" ++ publisher ++ 47 ∷ []
lead_text None true = codes "pkg:/"
lead_text None false = []

-- the canonical spelling of an FMRI: without a publisher it begins with the stem
abbrev pub fmri_text : Fmri → List ℕ
fmri_text f = lead_text f.publisher false ++ f.stem ++ version_part_text f.version

-- ---- where a text goes wrong

-- what may stand behind a stem: only behind one that isn't too long a version, however long
abbrev pub MayFollow : List ℕ → Option Parts → Type 0
MayFollow stem None = Unit {0}
MayFollow stem (Some v) = (fits_name stem ≡ true) × AreParts v

-- the text ends behind the publisher
abbrev pub EndsWithPublisher : List ℕ → Type 0
EndsWithPublisher text = (publisher : List ℕ) × IsComponent false publisher × (text ≡ codes "pkg://" ++ publisher)

-- the text ends behind the stem or the version
pub record EndsWithName (wild : Bool) (text : List ℕ) : Type 0 where
  pub publisher : Option (List ℕ)
  pub anchored : Bool
  pub lead : List ℕ
  pub stem : List ℕ
  pub version : Option Parts
  pub published : IfPublisher publisher
  pub led : IsLead wild publisher anchored lead
  pub form : HasStemForm wild stem
  pub followed : MayFollow stem version
  pub written : text ≡ lead ++ stem ++ version_part_text version

-- the text is a name, or ends behind one of its parts, and only the part at the end may be too long: so nothing goes on behind a part that is too long
abbrev pub EndsWithPart : Bool → List ℕ → Type 0
EndsWithPart wild text = EndsWithPublisher text ⊎ EndsWithName wild text
