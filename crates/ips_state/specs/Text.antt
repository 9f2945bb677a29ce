-- The lines of each record, in their one spelling.
use Rattle.std.specs.Prelude.{ℕ, Bool, if◌then◌else◌, List, [], ◌∷◌, ◌++◌, map, Option, Some, None, codes}
use Rattle.std.specs.Fmt.{decimal}
use Rattle.ips_text.specs.Quote.{quoted}
use Rattle.ips_fmri.specs.Version.{Parts, version_text}
use Rattle.ips_fmri.specs.Fmri.{fmri_text}
use Rattle.ips_fmri.specs.declared.fmri.Fmri.{Fmri}
use Rattle.ips_manifest.specs.Manifest.{manifest_text}
use Rattle.ips_manifest.specs.declared.line.Line.{Line}
use Rattle.ips_mediate.specs.declared.set.SetMediator.{SetMediator}
use Rattle.ips_state.specs.declared.state.Origin.{Origin}
use Rattle.ips_state.specs.State.{Installed, Head}
use Rattle.ips_records.specs.Lines.{ended}
use Rattle.ips_records.specs.Field.{version_field, word_field}

-- ---- the file `image`

-- Its first line tells the format of the records.
abbrev pub format_line : ℕ → List ℕ
format_line format = codes "image " ++ decimal format

-- The publisher.
abbrev pub publisher_line : List ℕ → List ℕ
publisher_line publisher = codes "publisher " ++ publisher

-- An origin: a publisher, and whether installed packages stay with it.
abbrev pub origin_line : Origin → List ℕ
origin_line o = codes "origin " ++ o.name ++ 32 ∷ (if o.sticky then codes "sticky" else codes "free")

-- The actuator word: no line where none is set.
abbrev pub actuator_lines : Option (List ℕ) → List (List ℕ)
actuator_lines None = []
actuator_lines (Some word) = (codes "actuator " ++ quoted word) ∷ []

-- The value of a variant.
abbrev pub variant_line : List ℕ × List ℕ → List ℕ
variant_line v = codes "variant " ++ quoted v.0 ++ 32 ∷ quoted v.1

-- A facet's pattern, on or off.
abbrev pub facet_line : List ℕ × Bool → List ℕ
facet_line f = codes "facet " ++ quoted f.0 ++ 32 ∷ (if f.1 then codes "true" else codes "false")

-- The lines of the file `image`.
abbrev pub head_lines : Head → List (List ℕ)
head_lines h = format_line h.format ∷ publisher_line h.publisher ∷ map origin_line h.origins
    ++ actuator_lines h.actuator ++ map variant_line h.settings.variants ++ map facet_line h.settings.facets

-- ---- lists of one line each

-- A package without its manifest: its stem and its version.
abbrev pub versioned_stem : Installed → Fmri
versioned_stem p = record { publisher = None; stem = p.stem; version = Some p.version }

-- The lines of installed packages and of freezes: `stem@version`.
abbrev pub name_lines : List Fmri → List (List ℕ)
name_lines names = map fmri_text names

-- What is set of a mediator.
abbrev pub mediator_line : SetMediator → List ℕ
mediator_line m = quoted m.name ++ 32 ∷ (version_field m.version ++ 32 ∷ word_field m.implementation)

-- ---- packages in format 2

-- The first two lines of a package's record.
abbrev pub package_head : Parts → List ℕ
package_head v = ended (codes "package 2") ++ ended (codes "version " ++ version_text v)

-- The record of a package: its version, then its canonical manifest.
abbrev pub package_text : Parts → List Line → List ℕ
package_text v lines = package_head v ++ manifest_text lines
