-- The states that records have texts for.
use Rattle.std.specs.Prelude.{◌≡◌, ◌⊎◌, ℕ, false, List, [], ◌∷◌, map, IfSome}
use Rattle.std.specs.List.{AllByRecursion}
use Rattle.ips_index.specs.Text.{AreIndexRows}
use Rattle.ips_fmri.specs.Name.{IsPublisher, IsStem}
use Rattle.ips_fmri.specs.declared.fmri.Fmri.{Fmri}
use Rattle.ips_filter.specs.Settings.{Set, IsSet}
use Rattle.ips_mediate.specs.declared.set.SetMediator.{SetMediator}
use Rattle.ips_state.specs.declared.state.Origin.{Origin}
use Rattle.ips_state.specs.State.{Installed, Head, Recorded, head_of, Ascend}
use Rattle.ips_records.specs.Form.{IsWord, IfWord, IsNamed, IsRequestLine}
use Rattle.ips_state.specs.Form.{IsSetting, IsPackage}

-- No two of the texts are equal.
abbrev pub Differ : List (List ℕ) → Type 0
Differ [] = Unit {0}
Differ (text ∷ texts) = AllByRecursion (λ other. text ≡ other → ⊥) texts × Differ texts

-- The origins are publishers, each named once; format 1 has none.
pub record AreOrigins (format : ℕ) (origins : List Origin) : Type 0 where
  pub each : AllByRecursion (λ (o : Origin). IsPublisher o.name) origins
  pub once : Differ (map (λ (o : Origin). o.name) origins)
  pub none : format ≡ 1 → origins ≡ []

-- Variants and facets are set by name, and have words as names and values.
pub record AreSettings (s : Set) : Type 0 where
  pub ordered : IsSet s
  pub variants : AllByRecursion (λ (v : List ℕ × List ℕ). IsWord v.0 × IsWord v.1) s.variants
  pub facets : AllByRecursion (λ f. IsWord f.0) s.facets

-- What an image may be by itself.
pub record IsHead (h : Head) : Type 0 where
  pub format : (h.format ≡ 1) ⊎ (h.format ≡ 2)
  pub publisher : IsPublisher h.publisher
  pub origins : AreOrigins h.format h.origins
  pub actuator : IfWord h.actuator
  pub settings : AreSettings h.settings

-- Stems by their bytes, each once.
pub record AreStems (stems : List (List ℕ)) : Type 0 where
  pub each : AllByRecursion (IsStem false) stems
  pub order : Ascend stems

-- Stems at a version, by the bytes of the stems, each stem once.
pub record AreVersioned (names : List Fmri) : Type 0 where
  pub each : AllByRecursion IsNamed names
  pub order : Ascend (map (λ (f : Fmri). f.stem) names)

-- Settings of mediators, by the bytes of their names, each name once.
pub record AreMediators (mediators : List SetMediator) : Type 0 where
  pub each : AllByRecursion IsSetting mediators
  pub order : Ascend (map (λ (m : SetMediator). m.name) mediators)

-- Packages by the bytes of their stems, each stem once.
pub record ArePackages (packages : List Installed) : Type 0 where
  pub each : AllByRecursion IsPackage packages
  pub order : Ascend (map (λ (p : Installed). p.stem) packages)

-- The records are such that the grammars of their files have texts for them: each text has its form, and lists are in order.
pub record IsLawful (r : Recorded) : Type 0 where
  pub head : IsHead (head_of r)
  pub installed : ArePackages r.installed
  pub avoid : AreStems r.avoid
  pub freeze : AreVersioned r.freeze
  pub mediators : AreMediators r.mediators
  pub history : AllByRecursion IsRequestLine r.history
  pub index : IfSome r.index AreIndexRows
