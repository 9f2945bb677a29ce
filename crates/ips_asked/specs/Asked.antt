-- What a command asks of an image's records, part by part.
use Rattle.std.specs.Prelude.{◌≡◌, ℕ, not, ◌&&◌, ◌||◌, List, [], ◌∷◌, map, filter}
use Rattle.std.specs.Str.{bytes_eq}
use Rattle.ips_fmri.specs.declared.fmri.Fmri.{Fmri}
use Rattle.ips_filter.specs.Settings.{Set}
use Rattle.ips_mediate.specs.declared.set.SetMediator as mediate
use Rattle.ips_state.specs.declared.state.Origin.{Origin}
use Rattle.ips_state.specs.State.{Installed, Recorded, Ascend}
use Rattle.ips_request.specs.Stems.{has}
use Rattle.ips_words.specs.declared.what.What.{What}
use Rattle.ips_words.specs.declared.what.What.TheVariants.{ChangeFacet, ChangeVariant, SetMediator, UnsetMediator, Avoid, Unavoid, Freeze, Unfreeze, SetPublisher, UnsetPublisher, UpdateFormat}
use Rattle.ips_asked.specs.Named.{ArePutIn}
use Rattle.ips_asked.specs.Set.{AreFacetsSet, AreVariantsSet}
use Rattle.ips_asked.specs.Origins.{origins_set, origins_unset}

-- The format of the records that is asked for: the second, at `update-format`.
abbrev pub format_asked : What → ℕ → ℕ
format_asked UpdateFormat old = 2
format_asked w old = old

-- The origins that are asked for.
abbrev pub origins_asked : What → List ℕ → List Origin → List Origin
origins_asked (SetPublisher name first sticky) publisher old = origins_set publisher name first sticky old
origins_asked (UnsetPublisher name) publisher old = origins_unset publisher name old
origins_asked w publisher old = old

-- The variants and facets that are asked for.
abbrev pub AreSettingsAsked : What → Set → Set → Type 0
AreSettingsAsked (ChangeFacet facets accept) old new = AreFacetsSet facets.items old new
AreSettingsAsked (ChangeVariant name value accept) old new = AreVariantsSet (record { name = name; value = value } ∷ []) old new
AreSettingsAsked w old new = new ≡ old

-- the stems of the installed packages
abbrev pub stems_installed : List Installed → List (List ℕ)
stems_installed packages = map (λ (p : Installed). p.stem) packages

-- The list has the avoided stems and those of these that aren't installed, by their bytes.
pub record AreAvoidedToo (stems : List (List ℕ)) (packages : List Installed) (old new : List (List ℕ)) : Type 0 where
  pub order : Ascend new
  pub each : (stem : List ℕ) → has stem new ≡ (has stem old || (has stem stems && not (has stem (stems_installed packages))))

-- The stems that are to be avoided.
abbrev pub IsAvoidAsked : What → List Installed → List (List ℕ) → List (List ℕ) → Type 0
IsAvoidAsked (Avoid stems) packages old new = AreAvoidedToo stems.items packages old new
IsAvoidAsked (Unavoid stems) packages old new = new ≡ filter (λ stem. not (has stem stems.items)) old
IsAvoidAsked w packages old new = new ≡ old

-- The freezes that are asked for.
abbrev pub IsFreezeAsked : What → List Fmri → List Fmri → Type 0
IsFreezeAsked (Freeze freezes) old new = ArePutIn (λ (f : Fmri). f.stem) freezes.items old new
IsFreezeAsked (Unfreeze stems) old new = new ≡ filter (λ (f : Fmri). not (has f.stem stems.items)) old
IsFreezeAsked w old new = new ≡ old

-- The settings of mediators that are asked for.
abbrev pub AreMediatorsAsked : What → List mediate.SetMediator → List mediate.SetMediator → Type 0
AreMediatorsAsked (SetMediator name version implementation) old new =
    ArePutIn (λ (m : mediate.SetMediator). m.name) (record { name = name; version = version; implementation = implementation } ∷ []) old new
AreMediatorsAsked (UnsetMediator name) old new = new ≡ filter (λ (m : mediate.SetMediator). not (bytes_eq m.name name)) old
AreMediatorsAsked w old new = new ≡ old

-- What a command asks of an image's records: settings, lists, origins and format, each as it says, and all else as it was.
pub record IsAskedBy (w : What) (old new : Recorded) : Type 0 where
  pub format : new.format ≡ format_asked w old.format
  pub publisher : new.publisher ≡ old.publisher
  pub origins : new.origins ≡ origins_asked w old.publisher old.origins
  pub actuator : new.actuator ≡ old.actuator
  pub settings : AreSettingsAsked w old.settings new.settings
  pub installed : new.installed ≡ old.installed
  pub avoid : IsAvoidAsked w old.installed old.avoid new.avoid
  pub freeze : IsFreezeAsked w old.freeze new.freeze
  pub mediators : AreMediatorsAsked w old.mediators new.mediators
  pub history : new.history ≡ old.history
  pub index : new.index ≡ old.index
