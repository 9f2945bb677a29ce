-- What a mediator's setting and a package consist of.
use Rattle.std.specs.Prelude.{◌≡◌, ℕ, false, List}
use Rattle.ips_fmri.specs.Version.{IsVersion, IfVersion}
use Rattle.ips_fmri.specs.Name.{IsStem}
use Rattle.ips_manifest.specs.Manifest.{IsManifestOf}
use Rattle.ips_mediate.specs.declared.set.SetMediator.{SetMediator}
use Rattle.ips_records.specs.Form.{IsWord, IfMarked}
use Rattle.ips_state.specs.State.{Installed}

-- What may be set of a mediator.
pub record IsSetting (m : SetMediator) : Type 0 where
  pub name : IsWord m.name
  pub version : IfVersion m.version
  pub implementation : IfMarked m.implementation

-- A package that can be recorded: its lines are those of some manifest's text.
pub record IsPackage (p : Installed) : Type 0 where
  pub stem : IsStem false p.stem
  pub version : IsVersion p.version
  pub manifest : (text : List ℕ) × IsManifestOf text p.lines
