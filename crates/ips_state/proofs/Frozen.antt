-- What a lawful state keeps at a version has one.
use Rattle.std.proofs.Common.{◌≡◌, List, [], ◌∷◌, Option, Some, None, IsTrue, is_some, refl}
use Rattle.std.specs.List.{AllByRecursion}
use Rattle.ips_fmri.specs.Version.{Parts}
use Rattle.ips_fmri.specs.declared.fmri.Fmri.{Fmri}
use Rattle.ips_records.specs.Form.{IsNamed, HasVersion}
use Rattle.ips_state.specs.State.{Recorded, IsOrdered}
use Rattle.ips_state.specs.Lawful.{IsLawful}

has_some : (v : Option Parts) → HasVersion v → IsTrue (is_some v)
has_some None h = absurd h
has_some (Some v) h = refl

all_frozen : (names : List Fmri) → AllByRecursion IsNamed names → AllByRecursion (λ (f : Fmri). IsTrue (is_some f.version)) names
all_frozen [] all = tt
all_frozen (f ∷ names) all = (has_some f.version all.0.version, all_frozen names all.1)

pub lawful_ordered : (r : Recorded) → IsLawful r → IsOrdered r
lawful_ordered r h = record { installed = h.installed.order; avoid = h.avoid.order; freeze = h.freeze.order; frozen = all_frozen r.freeze h.freeze.each }
