-- What is promised of a call that chooses packages.
use Rattle.std.specs.Prelude.{map}
use Rattle.ips_state.specs.Lawful.{ArePackages, AreStems, IsLawful}
use Rattle.ips_state.specs.State.{Recorded, installed}
use Rattle.ips_words.specs.declared.what.What.{What}
use Rattle.ips_asked.specs.Asked.{IsAskedBy}
use Rattle.ips_next.specs.declared.deciding.Chosen.{Chosen}

-- Packages can be chosen for what a command asks: it asks for the second records on the first ones, and both can be recorded.
pub record CanBeDecided (w : What) (before after : Recorded) : Type 0 where
  pub old : IsLawful before
  pub asked : IsLawful after
  pub asked_by : IsAskedBy w before after

-- What is chosen can be recorded: the packages, and the stems that are avoided.
pub record IsLawfulChoice (chosen : Chosen) : Type 0 where
  pub packages : ArePackages (map installed chosen.packages.items)
  pub stems : AreStems chosen.avoid.items
