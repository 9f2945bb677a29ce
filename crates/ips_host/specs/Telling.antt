-- Of which objects a fault is told.
use Rattle.std.specs.Prelude.{◌↔◌, ◌<◌, ℕ, IsTrue}
use Rattle.ips_host.specs.declared.telling.Told.{Told}

-- A line was written of just those objects whose count of faults isn't 0.
pub record IsToldOf (told : Told) (image repository spawner report : ℕ) : Type 0 where
  pub of_image : IsTrue told.image ↔ (0 < image)
  pub of_repository : IsTrue told.repository ↔ (0 < repository)
  pub of_spawner : IsTrue told.spawner ↔ (0 < spawner)
  pub of_report : IsTrue told.report ↔ (0 < report)
