-- A run that makes no call at the gate that may change something.
use Rattle.std.specs.Prelude.{◌≡◌, IsTrue}
use Rattle.ips_outside.specs.Outside.{Outside}
use Rattle.ips_folder.specs.Calls.{Throughout}
use Rattle.ips_history.specs.Directories.{creates}
use Rattle.ips_history.specs.Run.{HasOpened}
use Rattle.ips_history.specs.declared.effect.Effect.{Effect}
use Rattle.ips_run.specs.Phases.{StaysSafelyShut}
use Rattle.ips_run.specs.Creating.{IsMade, IsMakingInPart}

-- No call that may change something was made at the gate. Nothing has happened to the image at any moment. Or since the opening sync has answered
-- there was no moment at which something stood at the gate, or would have after a crash; for a command that makes an image, and makes directories
-- of its records, since these are safe: before that the gate isn't spoken of. Or they never were safe, and then it isn't either.
pub data NeverOpens {F : Type 0} (o : Outside F) (effect : Effect) (old new : F) : Type 0 where
  Unsynced : Throughout o old new (λ s. s ≡ o.state old) → NeverOpens o effect old new
  Synced : (opened : HasOpened o old new) → StaysSafelyShut o opened.at new → NeverOpens o effect old new
  Made : IsTrue (creates effect) → (opened : HasOpened o old new) → (at : F) → IsMade o opened.at at → StaysSafelyShut o at new → NeverOpens o effect old new
  MadeInPart : IsTrue (creates effect) → (opened : HasOpened o old new) → IsMakingInPart o opened.at new → NeverOpens o effect old new
