-- The image that is made.
use Rattle.std.specs.Prelude.{◌≡◌, ℕ, List, [], None}
use Rattle.ips_outside.specs.Image.{Image}
use Rattle.ips_state.specs.State.{Recorded}
use Rattle.ips_state.specs.declared.state.State.{State}
use Rattle.ips_after.specs.After.{over_or}
use Rattle.ips_after.specs.Change.{Changes, Kept, changed}
use Rattle.ips_change.specs.wanted.Named.{is_payload_of}
use Rattle.ips_due.specs.Delivered.{creation_due}
use Rattle.ips_due.specs.Due.{said}

-- The state of an image in which nothing is installed yet: its records are of format 2, and it has no index.
pub record IsBlank (s : State) : Type 0 where
  pub format : s.format ≡ 2
  pub none_installed : s.installed.items ≡ []
  pub no_index : s.index ≡ None

-- The bytes of payloads, of which none is due where an image is made.
abbrev pub no_payloads : List ℕ → List ℕ
no_payloads payload = []

-- What becomes of a path where an image is made: what is due there is laid, where it doesn't stand as it should, and every other path is kept.
abbrev pub made_at : Recorded → Image → Changes
made_at new t q = over_or (said no_payloads is_payload_of (creation_due new) t q) Kept

-- The image that is made with these records of one in which the folder of the records stands.
abbrev pub image_made : Recorded → Image → Image
image_made new t = changed (made_at new t) [] t
