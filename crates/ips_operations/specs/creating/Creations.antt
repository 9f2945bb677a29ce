-- The command that makes an image, and the records that it makes it with.
use Rattle.std.specs.Prelude.{◌≡◌, ℕ, ◌<◌, Bool, true, false, cond, IsTrue, List, Option, Some, None}
use Rattle.ips_words.specs.declared.command.Command.{Command}
use Rattle.ips_words.specs.declared.what.What.{What}
use Rattle.ips_words.specs.declared.what.What.TheVariants.{ImageCreate}
use Rattle.ips_state.specs.State.{Recorded, recorded}
use Rattle.ips_state.specs.Records.{with_line}
use Rattle.ips_state.specs.declared.state.State.{State}
use Rattle.ips_asked.specs.Formed.{IsFormedCommand}
use Rattle.ips_asked.specs.Founded.{IsFounded}
use Rattle.ips_next.specs.Next.{IsLineOf}

-- The command makes an image.
abbrev pub makes_image : What → Bool
makes_image (ImageCreate publisher variants facets actuator) = true
makes_image w = false

-- A command that makes an image, and the moment at which it is carried out, so many seconds after the first of January 1970.
pub record Creation : Type 0 where
  pub command : Command
  pub moment : ℕ

-- It can be carried out: its words can be recorded, and so can the moment, which is before the year 9999.
pub record CanBeCarriedOut (a : Creation) : Type 0 where
  pub early : a.moment < 253370764800
  pub formed : IsFormedCommand a.command
  pub makes : IsTrue (makes_image a.command.what)

-- The command at the moment, where it makes an image.
abbrev pub creating_at : Command → ℕ → Option Creation
creating_at c moment = cond (makes_image c.what) (Some (record { command = c; moment = moment })) None

-- The records are those of a new image, with what the command says of it, before its history.
abbrev pub AreFoundedBy : What → Recorded → Type 0
AreFoundedBy (ImageCreate publisher variants facets actuator) r = IsFounded publisher variants.items facets.items actuator r
AreFoundedBy w r = ⊥

-- The state is that of the image that the command makes at the moment: what the command says of it, and its line as the one line of the history.
pub record IsBegun (a : Creation) (s : State) : Type 0 where
  pub founded : Recorded
  pub are_founded : AreFoundedBy a.command.what founded
  pub line : List ℕ
  pub is_line : IsLineOf a.moment a.command.history line
  pub is : recorded s ≡ record founded { history = with_line founded.history line }
