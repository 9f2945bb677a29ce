-- The command that repairs an image.
use Rattle.std.specs.Prelude.{◌≡◌, ℕ, ◌<◌, Bool, true, false, cond, IsTrue, List, Option, Some, None}
use Rattle.ips_words.specs.declared.command.Command.{Command}
use Rattle.ips_words.specs.declared.what.What.{What}
use Rattle.ips_words.specs.declared.what.What.TheVariants.{Fix}
use Rattle.ips_state.specs.Records.{with_line}
use Rattle.ips_state.specs.declared.state.State.{State}
use Rattle.ips_asked.specs.Formed.{IsFormedCommand}
use Rattle.ips_next.specs.Next.{IsLineOf}

-- The command repairs an image.
abbrev pub repairs : What → Bool
repairs Fix = true
repairs w = false

-- A command that repairs an image, and the moment at which it is carried out, so many seconds after the first of January 1970.
pub record Repairing : Type 0 where
  pub command : Command
  pub moment : ℕ

-- It can be carried out: its words can be recorded, and so can the moment, which is before the year 9999.
pub record CanBeCarriedOut (a : Repairing) : Type 0 where
  pub early : a.moment < 253370764800
  pub formed : IsFormedCommand a.command
  pub fixes : IsTrue (repairs a.command.what)

-- The command at the moment, where it repairs an image.
abbrev pub fixing_at : Command → ℕ → Option Repairing
fixing_at c moment = cond (repairs c.what) (Some (record { command = c; moment = moment })) None

-- The new state is the old one with the line of the command behind its history, and nothing else differs.
pub record IsNoted (a : Repairing) (old new : State) : Type 0 where
  pub line : List ℕ
  pub is_line : IsLineOf a.moment a.command.history line
  pub history : new.history.items ≡ with_line old.history.items line
  pub rest : new ≡ record old { history = new.history }
