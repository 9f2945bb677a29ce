-- Where a changing command leads an image.
use Rattle.std.specs.Prelude.{◌≡◌, ℕ, Bool, IsTrue}
use Rattle.ips_outside.specs.Image.{Image}
use Rattle.ips_steps.specs.Private.{visible}
use Rattle.ips_words.specs.declared.command.Command.{Command}
use Rattle.ips_state.specs.State.{recorded}
use Rattle.ips_state.specs.Lawful.{IsLawful}
use Rattle.ips_state.specs.declared.state.State.{State}
use Rattle.ips_load.specs.Held.{Holds}
use Rattle.ips_next.specs.Next.{IsNext, given}
use Rattle.ips_plan.specs.requested.Meant.{IsMeant}

-- What is seen behind the command: an image whose records tell a state is followed by the image after the request from that state to the one to which the
-- command leads.
pub record Leads (c : Command) (moment : ℕ) (repository before after : Image) : Type 0 where
  pub whole : Image
  pub seen : before ≡ visible whole
  pub old : State
  pub holds : Holds whole (recorded old)
  pub new : State
  pub lawful : IsLawful (recorded new)
  pub next : IsNext (given (recorded old) c moment repository) (recorded new)
  pub meant : IsMeant moment old new repository whole after

-- The same, where the repository tells what it holds.
abbrev pub LeadsWhere : Command → ℕ → Bool → Image → Image → Image → Type 0
LeadsWhere c moment tells repository before after = IsTrue tells → Leads c moment repository before after
