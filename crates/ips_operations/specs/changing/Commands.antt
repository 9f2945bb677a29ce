-- The commands that change an image.
use Rattle.std.specs.Prelude.{ℕ, ◌<◌, Bool, true, false, cond, IsTrue, Option, Some, None}
use Rattle.ips_words.specs.declared.command.Command.{Command}
use Rattle.ips_words.specs.declared.what.What.{What}
use Rattle.ips_words.specs.declared.what.What.TheVariants.{Install, Update, Uninstall, ChangeFacet, ChangeVariant, SetMediator, UnsetMediator, Avoid, Unavoid, Freeze, Unfreeze, SetPublisher, UnsetPublisher, UpdateFormat, RebuildIndex}
use Rattle.ips_asked.specs.Formed.{IsFormedCommand}

-- The command leads an image from one state to another: all do but those that make an image, mend one, show something or try the program.
abbrev pub is_changing : What → Bool
is_changing (Install patterns reject accept limit) = true
is_changing (Update patterns reject accept limit) = true
is_changing (Uninstall patterns limit) = true
is_changing (ChangeFacet facets accept) = true
is_changing (ChangeVariant name value accept) = true
is_changing (SetMediator name version implementation) = true
is_changing (UnsetMediator name) = true
is_changing (Avoid stems) = true
is_changing (Unavoid stems) = true
is_changing (Freeze freezes) = true
is_changing (Unfreeze stems) = true
is_changing (SetPublisher name first sticky) = true
is_changing (UnsetPublisher name) = true
is_changing UpdateFormat = true
is_changing RebuildIndex = true
is_changing w = false

-- The words accept newly delivered licenses: `--accept` stands among them, which four commands take.
abbrev pub accepts : What → Bool
accepts (Install patterns reject accept limit) = accept
accepts (Update patterns reject accept limit) = accept
accepts (ChangeFacet facets accept) = accept
accepts (ChangeVariant name value accept) = accept
accepts w = false

-- A command, and the moment at which it is carried out, so many seconds after the first of January 1970.
pub record CommandAt : Type 0 where
  pub command : Command
  pub moment : ℕ

-- The command can be carried out: its words can be recorded, and so can the moment, which is before the year 9999; and it leads from one state
-- to another.
pub record CanBeCarriedOut (a : CommandAt) : Type 0 where
  pub early : a.moment < 253370764800
  pub formed : IsFormedCommand a.command
  pub changes : IsTrue (is_changing a.command.what)

-- The command at the moment, where it leads from one state to another.
abbrev pub changing_at : Command → ℕ → Option CommandAt
changing_at c moment = cond (is_changing c.what) (Some (record { command = c; moment = moment })) None
