-- What commands mean, for histories of runs.
use Rattle.std.specs.Prelude.{◌≡◌, ℕ, Bool, Some, IsTrue}
use Rattle.ips_outside.specs.Image.{Image}
use Rattle.ips_words.specs.declared.command.Command.{Command}
use Rattle.ips_showing.specs.Asked.{Asked, asked_by}
use Rattle.ips_operations.specs.changing.Commands.{is_changing}
use Rattle.ips_operations.specs.changing.Leads.{LeadsWhere}
use Rattle.ips_operations.specs.creating.Creations.{Creation, creating_at}
use Rattle.ips_operations.specs.creating.Decides.{makes_of}
use Rattle.ips_operations.specs.fixing.Fixes.{Repairing, fixing_at}
use Rattle.ips_operations.specs.fixing.Decides.{repairs_of}

-- A command at a moment, over a repository that tells what it holds, or doesn't.
pub record Requested : Type 0 where
  pub command : Command
  pub moment : ℕ
  pub tells : Bool
  pub repository : Image

-- What the command means: where it shows something, what is seen stays; one that changes an image leads it where its new state does; one that makes an image makes it; and a
-- repair repairs it.
pub data Means (r : Requested) (before after : Image) : Type 0 where
  Stays : (a : Asked) → asked_by r.command.what ≡ Some a → after ≡ before → Means r before after
  Led : IsTrue (is_changing r.command.what) → LeadsWhere r.command r.moment r.tells r.repository before after → Means r before after
  Made : (a : Creation) → creating_at r.command r.moment ≡ Some a → makes_of a r.tells r.repository before after → Means r before after
  Mended : (a : Repairing) → fixing_at r.command r.moment ≡ Some a → repairs_of a r.tells r.repository before after → Means r before after
