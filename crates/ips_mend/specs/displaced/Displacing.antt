-- When what stands at a path is displaced.
use Rattle.std.specs.Prelude.{ℕ, Bool, not, ◌&&◌, List, Option}
use Rattle.ips_text.specs.Ancestry.{covers}
use Rattle.ips_outside.specs.Image.{Entry}
use Rattle.ips_steps.specs.Private.{records_name}
use Rattle.ips_after.specs.After.{is_kind}
use Rattle.ips_after.specs.Change.{Change, makes}
use Rattle.ips_after.specs.Request.{Wanted}

-- The change lays something at the path, outside the folder of the records, and what stands there isn't of the wanted kind.
abbrev pub displaces_by : List ℕ → Wanted → Change → Option Entry → Bool
displaces_by p w c e = not (covers records_name p) && (makes c && not (is_kind w e))
