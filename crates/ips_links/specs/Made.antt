-- Where something is made.
use Rattle.std.specs.Prelude.{ℕ, Bool, ◌||◌, List}
use Rattle.ips_outside.specs.Image.{Image}
use Rattle.ips_after.specs.After.{linked}
use Rattle.ips_after.specs.Change.{makes}
use Rattle.ips_after.specs.Request.{Request, lays}
use Rattle.ips_change.specs.Told.{naming}

-- something is made at the path, by its entry or for a hard link, or as an account file or a record
abbrev pub is_made : Request → Image → List ℕ → Bool
is_made r t q = makes (linked (naming r) t q) || lays (r.over.at q)
