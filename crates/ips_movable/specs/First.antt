-- The first path at which something hinders a request.
use Rattle.std.specs.Prelude.{ℕ, Bool, not, ◌&&◌, IsTrue, IsFalse, List, Option, Some, None}
use Rattle.ips_text.specs.Ancestry.{covers}
use Rattle.ips_text.specs.Kept.{Kept}
use Rattle.ips_outside.specs.Image.{Image}
use Rattle.ips_steps.specs.Private.{records_name}
use Rattle.ips_after.specs.After.{change_after, given_up}
use Rattle.ips_after.specs.Change.{cleared}
use Rattle.ips_after.specs.Request.{Request}
use Rattle.ips_after.specs.Salvage.{has_foreign, lesser}

-- a directory with names that are no paths goes unsaved there, outside the folder of the records
abbrev pub loses_foreign : Request → Image → (List ℕ → Bool) → List ℕ → Bool
loses_foreign r t emptied p = has_foreign (t.look p) && (not (covers records_name p) && (given_up r t p && cleared (change_after r t emptied) p))

-- The path is the first by bytes at which the test holds; where there is none, it holds at no path.
abbrev pub IsFirstPath : (List ℕ → Bool) → Option Kept → Type 0
IsFirstPath test (Some p) = IsTrue (test p.bytes) × ((q : List ℕ) → IsTrue (lesser q p.bytes) → IsFalse (test q))
IsFirstPath test None = (q : List ℕ) → IsFalse (test q)
