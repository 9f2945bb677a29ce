-- Where hard links lead, and what becomes of a path with them.
use Rattle.std.specs.Prelude.{ℕ, Bool, false, cond, ◌&&◌, List, Option, Some, None}
use Rattle.std.specs.List.{list_any}
use Rattle.ips_text.specs.Ancestry.{same_path}
use Rattle.ips_outside.specs.Image.{File, Image}
use Rattle.ips_after.specs.After.{itself, leads_to}
use Rattle.ips_after.specs.Change.{Change, Joined, Laid, makes}
use Rattle.ips_after.specs.Request.{Request, WantDir, WantFile, WantHard, WantLink, Wanted}
use Rattle.ips_change.specs.Told.{naming}

-- the path whose file is to have one more name
abbrev pub hard_to : Option Wanted → Option (List ℕ)
hard_to (Some (WantDir m)) = None
hard_to (Some (WantFile payload m preserve)) = None
hard_to (Some (WantLink target)) = None
hard_to (Some (WantHard to)) = Some to
hard_to None = None

-- there is such a path, and it is this one
abbrev pub is_that : Option (List ℕ) → List ℕ → Bool
is_that (Some to) p = same_path to p
is_that None p = false

-- a hard link that is made at one of these paths leads to the path
abbrev pub is_led : Request → Image → List (List ℕ) → List ℕ → Bool
is_led r t paths p = list_any (λ h. leads_to p (r.new.at h) && makes (itself (naming r) t h)) paths

-- what becomes of a path, where this does by itself, where a hard link needs a file there or not, and where the file that its own
-- hard link leads to is laid or not
abbrev pub linked_by : (List ℕ → List ℕ) → Option Wanted → Change → Bool → Bool → Change
linked_by bytes (Some (WantDir m)) own needed laid = own
linked_by bytes (Some (WantFile payload m preserve)) own needed laid = cond needed (Laid (File m (bytes payload))) own
linked_by bytes (Some (WantLink target)) own needed laid = own
linked_by bytes (Some (WantHard to)) own needed laid = cond laid (Joined to) own
linked_by bytes None own needed laid = own
