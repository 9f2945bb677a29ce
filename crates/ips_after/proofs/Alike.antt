-- Wanted paths have wanted paths above them, and changes that are alike there clear the same of them.
use Rattle.std.proofs.Common.{◌≡◌, ℕ, Bool, true, false, List, Option, Some, None, is_some, refl, sym, ◌∙◌, ap}
use Rattle.ips_text.specs.Ancestry.{same_path, covers}
use Rattle.ips_outside.specs.Image.{Image, IsImage}
use Rattle.ips_after.specs.After.{change_after}
use Rattle.ips_after.specs.Change.{Change, Changes, Given, Joined, Kept, Laid, Removed, cleared, replaces, target}
use Rattle.ips_after.specs.Request.{IsRequest, Request, Wanted, is_file_wanted}
use Rattle.ips_after.proofs.Changed.{both_ways, reach_of, reached_from}
use Rattle.ips_after.proofs.Fits.{Spares, below_of, dir_of_wanted, hard_at}
use Rattle.ips_text.proofs.Ancestry.{same_path-true}

-- where a file is wanted, something is
pub file_of_wanted : (o : Option Wanted) → is_file_wanted o ≡ true → is_some o ≡ true
file_of_wanted (Some w) f = refl
file_of_wanted None f = cc

-- what is at or above a wanted path is wanted
pub above_new : (r : Request) → IsRequest r → (z y : List ℕ) → covers z y ≡ true → is_some (r.new.at y) ≡ true → is_some (r.new.at z) ≡ true
above_new r good z y over new = go (same_path z y) refl
  where
    go : (b : Bool) → same_path z y ≡ b → is_some (r.new.at z) ≡ true
    go true same = ap (λ (x : List ℕ). is_some (r.new.at x)) (same_path-true z y same) ∙ new
    go false same = dir_of_wanted (r.new.at z) (good.new_want.dirs z y (below_of z y over same) new)

-- changes that are alike at wanted paths clear the same of these
pub cleared_alike : (r : Request) → IsRequest r → (c d : Changes) → ((q : List ℕ) → is_some (r.new.at q) ≡ true → c q ≡ d q) → (y : List ℕ) → is_some (r.new.at y) ≡ true → cleared c y ≡ cleared d y
cleared_alike r good c d alike y new = both_ways
    (λ h. let z = reach_of (λ p. replaces (c p)) y h in reached_from (λ p. replaces (d p)) z.at y z.over (ap replaces (sym (alike z.at (above_new r good z.at y z.over new))) ∙ z.holds))
    (λ h. let z = reach_of (λ p. replaces (d p)) y h in reached_from (λ p. replaces (c p)) z.at y z.over (ap replaces (alike z.at (above_new r good z.at y z.over new)) ∙ z.holds))

-- a wanted path's file is at a wanted path
pub target_new : (r : Request) (t : Image) (emptied : List ℕ → Bool) (good : IsRequest r) (formed : IsImage t) (gone : Spares r t emptied) (x : List ℕ) → is_some (r.new.at x) ≡ true
    → (c : Change) → change_after r t emptied x ≡ c → is_some (r.new.at (target c x)) ≡ true
target_new r t emptied good formed gone x new Kept at = new
target_new r t emptied good formed gone x new Removed at = new
target_new r t emptied good formed gone x new (Laid e) at = new
target_new r t emptied good formed gone x new (Given m) at = new
target_new r t emptied good formed gone x new (Joined to) at = file_of_wanted (r.new.at to) (good.hards x to (hard_at r t emptied good formed gone x to at (r.new.at x) refl).wanted)
