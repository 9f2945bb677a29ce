-- What stands at paths without a row, where something goes.
use Rattle.std.specs.Prelude.{◌≡◌, ℕ, Bool, true, false, cond, not, ◌&&◌, ◌||◌, ◌==◌, List, [], ◌∷◌, is_some}
use Rattle.std.specs.List.{list_any}
use Rattle.ips_text.specs.Ancestry.{is_below}
use Rattle.ips_outside.specs.Image.{Image}
use Rattle.ips_after.specs.Change.{reached}
use Rattle.ips_after.specs.Lists.{listed}
use Rattle.ips_after.specs.Request.{Request, takes}
use Rattle.ips_after.specs.Salvage.{salvaged}
use Rattle.ips_change.specs.Told.{naming}
use Rattle.ips_salvage.specs.Destroying.{goes_else}
use Rattle.ips_change.specs.declared.stands.Stands.{Stands}
use Rattle.ips_change.specs.declared.stands.Stands.TheVariants as stands
use Rattle.ips_found.specs.Found.{AreThings, Found, found_told, thing_paths}
use Rattle.ips_found.specs.declared.found.Thing.{Thing}

-- a path with what was found there
abbrev pub seen : Thing → List ℕ × Found
seen x = (x.path.bytes, found_told x.found)

-- The new things are the old ones and just what stands at the paths of this test.
pub record Adds (t : Image) (test : List ℕ → Bool) (old new : List Thing) : Type 0 where
  pub paths : (q : List ℕ) → listed (thing_paths new) q ≡ (listed (thing_paths old) q || (is_some (t.look q) && test q))
  pub things : AreThings t old → AreThings t new

-- the first part of a path
abbrev pub first_part : List ℕ → List ℕ
first_part [] = []
first_part (b ∷ q) = cond (b == 47) [] (b ∷ first_part q)

-- the path right below the first on the way to the second
abbrev pub branch : List ℕ → List ℕ → List ℕ
branch [] [] = []
branch [] (b ∷ q) = b ∷ first_part q
branch (a ∷ p) [] = []
branch (a ∷ p) (b ∷ q) = b ∷ branch p q

-- the second path stands below the first, and the path right below that on the way isn't one of these
abbrev pub hangs : List (List ℕ) → List ℕ → List ℕ → Bool
hangs paths p q = is_below p q && not (listed paths (branch p q))

-- the path hangs so below one of these at which a test holds
abbrev pub hangs_among : (List ℕ → Bool) → List (List ℕ) → List (List ℕ) → List ℕ → Bool
hangs_among test paths among q = list_any (λ p. test p && hangs paths p q) among

-- what stands at the path goes with something that is destroyed or with a directory with a stated mode, or is an edit that goes, and isn't taken away
abbrev pub opens : Request → Image → List ℕ → Bool
opens r t p = goes_else (naming r) t p && not (reached (λ q. takes (r.over.at q)) p)

-- what stands is told in full: nothing, a file with its mode, or what is neither that nor a directory nor a symbolic link
abbrev pub is_told : Stands → Bool
is_told stands.Unasked = false
is_told stands.Absent = true
is_told (stands.Dir m) = false
is_told (stands.File m known fresh) = true
is_told (stands.Link wanted) = false
is_told stands.Other = true

-- what stands at the path is salvaged, and the path is one of these
abbrev pub saved_at : Request → Image → List (List ℕ) → List ℕ → Bool
saved_at r t paths q = salvaged r t q && listed paths q
