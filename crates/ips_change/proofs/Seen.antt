-- What is seen tells what stands.
use Rattle.std.proofs.Common.{◌≡◌, ℕ, Bool, true, false, cond, ◌||◌, List, Option, Some, None, refl}
use Rattle.ips_outside.specs.Image.{Entry, Dir, File, Link, Other, is_dir, is_file}
use Rattle.ips_action.specs.declared.action.Preserve.{Preserve}
use Rattle.ips_action.specs.declared.action.Preserve.TheVariants as preserves
use Rattle.ips_after.specs.After.{file_given_up, is_link, links_to, spent}
use Rattle.ips_after.specs.Request.{WantFile, WantLink, Wanted}
use Rattle.ips_change.specs.declared.stands.Stands.{Stands}
use Rattle.ips_change.specs.declared.stands.Stands.TheVariants as stands
use Rattle.ips_change.specs.Stands.{has_payload, is_dir_seen, is_file_seen, is_link_seen, is_spent_seen, is_unasked, says_wanted, seen_of, stands_of, tells_edits, weighs_wanted}

-- of the kinds
pub dir_seen : (holds : List ℕ → List ℕ → Bool) (was new : Option Wanted) (e : Option Entry) → is_dir_seen (seen_of holds was new e) ≡ is_dir e
dir_seen holds was new (Some (Dir m f)) = refl
dir_seen holds was new (Some (File m b)) = refl
dir_seen holds was new (Some (Link g)) = refl
dir_seen holds was new (Some Other) = refl
dir_seen holds was new None = refl

pub file_seen : (holds : List ℕ → List ℕ → Bool) (was new : Option Wanted) (e : Option Entry) → is_file_seen (seen_of holds was new e) ≡ is_file e
file_seen holds was new (Some (Dir m f)) = refl
file_seen holds was new (Some (File m b)) = refl
file_seen holds was new (Some (Link g)) = refl
file_seen holds was new (Some Other) = refl
file_seen holds was new None = refl

pub link_seen : (holds : List ℕ → List ℕ → Bool) (was new : Option Wanted) (e : Option Entry) → is_link_seen (seen_of holds was new e) ≡ is_link e
link_seen holds was new (Some (Dir m f)) = refl
link_seen holds was new (Some (File m b)) = refl
link_seen holds was new (Some (Link g)) = refl
link_seen holds was new (Some Other) = refl
link_seen holds was new None = refl

-- what is seen is never that no rule asks
never_unasked : (holds : List ℕ → List ℕ → Bool) (was new : Option Wanted) (e : Option Entry) → stands.Unasked ≡ seen_of holds was new e → ⊥
never_unasked holds was new (Some (Dir m f)) h = cc
never_unasked holds was new (Some (File m b)) h = cc
never_unasked holds was new (Some (Link g)) h = cc
never_unasked holds was new (Some Other) h = cc
never_unasked holds was new None h = cc

-- where that is learned, no rule asks
pub unasked : (holds : List ℕ → List ℕ → Bool) (was new : Option Wanted) (e : Option Entry) → stands.Unasked ≡ stands_of holds was new e → is_unasked was new ≡ true
unasked holds was new e h = go (is_unasked was new) h
  where
    go : (b : Bool) → stands.Unasked ≡ cond b stands.Unasked (seen_of holds was new e) → b ≡ true
    go true h = refl
    go false h = absurd (never_unasked holds was new e h)

-- and else one asks, and what is learned is what is seen
pub asked : (holds : List ℕ → List ℕ → Bool) (was new : Option Wanted) (e : Option Entry) (s : Stands) → s ≡ stands_of holds was new e → (s ≡ stands.Unasked → ⊥)
    → (is_unasked was new ≡ false) × (s ≡ seen_of holds was new e)
asked holds was new e s h never = go (is_unasked was new) h
  where
    go : (b : Bool) → s ≡ cond b stands.Unasked (seen_of holds was new e) → (b ≡ false) × (s ≡ seen_of holds was new e)
    go true h = absurd (never h)
    go false h = (refl, h)

-- whether a file may go unsaved is seen
pub spent_seen : (holds : List ℕ → List ℕ → Bool) (was : List ℕ) (preserve : Preserve) (weighed : Bool) (bytes : List ℕ)
    → spent (has_payload holds (cond (tells_edits preserve || weighed) (Some was) None) bytes) preserve ≡ spent (holds was bytes) preserve
spent_seen holds was preserves.None weighed bytes = refl
spent_seen holds was preserves.True weighed bytes = refl
spent_seen holds was preserves.RenameOld weighed bytes = refl
spent_seen holds was preserves.RenameNew weighed bytes = refl
spent_seen holds was preserves.Legacy weighed bytes = refl
spent_seen holds was preserves.Abandon weighed bytes = refl
spent_seen holds was preserves.InstallOnly weighed bytes = refl

-- whether a symbolic link has the wanted target is seen
pub target_seen : (holds : List ℕ → List ℕ → Bool) (was : Option Wanted) (target : List ℕ) (e : Option Entry) → says_wanted (seen_of holds was (Some (WantLink target)) e) ≡ links_to target e
target_seen holds was target (Some (Dir m f)) = refl
target_seen holds was target (Some (File m b)) = refl
target_seen holds was target (Some (Link g)) = refl
target_seen holds was target (Some Other) = refl
target_seen holds was target None = refl

-- whether a file that was wanted may go unsaved is seen
pub given_up_seen : (holds : List ℕ → List ℕ → Bool) (was : List ℕ) (m : ℕ) (preserve : Preserve) (new : Option Wanted) (e : Option Entry)
    → is_spent_seen preserve (seen_of holds (Some (WantFile was m preserve)) new e) ≡ file_given_up (holds was) preserve e
given_up_seen holds was m preserve new (Some (Dir n f)) = refl
given_up_seen holds was m preserve new (Some (File n b)) = spent_seen holds was preserve (weighs_wanted new) b
given_up_seen holds was m preserve new (Some (Link g)) = refl
given_up_seen holds was m preserve new (Some Other) = refl
given_up_seen holds was m preserve new None = refl
