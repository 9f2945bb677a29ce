-- A repair loses no names that are no paths, and puts nothing beside a path: it is hindered by what is displaced alone.
use Rattle.std.proofs.Common.{◌≡◌, ◌⊎◌, inl, inr, ℕ, ◌==◌, Bool, true, false, not, ◌&&◌, ◌||◌, List, Option, Some, None, refl, sym, ◌∙◌, ap}
use Rattle.std.proofs.lemmas.Bool.{and_parts, false_from_ne_true, or_cases}
use Rattle.ips_text.specs.Ancestry.{covers, same_path}
use Rattle.ips_text.proofs.Ancestry.{same_path-true}
use Rattle.ips_outside.specs.Image.{Dir, Entry, File, Image, IsImage, Link, Other, is_dir}
use Rattle.ips_steps.specs.Private.{records_name}
use Rattle.ips_steps.proofs.Lists.{clash}
use Rattle.ips_after.specs.After.{IsEmptied, change_after, given_up, given_up_as, over_or}
use Rattle.ips_after.specs.Change.{cleared, reached, replaces}
use Rattle.ips_after.specs.Findings.{Damage, Missing, NotSame, WrongContent, WrongKind, WrongMode, WrongTarget, damage_if, finding_of, unless_there, wrong_mode}
use Rattle.ips_after.specs.Repaired.{IsRepair, Repair, found, mended_as, relinked_as, remedy, repairs, request_of, spoiled}
use Rattle.ips_after.specs.Request.{Request, WantDir, WantFile, WantHard, WantLink, Wanted, is_dir_wanted, takes}
use Rattle.ips_after.specs.Salvage.{has_foreign}
use Rattle.ips_after.proofs.Changed.{reach_of}
use Rattle.ips_after.proofs.Fits.{below_of, dir_of_wanted, exists_dir}
use Rattle.ips_after.proofs.Mended.{change_is}

module _ (f : Repair) (t : Image) (good : IsRepair f) (formed : IsImage t) where
  foreign_dir : (e : Option Entry) → has_foreign e ≡ true → is_dir e ≡ true
  foreign_dir (Some (Dir m x)) h = refl
  foreign_dir (Some (File m b)) h = cc
  foreign_dir (Some (Link g)) h = cc
  foreign_dir (Some Other) h = cc
  foreign_dir None h = cc

  -- a directory is given up only where one is wanted
  dir_given : (o : Option Wanted) (d : Option Damage) (e : Option Entry) → is_dir e ≡ true → given_up_as f.holds (spoiled o d) e ≡ true → is_dir_wanted o ≡ true
  dir_given None d e s h = cc
  dir_given (Some (WantDir m)) d e s h = refl
  dir_given (Some (WantFile payload m preserve)) None (Some (Dir n x)) s h = cc
  dir_given (Some (WantFile payload m preserve)) (Some Missing) (Some (Dir n x)) s h = cc
  dir_given (Some (WantFile payload m preserve)) (Some WrongKind) (Some (Dir n x)) s h = cc
  dir_given (Some (WantFile payload m preserve)) (Some WrongContent) (Some (Dir n x)) s h = cc
  dir_given (Some (WantFile payload m preserve)) (Some WrongMode) (Some (Dir n x)) s h = cc
  dir_given (Some (WantFile payload m preserve)) (Some WrongTarget) (Some (Dir n x)) s h = cc
  dir_given (Some (WantFile payload m preserve)) (Some NotSame) (Some (Dir n x)) s h = cc
  dir_given (Some (WantFile payload m preserve)) d (Some (File n b)) s h = cc
  dir_given (Some (WantFile payload m preserve)) d (Some (Link g)) s h = cc
  dir_given (Some (WantFile payload m preserve)) d (Some Other) s h = cc
  dir_given (Some (WantFile payload m preserve)) d None s h = cc
  dir_given (Some (WantLink g)) None (Some (Dir n x)) s h = cc
  dir_given (Some (WantLink g)) (Some d) (Some (Dir n x)) s h = cc
  dir_given (Some (WantLink g)) d (Some (File n b)) s h = cc
  dir_given (Some (WantLink g)) d (Some (Link y)) s h = cc
  dir_given (Some (WantLink g)) d (Some Other) s h = cc
  dir_given (Some (WantLink g)) d None s h = cc
  dir_given (Some (WantHard to)) None (Some (Dir n x)) s h = cc
  dir_given (Some (WantHard to)) (Some d) (Some (Dir n x)) s h = cc
  dir_given (Some (WantHard to)) d (Some (File n b)) s h = cc
  dir_given (Some (WantHard to)) d (Some (Link y)) s h = cc
  dir_given (Some (WantHard to)) d (Some Other) s h = cc
  dir_given (Some (WantHard to)) d None s h = cc

  -- a directory that stands and is wanted isn't replaced
  dir_stays : (m : Option ℕ) (e : Option Entry) → is_dir e ≡ true → replaces (remedy f.bytes (WantDir m) (unless_there (WantDir m) e (damage_if (wrong_mode m e) WrongMode None))) ≡ true → ⊥
  dir_stays None (Some (Dir n x)) s h = cc
  dir_stays (Some k) (Some (Dir n x)) s h = go (k == n) h
    where
      go : (c : Bool) → replaces (remedy f.bytes (WantDir (Some k)) (damage_if (not c) WrongMode None)) ≡ true → ⊥
      go true h = cc
      go false h = cc
  dir_stays m (Some (File n b)) s h = cc
  dir_stays m (Some (Link g)) s h = cc
  dir_stays m (Some Other) s h = cc
  dir_stays m None s h = cc

  unreplaced : (x : List ℕ) → is_dir_wanted (f.want.at x) ≡ true → is_dir (t.look x) ≡ true → replaces (repairs f t x) ≡ true → ⊥
  unreplaced x wanted stands h = go (f.want.at x) refl wanted (ap replaces (sym (ap (λ (o : Option (Option Entry)). over_or o (relinked_as f t x (f.want.at x))) (good.silent x (dir_of_wanted (f.want.at x) wanted)))) ∙ h)
    where
      go : (o : Option Wanted) → f.want.at x ≡ o → is_dir_wanted o ≡ true → replaces (relinked_as f t x (f.want.at x)) ≡ true → ⊥
      go (Some (WantDir m)) at w h =
          dir_stays m (t.look x) stands (ap replaces (sym (ap (relinked_as f t x) at ∙ ap (λ (o : Option Wanted). mended_as f.bytes o (finding_of f.holds t x o)) at)) ∙ h)
      go (Some (WantFile payload m preserve)) at w h = cc
      go (Some (WantLink g)) at w h = cc
      go (Some (WantHard to)) at w h = cc
      go None at w h = cc

  module _ (emptied : List ℕ → Bool) (gone : IsEmptied (request_of f t) t emptied) where
    abbrev r : Request
    r = request_of f t

    pub unlost : (p : List ℕ) → (has_foreign (t.look p) && (not (covers records_name p) && (given_up r t p && cleared (change_after r t emptied) p))) ≡ false
    unlost p = false_from_ne_true _ (λ h.
        let one = and_parts (has_foreign (t.look p)) _ h in
        let two = and_parts (not (covers records_name p)) _ one.1 in
        let three = and_parts (given_up r t p) _ two.1 in
        let stands = foreign_dir (t.look p) one.0 in
        let x = reach_of (λ q. replaces (change_after r t emptied q)) p three.1 in
        go stands (wanted stands (or_cases (given_up_as f.holds (r.old.at p) (t.look p)) _ three.0)) x.at x.over (ap replaces (sym (change_is f t emptied good formed gone x.at)) ∙ x.holds))
      where
        wanted : is_dir (t.look p) ≡ true → (given_up_as f.holds (r.old.at p) (t.look p) ≡ true) ⊎ (reached (λ q. takes (f.over.at q)) p ≡ true) → is_dir_wanted (f.want.at p) ≡ true
        wanted stands (inl ours) = dir_given (f.want.at p) (found f t p) (t.look p) stands ours
        wanted stands (inr taken) = let x = reach_of (λ q. takes (f.over.at q)) p taken in clash (takes (f.over.at x.at)) x.holds (good.kept x.at)

        go : is_dir (t.look p) ≡ true → is_dir_wanted (f.want.at p) ≡ true → (x : List ℕ) → covers x p ≡ true → replaces (repairs f t x) ≡ true → ⊥
        go stands w x over h = turn (same_path x p) refl
          where
            turn : (s : Bool) → same_path x p ≡ s → ⊥
            turn true same =
                let is = same_path-true x p same in
                unreplaced x (ap (λ (y : List ℕ). is_dir_wanted (f.want.at y)) is ∙ w) (ap (λ (y : List ℕ). is_dir (t.look y)) is ∙ stands) h
            turn false apart =
                unreplaced x (good.want_fits.dirs x p (below_of x p over apart) (dir_of_wanted (f.want.at p) w))
                (ap (λ (b : Bool). b || is_dir (t.look x)) (sym (exists_dir t p stands)) ∙ formed.below_dirs x p over apart) h
