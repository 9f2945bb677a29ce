-- A repair puts nothing beside a path.
use Rattle.std.proofs.Common.{◌≡◌, ℕ, ◌==◌, Bool, true, false, cond, not, ◌&&◌, List, ◌∷◌, Option, Some, None, refl, ◌∙◌, ap}
use Rattle.std.proofs.lemmas.Bool.{eq-eqb}
use Rattle.ips_text.proofs.Ancestry.{same_path-self}
use Rattle.ips_outside.specs.Image.{Entry, Dir, File, Link, Other, Image, is_file}
use Rattle.ips_after.specs.After.{answer_at}
use Rattle.ips_after.specs.Findings.{Damage, Missing, NotSame, WrongContent, WrongKind, WrongMode, WrongTarget, damage_if, file_finding, finding_of, is_account_path, is_loose, forbids_edits, mode_finding}
use Rattle.ips_action.specs.declared.action.Preserve.{Preserve}
use Rattle.ips_action.specs.declared.action.Preserve.TheVariants as preserves
use Rattle.ips_preserve.specs.declared.case.Standing.TheVariants.{Same, Different}
use Rattle.ips_preserve.specs.declared.keep.Keep.{Keep}
use Rattle.ips_preserve.specs.declared.keep.Keep.TheVariants.{Lay, Stay, SalvageLay, SaveOld, LayNew, SaveLegacy, Drop, SalvageDrop}
use Rattle.ips_preserve.specs.Keep.{at_change}
use Rattle.ips_after.specs.Repaired.{Repair, other_mode, request_of, spoiled}
use Rattle.ips_after.specs.Request.{Request, WantDir, WantFile, WantHard, WantLink, Wanted}
use Rattle.ips_after.specs.Salvage.{copied, legacy_suffix, old_suffix, side_as, side_at, side_for}
use Rattle.ips_after.proofs.Mended.{longer, stay_row}

module _ (f : Repair) (t : Image) where
  -- nothing is put beside a path
  side_or : {A : Type 0} (b : Bool) (x : Option A) → x ≡ None → cond b None x ≡ None
  side_or true x h = refl
  side_or false x h = h

  copied_off : (suffix : List ℕ) (e : Option Entry) → is_file e ≡ false → copied suffix e ≡ None
  copied_off suffix None h = refl
  copied_off suffix (Some (Dir n f)) h = refl
  copied_off suffix (Some (File n b)) h = cc
  copied_off suffix (Some (Link g)) h = refl
  copied_off suffix (Some Other) h = refl

  side_off : (ans : Keep) (new : Entry) (e : Option Entry) → is_file e ≡ false → side_for ans new e ≡ None
  side_off SaveOld new e h = copied_off old_suffix e h
  side_off SaveLegacy new e h = copied_off legacy_suffix e h
  side_off LayNew new e h = rw h refl
  side_off Lay new e h = refl
  side_off Stay new e h = refl
  side_off SalvageLay new e h = refl
  side_off Drop new e h = refl
  side_off SalvageDrop new e h = refl

  abbrev r : Request
  r = request_of f t

  abbrev Unsided : List ℕ → ℕ → Preserve → Option Entry → Option Damage → Type 0
  Unsided payload m preserve e d = side_as r (spoiled (Some (WantFile payload m preserve)) d) (Some (WantFile payload m preserve)) e ≡ None

  unsided_if : (payload : List ℕ) (m : ℕ) (preserve : Preserve) (e : Option Entry) (c : Bool) → Unsided payload m preserve e (damage_if c WrongMode None)
  unsided_if payload m preserve e false = rw (same_path-self payload, eq-eqb m m refl) refl
  unsided_if payload m preserve e true = side_or _ _ stay
    where
      stay : side_for (answer_at r (Some (WantFile payload (other_mode m) preserve)) payload preserve e) (File m (r.bytes payload)) e ≡ None
      stay = rw (same_path-self payload) (ap (λ (k : Keep). side_for k (File m (r.bytes payload)) e) (stay_row _))

  unsided_off : (payload : List ℕ) (m : ℕ) (preserve : Preserve) (e : Option Entry) (d : Option Damage) → is_file e ≡ false → Unsided payload m preserve e d
  unsided_off payload m preserve e None h = unsided_if payload m preserve e false
  unsided_off payload m preserve e (Some WrongMode) h = unsided_if payload m preserve e true
  unsided_off payload m preserve e (Some Missing) h = side_or _ _ (side_off _ _ e h)
  unsided_off payload m preserve e (Some WrongKind) h = side_or _ _ (side_off _ _ e h)
  unsided_off payload m preserve e (Some WrongContent) h = side_or _ _ (side_off _ _ e h)
  unsided_off payload m preserve e (Some WrongTarget) h = side_or _ _ (side_off _ _ e h)
  unsided_off payload m preserve e (Some NotSame) h = side_or _ _ (side_off _ _ e h)

  unsided_again : (payload : List ℕ) (m n : ℕ) (b : List ℕ) → Unsided payload m preserves.None (Some (File n b)) (Some WrongContent)
  unsided_again payload m n b = side_or _ _ lay
    where
      go : (c : Bool) → side_for (at_change preserves.None (cond c Same Different)) (File m (r.bytes payload)) (Some (File n b)) ≡ None
      go true = refl
      go false = refl

      lay : side_for (answer_at r (Some (WantFile (0 ∷ payload) m preserves.None)) payload preserves.None (Some (File n b))) (File m (r.bytes payload)) (Some (File n b)) ≡ None
      lay = rw (longer 0 payload) (go (r.holds (0 ∷ payload) b))

  unsided_file : (payload : List ℕ) (m : ℕ) (preserve : Preserve) (account : Bool) (n : ℕ) (b : List ℕ)
      → Unsided payload m preserve (Some (File n b)) (cond (is_loose preserve) (mode_finding m (Some (File n b))) (file_finding (forbids_edits preserve && not account) (r.holds payload) (WantFile payload m preserve) m (Some (File n b))))
  unsided_file payload m preserves.None true n b = unsided_if payload m preserves.None (Some (File n b)) (not (m == n))
  unsided_file payload m preserves.None false n b = go (r.holds payload b)
    where
      go : (c : Bool) → Unsided payload m preserves.None (Some (File n b)) (damage_if (not c) WrongContent (damage_if (not (m == n)) WrongMode None))
      go true = unsided_if payload m preserves.None (Some (File n b)) (not (m == n))
      go false = unsided_again payload m n b
  unsided_file payload m preserves.True account n b = unsided_if payload m preserves.True (Some (File n b)) (not (m == n))
  unsided_file payload m preserves.RenameOld account n b = unsided_if payload m preserves.RenameOld (Some (File n b)) (not (m == n))
  unsided_file payload m preserves.RenameNew account n b = unsided_if payload m preserves.RenameNew (Some (File n b)) (not (m == n))
  unsided_file payload m preserves.Legacy account n b = unsided_if payload m preserves.Legacy (Some (File n b)) (not (m == n))
  unsided_file payload m preserves.Abandon account n b = unsided_if payload m preserves.Abandon (Some (File n b)) (not (m == n))
  unsided_file payload m preserves.InstallOnly account n b = unsided_if payload m preserves.InstallOnly (Some (File n b)) (not (m == n))

  unsided : (t : Image) (p : List ℕ) (o : Option Wanted) (e : Option Entry) → t.look p ≡ e → side_as r (spoiled o (finding_of r.holds t p o)) o (t.look p) ≡ None
  unsided t p None e is = refl
  unsided t p (Some (WantDir m)) e is = refl
  unsided t p (Some (WantLink g)) e is = refl
  unsided t p (Some (WantHard to)) e is = refl
  unsided t p (Some (WantFile payload m preserve)) (Some (File n b)) is =
      ap (λ (e : Option Entry). side_as r (spoiled (Some (WantFile payload m preserve)) (cond (is_loose preserve) (mode_finding m e) (file_finding (forbids_edits preserve && not (is_account_path p)) (r.holds payload) (WantFile payload m preserve) m e))) (Some (WantFile payload m preserve)) e) is
      ∙ unsided_file payload m preserve (is_account_path p) n b
  unsided t p (Some (WantFile payload m preserve)) None is = unsided_off payload m preserve (t.look p) _ (ap is_file is)
  unsided t p (Some (WantFile payload m preserve)) (Some (Dir n f)) is = unsided_off payload m preserve (t.look p) _ (ap is_file is)
  unsided t p (Some (WantFile payload m preserve)) (Some (Link g)) is = unsided_off payload m preserve (t.look p) _ (ap is_file is)
  unsided t p (Some (WantFile payload m preserve)) (Some Other) is = unsided_off payload m preserve (t.look p) _ (ap is_file is)

  pub no_side : (p : List ℕ) → side_at (request_of f t) t p ≡ None
  no_side p = unsided t p (f.want.at p) (t.look p) refl
