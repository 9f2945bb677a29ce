-- What is found in the whole image is what is found in the visible one.
use Rattle.std.proofs.Common.{◌≡◌, inl, inr, ℕ, Bool, true, false, cond, ◌&&◌, ◌||◌, not, List, [], ◌∷◌, Option, Some, None, is_some, refl, ◌∙◌, ap}
use Rattle.std.proofs.lemmas.Bool.{and_parts, not-true, or_cases}
use Rattle.ips_text.specs.Ancestry.{covers}
use Rattle.ips_outside.specs.Image.{Entry, Image, is_file}
use Rattle.ips_steps.specs.Private.{is_private, records_name, visible}
use Rattle.ips_steps.specs.Journal.{may_name}
use Rattle.ips_after.specs.After.{links_to}
use Rattle.ips_after.specs.Findings.{NotSame, WrongMode, WrongTarget, damage_if, file_finding, finding_of, findings, findings_at, forbids_edits, is_account_path, is_loose, mode_finding, unless_there, with_finding, wrong_mode}
use Rattle.ips_after.specs.Repaired.{IsRepair, Repair, found, request_of, spoiled}
use Rattle.ips_after.specs.Request.{WantDir, WantFile, WantHard, WantLink, Wanted}
use Rattle.ips_after.proofs.Alike.{file_of_wanted}
use Rattle.ips_after.proofs.Naming.{seen_above}

module _ (f : Repair) (h : Image) (good : IsRepair f) (names : (q : List ℕ) → is_some (f.want.at q) ≡ true → (may_name q || covers q records_name) ≡ true) where
  abbrev v : Image
  v = visible h

  seen_wanted : (q : List ℕ) → is_some (f.want.at q) ≡ true → is_private q ≡ false
  seen_wanted q there = elim (or_cases (may_name q) (covers q records_name) (names q there)) [
    | inl may ↦ not-true _ (and_parts _ _ may).0
    | inr over ↦ seen_above q over
  ]

  look_seen : (q : List ℕ) → is_some (f.want.at q) ≡ true → v.look q ≡ h.look q
  look_seen q there = ap (λ (b : Bool). cond b None (h.look q)) (seen_wanted q there)

  same_seen : (p q : List ℕ) → is_some (f.want.at p) ≡ true → is_some (f.want.at q) ≡ true → v.same p q ≡ h.same p q
  same_seen p q one other = ap (λ (b : Bool). cond (b || is_private q) false (h.same p q)) (seen_wanted p one) ∙ ap (λ (b : Bool). cond b false (h.same p q)) (seen_wanted q other)

  hard_seen : (q to : List ℕ) → is_some (f.want.at q) ≡ true → is_some (f.want.at to) ≡ true → finding_of f.holds v q (Some (WantHard to)) ≡ finding_of f.holds h q (Some (WantHard to))
  hard_seen q to one other =
      ap (λ (e : Option Entry). unless_there (WantHard to) e (damage_if (not (is_file (v.look to) && v.same q to)) NotSame None)) (look_seen q one)
      ∙ ap (λ (e : Option Entry). unless_there (WantHard to) (h.look q) (damage_if (not (is_file e && v.same q to)) NotSame None)) (look_seen to other)
      ∙ ap (λ (b : Bool). unless_there (WantHard to) (h.look q) (damage_if (not (is_file (h.look to) && b)) NotSame None)) (same_seen q to one other)

  pub found_seen : (q : List ℕ) → found f v q ≡ found f h q
  found_seen q = go (f.want.at q) refl
    where
      go : (w : Option Wanted) → f.want.at q ≡ w → finding_of f.holds v q w ≡ finding_of f.holds h q w
      go None at = refl
      go (Some (WantDir m)) at = ap (λ (e : Option Entry). unless_there (WantDir m) e (damage_if (wrong_mode m e) WrongMode None)) (look_seen q (ap is_some at))
      go (Some (WantFile payload m preserve)) at = ap (λ (e : Option Entry). cond (is_loose preserve) (mode_finding m e)
          (file_finding (forbids_edits preserve && not (is_account_path q)) (f.holds payload) (WantFile payload m preserve) m e)) (look_seen q (ap is_some at))
      go (Some (WantLink target)) at = ap (λ (e : Option Entry). unless_there (WantLink target) e (damage_if (not (links_to target e)) WrongTarget None)) (look_seen q (ap is_some at))
      go (Some (WantHard to)) at = hard_seen q to (ap is_some at) (file_of_wanted (f.want.at to) (good.hards q to at))

  pub findings_seen : findings f.holds f.want v ≡ findings f.holds f.want h
  findings_seen = go f.want.keys
    where
      go : (keys : List (List ℕ)) → findings_at f.holds f.want v keys ≡ findings_at f.holds f.want h keys
      go [] = refl
      go (p ∷ keys) = ap (λ d. with_finding p d (findings_at f.holds f.want v keys)) (found_seen p) ∙ ap (with_finding p (found f h p)) (go keys)

  pub request_seen : request_of f v ≡ request_of f h
  request_seen = λ i. record {
    old = record { at = λ p. spoiled (f.want.at p) (found_seen p i); keys = f.want.keys };
    new = f.want;
    bytes = f.bytes;
    holds = f.holds;
    over = f.over;
  }
