-- What a put asks for, and what a mode leaves, as one that the content has already.
use Rattle.std.proofs.Common.{◌≡◌, ℕ, Bool, true, false, cond, not, ◌==◌, List, [], ◌∷◌, Option, Some, None, refl, sym, ◌∙◌, ap, subst}
use Rattle.std.proofs.lemmas.Bool.{and_parts, and_from, or_parts, not-true, not-false, eqb-true}
use Rattle.ips_text.specs.Ancestry.{same_path, covers, parent}
use Rattle.ips_outside.specs.Image.{Entry, Dir, File, Link, Other, Image, IsImage, is_dir, is_file, with_mode, has_parent, dir_or_none}
use Rattle.ips_outside.specs.Change.{moded, names}
use Rattle.ips_folder.specs.Calls.{CanMake}
use Rattle.ips_steps.specs.Steps.{Put, stage_path, feasible}
use Rattle.ips_steps.specs.Journal.{step_allowed}
use Rattle.ips_text.proofs.Ancestry.{same_path-true}
use Rattle.ips_outside.proofs.Agree.{is_dir-alike, is_file-alike}
use Rattle.ips_outside.proofs.Images.{image_ext}
use Rattle.ips_outside.proofs.Moments.{moded_within}
use Rattle.ips_steps.proofs.PrivateNames.{content_kept}
use Rattle.ips_apply.specs.Judging.{has_other_mode}

-- ---- what a mode leaves

-- a mode leaves a directory or a file what it is
pub moded_dir : (m : ℕ) (p q : List ℕ) (t : Image) → is_dir ((moded m p t).look q) ≡ is_dir (t.look q)
moded_dir m p q t = is_dir-alike ((moded m p t).look q) (t.look q) ((moded_within m p t).but_mode q refl)

pub moded_is_file : (m : ℕ) (p q : List ℕ) (t : Image) → is_file ((moded m p t).look q) ≡ is_file (t.look q)
moded_is_file m p q t = is_file-alike ((moded m p t).look q) (t.look q) ((moded_within m p t).but_mode q refl)

pub moded_parent : (m : ℕ) (p q : List ℕ) (t : Image) → has_parent (moded m p t) q ≡ has_parent t q
moded_parent m p q t = go (parent q)
  where
    go : (above : Option (List ℕ)) → dir_or_none (moded m p t) above ≡ dir_or_none t above
    go (Some dir) = moded_dir m p dir t
    go None = refl

none_moded : (n : Bool) (m : ℕ) (e : Option Entry) → e ≡ None → cond n (with_mode m e) e ≡ None
none_moded true m e none = ap (with_mode m) none
none_moded false m e none = none

-- what can be made can be made behind a mode
pub moded_makes : (m : ℕ) (to p : List ℕ) (t : Image) → CanMake t p → CanMake (moded m to t) p
moded_makes m to p t can = record { absent = none_moded (names t to p) m (t.look p) can.absent; parent = moded_parent m to p t ∙ can.parent }

-- the mode that what stands at the path has already
pub moded_same : (m : ℕ) (p : List ℕ) (t : Image) → IsImage t → with_mode m (t.look p) ≡ t.look p → moded m p t ≡ t
moded_same m p t formed own = image_ext _ _ (λ q. at q (same_path p q) refl (t.same p q) refl) (λ a b. refl)
  where
    at : (q : List ℕ) (s : Bool) → same_path p q ≡ s → (n : Bool) → t.same p q ≡ n → cond (names t p q) (with_mode m (t.look q)) (t.look q) ≡ t.look q
    at q true is n shared = rw is (subst (λ (x : List ℕ). with_mode m (t.look x) ≡ t.look x) (same_path-true p q is) own)
    at q false is true shared = rw (is, shared) (subst (λ (e : Option Entry). with_mode m e ≡ e) (formed.files p q shared).1 own)
    at q false is false shared = rw (is, shared) refl

same_mode : (m : ℕ) (e : Option Entry) → is_file e ≡ true → has_other_mode m e ≡ false → with_mode m e ≡ e
same_mode m (Some (Dir old f)) file same = cc
same_mode m (Some (File old b)) file same = let one : old ≡ m = eqb-true old m (not-false (old == m) same) in ap (λ (n : ℕ). Some (File n b)) (sym one)
same_mode m (Some (Link g)) file same = cc
same_mode m (Some Other) file same = cc
same_mode m None file same = cc

-- a file of that mode stays
pub moded_alike : (m : ℕ) (p : List ℕ) (t : Image) → IsImage t → is_file (t.look p) ≡ true → has_other_mode m (t.look p) ≡ false → moded m p t ≡ t
moded_alike m p t formed file same = moded_same m p t formed (same_mode m (t.look p) file same)

-- ---- what a put asks for

-- the file of a content isn't at or below a path that a put may name
pub put_apart : (n m : ℕ) (p : List ℕ) → step_allowed (Put n m p) ≡ true → covers p (stage_path n) ≡ false
put_apart n m p may = (or_parts (covers p (stage_path n)) false (content_kept (Put n m p ∷ []) n (and_from (step_allowed (Put n m p)) true may refl))).0

pub put_parts : (n m : ℕ) (p : List ℕ) (t : Image) → feasible (Put n m p ∷ []) t ≡ true → (has_parent t p ≡ true) × (covers p (stage_path n) ≡ false) × (is_file (t.look (stage_path n)) ≡ true)
put_parts n m p t can =
    let file = stage_path n in
    let moded_then = and_parts (has_parent t file) _ can in
    let hard = and_parts _ _ moded_then.1 in
    let parts = and_parts (has_parent (moded m file t) p) _ hard.0 in
    let more = and_parts (not (covers p file)) (is_file ((moded m file t).look file)) parts.1 in
    (sym (moded_parent m file p t) ∙ parts.0, not-true _ more.0, sym (moded_is_file m file file t) ∙ more.1)
