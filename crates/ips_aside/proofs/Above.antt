-- Paths above others, marked.
use Rattle.std.proofs.Common.{◌≡◌, ◌⊎◌, inl, inr, ℕ, Bool, true, false, ◌||◌, List, [], ◌∷◌, ◌++◌, Option, Some, None, Bor, Vec, Global, refl, sym, ◌∙◌, ap, subst, arith}
use Rattle.std.specs.Prelude.{◌↔◌, IfSome}
use Rattle.std.specs.List.{list_any}
use Rattle.std.specs.BTreeSet.{BTreeSet}
use Rattle.std.proofs.lemmas.Bool.{false_from_ne_true, or_cases, or_left, or_right}
use Rattle.std.proofs.lemmas.List.Folds.{list_any-append}
use Rattle.ips_text.specs.Ancestry.{is_below}
use Rattle.ips_text.specs.Path.{IsPath}
use Rattle.ips_text.proofs.Truths.{or_false}
use Rattle.ips_outside.specs.Image.{Image, is_dir}
use Rattle.ips_journal.proofs.Paths.{parent_path}
use Rattle.ips_after.specs.Salvage.{depth}
use Rattle.ips_after.proofs.Fits.{below_trans}
use Rattle.ips_after.proofs.Names.{depth_below}
use Rattle.ips_conflict.specs.Index.{HoldsAbove, has_path}
use Rattle.ips_conflict.proofs.Marked.{IsLeft, IsParent, left_down, left_up}
use Rattle.ips_aside.specs.Ways.{IsMarkedAbove, IsStandingAbove}
use Rattle.ips_aside.proofs.FirstFree.{either_is}

some_below : (paths : List (List ℕ)) (p q : List ℕ) → list_any (is_below q) paths ≡ true → is_below p q ≡ true → list_any (is_below p) paths ≡ true
some_below [] p q h up = cc
some_below (n ∷ paths) p q h up = go (or_cases (is_below q n) _ h) (λ e. some_below paths p q e up)
  where
    go : (is_below q n ≡ true) ⊎ (list_any (is_below q) paths ≡ true) → (list_any (is_below q) paths ≡ true → list_any (is_below p) paths ≡ true) → (is_below p n || list_any (is_below p) paths) ≡ true
    go (inl e) rest = or_left _ _ (below_trans p q n up e)
    go (inr e) rest = or_right (is_below p n) _ (rest e)

pub holds_above : (set : BTreeSet (Vec ℕ Global)) (paths : List (List ℕ)) → IsMarkedAbove set paths → HoldsAbove set
holds_above set paths marked p q had up = marked p ∙ some_below paths p q (sym (marked q) ∙ had) up

pub above_more : (old new : BTreeSet (Vec ℕ Global)) (paths : List (List ℕ)) (n m : List ℕ) → m ≡ n → ((p : List ℕ) → (has_path new p ≡ true) ↔ ((has_path old p ≡ true) ⊎ (is_below p m ≡ true))) → IsMarkedAbove old paths → IsMarkedAbove new (paths ++ n ∷ [])
above_more old new paths n m same more marked q =
    either_is (has_path new q) (has_path old q) (is_below q m) (more q) ∙ ap (λ (b : Bool). b || is_below q m) (marked q) ∙ ap (λ (l : List ℕ). list_any (is_below q) paths || is_below q l) same
    ∙ ap (λ (b : Bool). list_any (is_below q) paths || b) (or_false (is_below q n)) ∙ sym (list_any-append (is_below q) paths (n ∷ []))

-- ---- the lowest directory above a path

-- those above a path at which a directory stands are still to be looked at
abbrev pub AreLeft : Image → List ℕ → Option (Bor (List ℕ)) → Type 0
AreLeft t root at = (q : List ℕ) → is_below q root ≡ true → is_dir (t.look q) ≡ true → IsLeft q at

pub left_begins : (t : Image) (root : List ℕ) (at : Option (Bor (List ℕ))) → IsParent root at → AreLeft t root at
left_begins t root at h q below dir = left_up q root at h below

pub left_on : (t : Image) (root : List ℕ) (d : Bor (List ℕ)) (at : Option (Bor (List ℕ))) → AreLeft t root (Some d) → IsParent d.now at → is_dir (t.look d.now) ≡ false → AreLeft t root at
left_on t root d at so_far h none q below dir = go (so_far q below dir)
  where
    clash : (b : Bool) → b ≡ false → b ≡ true → ⊥
    clash true e f = cc
    clash false e f = cc

    go : (q ≡ d.now) ⊎ (is_below q d.now ≡ true) → IsLeft q at
    go (inl same) = absurd (clash (is_dir (t.look q)) (ap (λ (l : List ℕ). is_dir (t.look l)) same ∙ none) dir)
    go (inr up) = left_up q d.now at h up

pub left_none : (t : Image) (root : List ℕ) → AreLeft t root None → IsStandingAbove t root None
left_none t root so_far q below = false_from_ne_true _ (λ dir. so_far q below dir)

-- what is above a directory that is found may be one, but nothing below it
pub found_above : (t : Image) (root p : List ℕ) (d : Bor (List ℕ)) → p ≡ d.now → AreLeft t root (Some d) → is_below d.now root ≡ true → is_dir (t.look p) ≡ true → IsStandingAbove t root (Some p)
found_above t root p d same so_far up dir = (ap (λ (l : List ℕ). is_below l root) same ∙ up, dir, λ q below lower. false_from_ne_true _ (λ other. go q (subst (λ (l : List ℕ). is_below l q ≡ true) same lower) (so_far q below other)))
  where
    go : (q : List ℕ) → is_below d.now q ≡ true → (q ≡ d.now) ⊎ (is_below q d.now ≡ true) → ⊥
    go q lower (inl e) = let deep = depth_below d.now q lower in let one = ap depth e in omega (arith, deep, one)
    go q lower (inr e) = let deep = depth_below d.now q lower in let more = depth_below q d.now e in omega (arith, deep, more)

-- the parent of a path is one, and above what the path is above
pub up_path : (p : List ℕ) (o : Option (Bor (List ℕ))) → IsParent p o → IsPath p → IfSome o (λ d. IsPath d.now)
up_path p (Some d) h path = parent_path p d.now path h.1
up_path p None h path = tt

pub up_above : (root p : List ℕ) (o : Option (Bor (List ℕ))) → IsParent p o → (p ≡ root) ⊎ (is_below p root ≡ true) → IfSome o (λ d. is_below d.now root ≡ true)
up_above root p (Some d) h at = go (left_down d.now p (Some d) h (inl refl)) at
  where
    go : is_below d.now p ≡ true → (p ≡ root) ⊎ (is_below p root ≡ true) → is_below d.now root ≡ true
    go up (inl e) = subst (λ (l : List ℕ). is_below d.now l ≡ true) e up
    go up (inr e) = below_trans d.now p root up e
up_above root p None h at = tt
