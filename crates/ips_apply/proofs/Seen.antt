-- A directory that was seen, and what stands there behind a step.
use Rattle.std.proofs.Common.{◌≡◌, ⊎_elim, inl, inr, ℕ, Bool, true, false, not, ◌||◌, ◌&&◌, nat_lt, List, [], ◌∷◌, length, Option, Some, None, is_none, unwrap_or, refl, sym, ◌∙◌, ap, subst}
use Rattle.std.proofs.lemmas.Bool.{and_parts, or_from}
use Rattle.ips_text.specs.Ancestry.{same_path, covers, parent}
use Rattle.ips_text.proofs.Ancestry.{same_path-true, covers-parent}
use Rattle.ips_outside.specs.Image.{Entry, Dir, Image, IsImage, is_dir, is_file, dir_or_none, has_parent}
use Rattle.ips_outside.proofs.Placed.{look_placed}
use Rattle.ips_steps.specs.Steps.{Step, Gone, Fresh, Mode, Put, Symlink, Hard, after, feasible, sets, frees, freed, at_parent, path_of}
use Rattle.ips_steps.proofs.Laying.{has_parent_kept}
use Rattle.ips_steps.proofs.Linked.{after_within}
use Rattle.ips_apply.specs.Judging.{IsKnown, seen_with}
use Rattle.ips_apply.proofs.Puts.{put_parts}

dir_stands : (e : Option Entry) → is_dir e ≡ true → is_none e ≡ false
dir_stands (Some e) dir = refl
dir_stands None dir = cc

-- a directory that is the known one or above it stands
pub known_stands : (t : Image) (known dir p : List ℕ) → IsImage t → IsKnown t known → (nat_lt 0 (length known) && covers dir known) ≡ true → parent p ≡ Some dir → has_parent t p ≡ true
known_stands t known dir p formed is told above =
    let parts = and_parts (nat_lt 0 (length known)) (covers dir known) told in
    let there : is_dir (t.look known) ≡ true = ⊎_elim (λ none. absurd (let bad : nat_lt 0 (length {A = ℕ} []) ≡ true = ap (λ (l : List ℕ). nat_lt 0 (length l)) (sym none) ∙ parts.0 in cc)) (λ dir. dir) is in
    ap (dir_or_none t) above ∙ go (same_path dir known) refl there parts.1
  where
    go : (same : Bool) → same_path dir known ≡ same → is_dir (t.look known) ≡ true → covers dir known ≡ true → is_dir (t.look dir) ≡ true
    go true one there up = ap (λ (q : List ℕ). is_dir (t.look q)) (same_path-true dir known one) ∙ there
    go false other there up = subst (λ (b : Bool). (b || is_dir (t.look dir)) ≡ true) (dir_stands (t.look known) there) (formed.below_dirs dir known up other)

-- a step leaves its parent
parent_left : (s : Step) (t : Image) → ((dir : List ℕ) → parent (path_of s) ≡ Some dir → frees s dir ≡ false) → has_parent t (path_of s) ≡ true → has_parent (after (s ∷ []) t) (path_of s) ≡ true
parent_left s t off here = has_parent_kept (path_of s) (freed (s ∷ [])) (sets (s ∷ []) t) t (after (s ∷ []) t) (after_within (s ∷ []) t) (go (parent (path_of s)) refl) here
  where
    go : (above : Option (List ℕ)) → parent (path_of s) ≡ above → at_parent (freed (s ∷ [])) above ≡ false
    go (Some dir) is = or_from (frees s dir) false (off dir is) refl
    go None is = refl

parent_seen : (t : Image) (p : List ℕ) → has_parent t p ≡ true → IsKnown t (unwrap_or (parent p) [])
parent_seen t p = go (parent p)
  where
    go : (above : Option (List ℕ)) → dir_or_none t above ≡ true → IsKnown t (unwrap_or above [])
    go (Some dir) here = inr here
    go None here = inl refl

-- behind a step the directory stands that it made, or its parent
pub seen_stands : (s : Step) (t : Image) → feasible (s ∷ []) t ≡ true → IsKnown (after (s ∷ []) t) (seen_with s)
seen_stands (Gone p) t can = inl refl
seen_stands (Fresh m p) t can = inr (ap is_dir (look_placed p (Some (Dir m false)) t))
seen_stands (Mode m p) t can = parent_seen (after (Mode m p ∷ []) t) p (parent_left (Mode m p) t (λ dir is. refl) (and_parts (has_parent t p) true can).0)
seen_stands (Put n m p) t can = parent_seen (after (Put n m p ∷ []) t) p (parent_left (Put n m p) t (covers-parent p) (put_parts n m p t can).0)
seen_stands (Symlink p target) t can = parent_seen (after (Symlink p target ∷ []) t) p (parent_left (Symlink p target) t (covers-parent p) (and_parts (has_parent t p) true can).0)
seen_stands (Hard p to) t can = parent_seen (after (Hard p to ∷ []) t) p (parent_left (Hard p to) t (covers-parent p) (and_parts (has_parent t p) _ (and_parts (has_parent t p && (not (covers p to) && is_file (t.look to))) true can).0).0)

-- the same where the step was judged on an image that a call which only reads left
pub seen_behind : (s : Step) (t u : Image) (known : List ℕ) → feasible (s ∷ []) t ≡ true → u ≡ after (s ∷ []) t → known ≡ seen_with s → IsKnown u known
seen_behind s t u known can held is = subst (IsKnown u) (sym is) (subst (λ (v : Image). IsKnown v (seen_with s)) (sym held) (seen_stands s t can))
