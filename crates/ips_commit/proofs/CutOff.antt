-- Steps that were laid before a call failed, with one more that may have been begun.
use Rattle.std.proofs.Common.{◌≡◌, ◌⊎◌, inl, inr, ℕ, Bool, true, false, ◌||◌, List, [], ◌∷◌, ◌++◌, append-nil, length, take, drop, refl, sym, ◌∙◌, ap, subst, arith}
use Rattle.std.proofs.Math.Seq.{drop-append_seam, drop-length}
use Rattle.std.proofs.lemmas.Bool.{or_parts, and_parts, and_from, not-true, false_from_ne_true}
use Rattle.std.proofs.lemmas.List.{take-append-drop}
use Rattle.ips_text.specs.Ancestry.{same_path, covers}
use Rattle.ips_outside.specs.Image.{Image, Agrees}
use Rattle.ips_outside.specs.State.{nowhere}
use Rattle.ips_outside.proofs.Moments.{agrees_less, agrees_on}
use Rattle.ips_steps.specs.Steps.{Step, Gone, Fresh, Mode, Put, Symlink, Hard, stage_name, stage_path, after, freed, sets}
use Rattle.ips_steps.specs.Private.{gate_name, mark_front, begins, is_private}
use Rattle.ips_steps.specs.Journal.{step_allowed, allowed}
use Rattle.ips_steps.proofs.Linked.{own_alike}
use Rattle.ips_steps.proofs.Lists.{clash}
use Rattle.ips_kinds.specs.Tallies.{Carrier}
use Rattle.ips_apply.specs.Applied.{AgreesBut}
use Rattle.ips_apply.proofs.Turns.{allowed_behind}
use Rattle.ips_commit.specs.Phases.{IsSeenBut}
use Rattle.ips_commit.specs.Recovering.{AreLaidTo}
use Rattle.ips_commit.proofs.Lays.{allowed_before}

-- ---- the one more

-- what was begun is what was finished and at most one step more
pub begun_is : (steps begun : List Step) → (begun ≡ steps) ⊎ ((s : Step) × (begun ≡ steps ++ s ∷ [])) → begun ≡ steps ++ drop (length steps) begun
begun_is steps begun (inl same) = same ∙ sym (append-nil steps) ∙ ap (λ (l : List Step). steps ++ l) (sym (ap (drop (length steps)) same ∙ drop-length steps))
begun_is steps begun (inr one) = one.1 ∙ ap (λ (l : List Step). steps ++ l) (sym (ap (drop (length steps)) one.1 ∙ drop-append_seam steps (one.0 ∷ [])))

pub one_at_most : (steps begun : List Step) → (begun ≡ steps) ⊎ ((s : Step) × (begun ≡ steps ++ s ∷ [])) → (drop (length steps) begun ≡ []) ⊎ ((s : Step) × (drop (length steps) begun ≡ s ∷ []))
one_at_most steps begun (inl same) = inl (ap (drop (length steps)) same ∙ drop-length steps)
one_at_most steps begun (inr one) = inr (one.0, ap (drop (length steps)) one.1 ∙ drop-append_seam steps (one.0 ∷ []))

-- ---- what is seen but for that

pub seen_but : (begun : List Step) (t u : Image) → AgreesBut begun t u → IsSeenBut begun t u
seen_but begun t u h = agrees_less (freed begun) (sets begun t) _ _ t u (λ q off. (or_parts (freed begun q) (is_private q) off).0) (λ q l. l) h

-- where nothing was begun, or nothing is told of what was
pub seen_same : (begun : List Step) (t u : Image) → Agrees is_private nowhere t u → IsSeenBut begun t u
seen_same begun t u h = agrees_less is_private nowhere _ _ t u (λ q off. (or_parts (freed begun q) (is_private q) off).1) (λ q l. refl) h

none_begun : (t u : Image) → IsSeenBut [] t u → Agrees is_private nowhere t u
none_begun t u h = agrees_less _ _ is_private nowhere t u (λ q off. off) (λ q l. refl) h

-- what was begun is the next step of the list, or nothing
pub seen_next : (rest begun : List Step) (t u : Image) → (begun ≡ []) ⊎ ((s : Step) × (begun ≡ s ∷ [])) → begun ≡ take (length begun) rest → IsSeenBut begun t u → IsSeenBut (take 1 rest) t u
seen_next rest begun t u (inl none) is h = seen_same (take 1 rest) t u (none_begun t u (subst (λ (l : List Step). IsSeenBut l t u) none h))
seen_next rest begun t u (inr one) is h =
    let count : length begun ≡ 1 = ap length one.1 in
    subst (λ (l : List Step). IsSeenBut l t u) (is ∙ ap (λ (n : ℕ). take n rest) count) h

-- none of them is laid
pub none_laid : (steps : List Step) (t u : Image) (counts : List Carrier) → Agrees is_private nowhere t u → AreLaidTo steps 0 t u counts counts
none_laid steps t u counts h = record { few = omega arith; can = refl; held = seen_same (take 1 (drop 0 steps)) t u h; tallies = refl }

-- and what is at the updater's own names may change behind it
pub seen_on : (begun : List Step) (t u v : Image) → IsSeenBut begun t u → Agrees is_private nowhere u v → IsSeenBut begun t v
seen_on begun t u v h k = agrees_on _ _ t u v h (agrees_less is_private nowhere _ _ u v (λ q off. (or_parts (freed begun q) (is_private q) off).1) (λ q l. refl) k)

-- ---- on images that agree but at some of the updater's own names

-- no content is a mark or the gate
pub content_else : (n : ℕ) → (begins mark_front (stage_path n) ≡ false) × (covers gate_name (stage_path n) ≡ false)
unfolding mark_front gate_name stage_name
content_else n = (refl, refl)

-- nor is their folder
pub stage_else : (begins mark_front stage_name ≡ false) × (covers gate_name stage_name ≡ false)
unfolding mark_front gate_name stage_name
stage_else = (refl, refl)

module _ (apart : List ℕ → Bool) (own : (q : List ℕ) → apart q ≡ true → is_private q ≡ true) where
  off : (q : List ℕ) → is_private q ≡ false → apart q ≡ false
  off q seen = false_from_ne_true _ (λ a. clash (is_private q) (own q a) seen)

  pub as_own : (t u : Image) → Agrees apart nowhere t u → Agrees is_private nowhere t u
  as_own t u h = agrees_less apart nowhere is_private nowhere t u off (λ q l. l) h

  none_alike : (t u v : Image) → Agrees apart nowhere t u → IsSeenBut [] u v → IsSeenBut [] t v
  none_alike t u v h k = seen_same [] t v (agrees_on is_private nowhere t u v (as_own t u h) (none_begun u v k))

  -- and the contents aren't among these names
  module _ (files : (n : ℕ) → apart (stage_path n) ≡ false) where
    sets_alike : (s : Step) (t u : Image) → step_allowed s ≡ true → Agrees apart nowhere t u → (q : List ℕ) → is_private q ≡ false → sets (s ∷ []) u q ≡ sets (s ∷ []) t q
    sets_alike (Gone p) t u may h q seen = refl
    sets_alike (Fresh m p) t u may h q seen = refl
    sets_alike (Mode m p) t u may h q seen = ap (λ (b : Bool). (same_path p q || b) || false) (h.same p q (off p (not-true _ may)) (off q seen))
    sets_alike (Put n m p) t u may h q seen = ap (λ (b : Bool). (same_path (stage_path n) q || b) || false) (h.same (stage_path n) q (files n) (off q seen))
    sets_alike (Symlink p target) t u may h q seen = refl
    sets_alike (Hard p to) t u may h q seen = refl

    one_alike : (s : Step) (t u v : Image) → step_allowed s ≡ true → Agrees apart nowhere t u → IsSeenBut (s ∷ []) u v → IsSeenBut (s ∷ []) t v
    one_alike s t u v may h k = record {
      look = λ q f l. k.look q f (sets_alike s t u may h q (seen q f) ∙ l) ∙ h.look q (off q (seen q f)) refl;
      but_mode = λ q f. k.but_mode q f ∙ h.but_mode q (off q (seen q f));
      same = λ a b f g. k.same a b f g ∙ h.same a b (off a (seen a f)) (off b (seen b g));
    }
      where
        seen : (q : List ℕ) → (freed (s ∷ []) q || is_private q) ≡ false → is_private q ≡ false
        seen q f = (or_parts (freed (s ∷ []) q) (is_private q) f).1

    pub but_alike : (begun : List Step) → (begun ≡ []) ⊎ ((s : Step) × (begun ≡ s ∷ [])) → allowed begun ≡ true → (t u v : Image) → Agrees apart nowhere t u → IsSeenBut begun u v → IsSeenBut begun t v
    but_alike begun (inl none) may t u v h k = subst (λ (l : List Step). IsSeenBut l t v) (sym none) (none_alike t u v h (subst (λ (l : List Step). IsSeenBut l u v) none k))
    but_alike begun (inr one) may t u v h k =
        let s = one.0 in
        let may_one : allowed (s ∷ []) ≡ true = ap allowed (sym one.1) ∙ may in
        subst (λ (l : List Step). IsSeenBut l t v) (sym one.1) (one_alike s t u v (and_parts (step_allowed s) _ may_one).0 h (subst (λ (l : List Step). IsSeenBut l u v) one.1 k))

    -- the same number of steps is laid from either
    pub laid_alike : apart stage_name ≡ false → (steps : List Step) (n : ℕ) (t u v : Image) (before now : List Carrier) → allowed steps ≡ true → Agrees apart nowhere t u → AreLaidTo steps n u v before now → AreLaidTo steps n t v before now
    laid_alike dir steps n t u v before now may h are =
        let parts : allowed (take n steps ++ drop n steps) ≡ true = ap allowed (take-append-drop n steps) ∙ may in
        let rest : allowed (take 1 (drop n steps) ++ drop 1 (drop n steps)) ≡ true = ap allowed (take-append-drop 1 (drop n steps)) ∙ allowed_behind (take n steps) (drop n steps) parts in
        let alike = own_alike apart own files dir (take n steps) t u (allowed_before (take n steps) (drop n steps) parts) h in
        record {
          few = are.few;
          can = sym alike.0 ∙ are.can;
          held = but_alike (take 1 (drop n steps)) (first_only (drop n steps)) (allowed_before (take 1 (drop n steps)) (drop 1 (drop n steps)) rest) (after (take n steps) t) (after (take n steps) u) v alike.1 are.held;
          tallies = are.tallies;
        }
      where
        first_only : (l : List Step) → (take 1 l ≡ []) ⊎ ((s : Step) × (take 1 l ≡ s ∷ []))
        first_only [] = inl refl
        first_only (s ∷ l) = inr (s, refl)

-- ---- some steps and what follows them

pub allowed_both : (front steps : List Step) → allowed front ≡ true → allowed steps ≡ true → allowed (front ++ steps) ≡ true
allowed_both [] steps first second = second
allowed_both (s ∷ front) steps first second = let parts = and_parts (step_allowed s) (allowed front) first in and_from _ _ parts.0 (allowed_both front steps parts.1 second)
