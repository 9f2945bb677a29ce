-- A list laid on two images that agree but at paths that it doesn't read. Whether it is sound doesn't matter there.
use Rattle.std.proofs.Common.{◌≡◌, ℕ, Bool, true, false, cond, not, ◌&&◌, ◌||◌, List, [], ◌∷◌, Option, Some, None, is_some, refl, ◌∙◌, ap}
use Rattle.std.proofs.lemmas.Bool.{and_parts, and_from, or_parts, not-true, not_from_false}
use Rattle.ips_text.specs.Ancestry.{same_path, covers, is_below, parent}
use Rattle.ips_outside.specs.Image.{Entry, Image, Agrees, is_dir, is_file, with_mode, has_parent, dir_or_none}
use Rattle.ips_outside.specs.Change.{joined}
use Rattle.ips_outside.specs.State.{nowhere}
use Rattle.ips_steps.specs.Steps.{Step, Gone, Fresh, Mode, Put, Symlink, Hard, Stage, laid, all_laid, can_lay, possible, at_parent, clear_of, all_clear_of}
use Rattle.ips_outside.proofs.Agree.{placed_agrees, moded_agrees, same_two}
use Rattle.ips_outside.proofs.Moments.{agrees_less}

-- one of two entries, alike in both
either_alike : (s c : Bool) (d e x y : Option Entry) → d ≡ e → x ≡ y → cond s d (cond c None x) ≡ cond s e (cond c None y)
either_alike s c d e x y de xy = ap (λ (z : Option Entry). cond s z (cond c None x)) de ∙ ap (λ (z : Option Entry). cond s e (cond c None z)) xy

one_of : (s : Bool) (p q : List ℕ) (f : List ℕ → Bool) → f p ≡ false → f q ≡ false → f (cond s p q) ≡ false
one_of true p q f fp fq = fp
one_of false p q f fp fq = fq

module _ (apart : List ℕ → Bool) where
  wider : (p : List ℕ) (t u : Image) → Agrees apart nowhere t u → Agrees (λ q. covers p q || apart q) nowhere t u
  wider p t u h = agrees_less apart nowhere _ nowhere t u (λ q f. (or_parts (covers p q) (apart q) f).1) (λ q l. l) h

  parent_alike : (t u : Image) → Agrees apart nowhere t u → (o : Option (List ℕ)) → at_parent apart o ≡ false → dir_or_none u o ≡ dir_or_none t o
  parent_alike t u h (Some q) off = ap is_dir (h.look q off refl)
  parent_alike t u h None off = refl

  -- the step can be laid on both or on neither
  pub can_alike : (stage : Stage) (s : Step) (t u : Image) → clear_of apart s ≡ true → Agrees apart nowhere t u → can_lay stage s u ≡ can_lay stage s t
  can_alike stage (Gone p) t u cl h = refl
  can_alike stage (Fresh m p) t u cl h = parent_alike t u h (parent p) (not-true _ cl)
  can_alike stage (Mode m p) t u cl h = parent_alike t u h (parent p) (not-true _ (and_parts _ _ cl).0)
  can_alike stage (Put n m p) t u cl h = ap (λ (b : Bool). b && is_some (stage n)) (parent_alike t u h (parent p) (not-true _ cl))
  can_alike stage (Symlink p target) t u cl h = parent_alike t u h (parent p) (not-true _ cl)
  can_alike stage (Hard p to) t u cl h =
      let clears = and_parts _ _ cl in
      ap (λ (b : Bool). b && (not (covers p to) && is_file (u.look to))) (parent_alike t u h (parent p) (not-true _ clears.0))
      ∙ ap (λ (e : Option Entry). has_parent t p && (not (covers p to) && is_file e)) (h.look to (not-true _ clears.1) refl)

  joined_alike : (p to : List ℕ) (t u : Image) → apart to ≡ false → Agrees apart nowhere t u → Agrees apart nowhere (joined p to t) (joined p to u)
  joined_alike p to t u off h = record {
    look = λ q f l. look_alike q f;
    but_mode = λ q f. ap (with_mode 0) (look_alike q f);
    same = λ a b fa fb. same_two (is_below p a) (is_below p b) false _ _ (λ ba bb. h.same _ _ (one_of (same_path p a) to a apart off fa) (one_of (same_path p b) to b apart off fb));
  }
    where
      look_alike : (q : List ℕ) → apart q ≡ false → (joined p to u).look q ≡ (joined p to t).look q
      look_alike q f = either_alike (same_path p q) (covers p q) (u.look to) (t.look to) (u.look q) (t.look q) (h.look to off refl) (h.look q f refl)

  -- and leaves them alike
  pub step_alike : (stage : Stage) (s : Step) (t u : Image) → clear_of apart s ≡ true → Agrees apart nowhere t u → Agrees apart nowhere (laid stage s t) (laid stage s u)
  step_alike stage (Gone p) t u cl h = placed_agrees p None apart nowhere t u (wider p t u h)
  step_alike stage (Fresh m p) t u cl h = placed_agrees p _ apart nowhere t u (wider p t u h)
  step_alike stage (Mode m p) t u cl h = moded_agrees m p apart nowhere t u (not-true _ (and_parts _ _ cl).1) (agrees_less apart nowhere apart _ t u (λ q f. f) (λ q l. refl) h)
  step_alike stage (Put n m p) t u cl h = placed_agrees p _ apart nowhere t u (wider p t u h)
  step_alike stage (Symlink p target) t u cl h = placed_agrees p _ apart nowhere t u (wider p t u h)
  step_alike stage (Hard p to) t u cl h = joined_alike p to t u (not-true _ (and_parts _ _ cl).1) h

  pub list_alike : (stage : Stage) (steps : List Step) (t u : Image) → all_clear_of apart steps ≡ true → Agrees apart nowhere t u
      → (possible stage steps u ≡ possible stage steps t) × Agrees apart nowhere (all_laid stage steps t) (all_laid stage steps u)
  list_alike stage [] t u cl h = (refl, h)
  list_alike stage (s ∷ rest) t u cl h =
      let clears = and_parts (clear_of apart s) (all_clear_of apart rest) cl in
      let later = list_alike stage rest (laid stage s t) (laid stage s u) clears.1 (step_alike stage s t u clears.0 h) in
      (ap (λ (b : Bool). b && possible stage rest (laid stage s u)) (can_alike stage s t u clears.0 h) ∙ ap (λ (b : Bool). can_lay stage s t && b) later.0, later.1)

  -- ---- fewer paths than those that it doesn't read

  module _ (more : List ℕ → Bool) (fewer : (q : List ℕ) → more q ≡ false → apart q ≡ false) where
    parent_fewer : (o : Option (List ℕ)) → not (at_parent more o) ≡ true → not (at_parent apart o) ≡ true
    parent_fewer (Some q) off = not_from_false _ (fewer q (not-true _ off))
    parent_fewer None off = refl

    step_fewer : (s : Step) → clear_of more s ≡ true → clear_of apart s ≡ true
    step_fewer (Gone p) cl = refl
    step_fewer (Fresh m p) cl = parent_fewer (parent p) cl
    step_fewer (Mode m p) cl = let cls = and_parts _ _ cl in and_from _ _ (parent_fewer (parent p) cls.0) (not_from_false _ (fewer p (not-true _ cls.1)))
    step_fewer (Put n m p) cl = parent_fewer (parent p) cl
    step_fewer (Symlink p target) cl = parent_fewer (parent p) cl
    step_fewer (Hard p to) cl = let cls = and_parts _ _ cl in and_from _ _ (parent_fewer (parent p) cls.0) (not_from_false _ (fewer to (not-true _ cls.1)))

    pub all_fewer : (steps : List Step) → all_clear_of more steps ≡ true → all_clear_of apart steps ≡ true
    all_fewer [] cl = refl
    all_fewer (s ∷ rest) cl = let cls = and_parts (clear_of more s) (all_clear_of more rest) cl in and_from _ _ (step_fewer s cls.0) (all_fewer rest cls.1)
