-- What the words on lists of steps say at a path.
use Rattle.std.proofs.Common.{◌≡◌, ℕ, Bool, true, false, cond, not, ◌&&◌, ◌||◌, List, [], ◌∷◌, Option, Some, None, refl, sym, ◌∙◌, ap, subst, inl, inr, ◌⊎◌, ◌++◌}
use Rattle.std.proofs.lemmas.Bool.{and_right, or_parts, or_right, or_left, or_cases, false_from_ne_true}
use Rattle.ips_text.specs.Ancestry.{same_path, covers, parent}
use Rattle.ips_outside.specs.Image.{Entry, Image, with_mode}
use Rattle.ips_outside.specs.Change.{names}
use Rattle.ips_steps.specs.Steps.{Step, Gone, Fresh, Mode, Put, Symlink, Hard, Stage, path_of, frees, freed, at_parent, parent_freed, named}
use Rattle.ips_steps.specs.Outcome.{back, source, made, with_modes}
use Rattle.ips_text.proofs.Ancestry.{same_path-true, same_path-self, uncovered, at_parent_of}
use Rattle.ips_outside.proofs.Agree.{moded_mode}
use Rattle.ips_steps.specs.Journal.{AllProper}

pub clash : {A : Type 0} (b : Bool) → b ≡ true → b ≡ false → A
clash b t f = absurd (let h : true ≡ false = sym t ∙ f in cc)

pub same_path-sym : (p q : List ℕ) → same_path p q ≡ true → same_path q p ≡ true
same_path-sym p q s = subst (λ (x : List ℕ). same_path x p ≡ true) (same_path-true p q s) (same_path-self p)

-- what frees a path that it doesn't name frees its parent
up_of : (s : Step) (q : List ℕ) → frees s q ≡ true → same_path (path_of s) q ≡ false → at_parent (frees s) (parent q) ≡ true
up_of s q f off = go s f off
  where
    cover : (p : List ℕ) → covers p q ≡ true → same_path p q ≡ false → at_parent (covers p) (parent q) ≡ true
    cover p c apart = let up = at_parent_of p q c apart in ap (at_parent (covers p)) up.is ∙ up.up

    go : (s : Step) → frees s q ≡ true → same_path (path_of s) q ≡ false → at_parent (frees s) (parent q) ≡ true
    go (Gone p) f off = cover p f off
    go (Fresh m p) f off = cover p f off
    go (Mode m p) f off = cc
    go (Put n m p) f off = cover p f off
    go (Symlink p target) f off = cover p f off
    go (Hard p to) f off = cover p f off

at_parent_left : (f g : List ℕ → Bool) (o : Option (List ℕ)) → at_parent f o ≡ true → at_parent (λ q. f q || g q) o ≡ true
at_parent_left f g (Some q) h = or_left (f q) (g q) h
at_parent_left f g None h = cc

at_parent_right : (f g : List ℕ → Bool) (o : Option (List ℕ)) → at_parent g o ≡ true → at_parent (λ q. f q || g q) o ≡ true
at_parent_right f g (Some q) h = or_right (f q) (g q) h
at_parent_right f g None h = cc

freed_up : (rest : List Step) (q : List ℕ) → freed rest q ≡ true → named rest q ≡ false → parent_freed rest q ≡ true
freed_up [] q f off = cc
freed_up (s ∷ rest) q f off =
    let parts = or_parts (same_path (path_of s) q) (named rest q) off in
    go (or_cases (frees s q) (freed rest q) f) parts.0 (λ next. freed_up rest q next parts.1)
  where
    go : (frees s q ≡ true) ⊎ (freed rest q ≡ true) → same_path (path_of s) q ≡ false → (freed rest q ≡ true → parent_freed rest q ≡ true) → parent_freed (s ∷ rest) q ≡ true
    go (inl now) here later = at_parent_left (frees s) (freed rest) (parent q) (up_of s q now here)
    go (inr next) here later = at_parent_right (frees s) (freed rest) (parent q) (later next)

-- a path that no later step names, and whose parent no later step frees, is not freed
pub not_freed : (rest : List Step) (q : List ℕ) → parent_freed rest q ≡ false → named rest q ≡ false → freed rest q ≡ false
not_freed rest q up off = false_from_ne_true _ (λ f. clash _ (freed_up rest q f off) up)

pub made_unnamed : (stage : Stage) (rest : List Step) (q : List ℕ) → named rest q ≡ false → made stage rest q ≡ None
made_unnamed stage [] q off = refl
made_unnamed stage (Gone p ∷ rest) q off = made_unnamed stage rest q (or_parts (same_path p q) _ off).1
made_unnamed stage (Mode m p ∷ rest) q off = made_unnamed stage rest q (or_parts (same_path p q) _ off).1
made_unnamed stage (Hard p to ∷ rest) q off = made_unnamed stage rest q (or_parts (same_path p q) _ off).1
made_unnamed stage (Fresh m p ∷ rest) q off = let h = or_parts (same_path p q) (named rest q) off in rw h.0 (made_unnamed stage rest q h.1)
made_unnamed stage (Put n m p ∷ rest) q off = let h = or_parts (same_path p q) (named rest q) off in rw h.0 (made_unnamed stage rest q h.1)
made_unnamed stage (Symlink p target ∷ rest) q off = let h = or_parts (same_path p q) (named rest q) off in rw h.0 (made_unnamed stage rest q h.1)

pub made_kept : (stage : Stage) (rest : List Step) (q : List ℕ) → freed rest q ≡ false → made stage rest q ≡ None
made_kept stage [] q off = refl
made_kept stage (Gone p ∷ rest) q off = made_kept stage rest q (or_parts (covers p q) _ off).1
made_kept stage (Mode m p ∷ rest) q off = made_kept stage rest q off
made_kept stage (Hard p to ∷ rest) q off = made_kept stage rest q (or_parts (covers p q) _ off).1
made_kept stage (Fresh m p ∷ rest) q off = let h = or_parts (covers p q) (freed rest q) off in rw (uncovered p q h.0) (made_kept stage rest q h.1)
made_kept stage (Put n m p ∷ rest) q off = let h = or_parts (covers p q) (freed rest q) off in rw (uncovered p q h.0) (made_kept stage rest q h.1)
made_kept stage (Symlink p target ∷ rest) q off = let h = or_parts (covers p q) (freed rest q) off in rw (uncovered p q h.0) (made_kept stage rest q h.1)

back_kept : (s : Step) (q : List ℕ) → frees s q ≡ false → back s q ≡ q
back_kept (Gone p) q off = refl
back_kept (Fresh m p) q off = refl
back_kept (Mode m p) q off = refl
back_kept (Put n m p) q off = refl
back_kept (Symlink p target) q off = refl
back_kept (Hard p to) q off = rw (uncovered p q off) refl

pub source_kept : (rest : List Step) (q : List ℕ) → freed rest q ≡ false → source rest q ≡ q
source_kept [] q off = refl
source_kept (s ∷ rest) q off = let h = or_parts (frees s q) (freed rest q) off in ap (back s) (source_kept rest q h.1) ∙ back_kept s q h.0

one_mode : (b c : Bool) (m : ℕ) (e : Option Entry) → b ≡ c → cond b (with_mode m e) e ≡ cond c (with_mode m e) e
one_mode b c m e h = ap (λ (x : Bool). cond x (with_mode m e) e) h

-- modes alike where they meet alike
pub modes_alike : (f g : List ℕ → Bool) (t u : Image) (rest : List Step) (a b : List ℕ) (e : Option Entry)
    → ((p : List ℕ) → named rest p ≡ true → (not (f p) && names t p a) ≡ (not (g p) && names u p b)) → with_modes f rest t a e ≡ with_modes g rest u b e
modes_alike f g t u [] a b e h = refl
modes_alike f g t u (Gone p ∷ rest) a b e h = modes_alike f g t u rest a b e (λ q n. h q (or_right (same_path p q) _ n))
modes_alike f g t u (Fresh m p ∷ rest) a b e h = modes_alike f g t u rest a b e (λ q n. h q (or_right (same_path p q) _ n))
modes_alike f g t u (Put k m p ∷ rest) a b e h = modes_alike f g t u rest a b e (λ q n. h q (or_right (same_path p q) _ n))
modes_alike f g t u (Symlink p target ∷ rest) a b e h = modes_alike f g t u rest a b e (λ q n. h q (or_right (same_path p q) _ n))
modes_alike f g t u (Hard p to ∷ rest) a b e h = modes_alike f g t u rest a b e (λ q n. h q (or_right (same_path p q) _ n))
modes_alike f g t u (Mode m p ∷ rest) a b e h =
    ap (with_modes f rest t a) (one_mode _ _ m e (h p (or_left (same_path p p) (named rest p) (same_path-self p))))
    ∙ modes_alike f g t u rest a b (cond (not (g p) && names u p b) (with_mode m e) e) (λ q n. h q (or_right (same_path p q) _ n))

-- modes that meet nothing here
pub modes_still : (f : List ℕ → Bool) (t : Image) (rest : List Step) (a : List ℕ) (e : Option Entry) → ((p : List ℕ) → named rest p ≡ true → names t p a ≡ false) → with_modes f rest t a e ≡ e
modes_still f t [] a e h = refl
modes_still f t (Gone p ∷ rest) a e h = modes_still f t rest a e (λ q n. h q (or_right (same_path p q) _ n))
modes_still f t (Fresh m p ∷ rest) a e h = modes_still f t rest a e (λ q n. h q (or_right (same_path p q) _ n))
modes_still f t (Put k m p ∷ rest) a e h = modes_still f t rest a e (λ q n. h q (or_right (same_path p q) _ n))
modes_still f t (Symlink p target ∷ rest) a e h = modes_still f t rest a e (λ q n. h q (or_right (same_path p q) _ n))
modes_still f t (Hard p to ∷ rest) a e h = modes_still f t rest a e (λ q n. h q (or_right (same_path p q) _ n))
modes_still f t (Mode m p ∷ rest) a e h =
    ap (with_modes f rest t a) (one_mode _ false m e (and_right (not (f p)) (names t p a) (h p (or_left (same_path p p) (named rest p) (same_path-self p)))))
    ∙ modes_still f t rest a e (λ q n. h q (or_right (same_path p q) _ n))

no_mode : (b : Bool) (m : ℕ) → cond b (with_mode m None) None ≡ None
no_mode true m = refl
no_mode false m = refl

pub modes_none : (f : List ℕ → Bool) (t : Image) (rest : List Step) (a : List ℕ) → with_modes f rest t a None ≡ None
modes_none f t [] a = refl
modes_none f t (Gone p ∷ rest) a = modes_none f t rest a
modes_none f t (Fresh m p ∷ rest) a = modes_none f t rest a
modes_none f t (Put k m p ∷ rest) a = modes_none f t rest a
modes_none f t (Symlink p target ∷ rest) a = modes_none f t rest a
modes_none f t (Hard p to ∷ rest) a = modes_none f t rest a
modes_none f t (Mode m p ∷ rest) a = ap (with_modes f rest t a) (no_mode (not (f p) && names t p a) m) ∙ modes_none f t rest a

-- and nothing but the mode is another
pub modes_but : (f : List ℕ → Bool) (t : Image) (rest : List Step) (a : List ℕ) (e : Option Entry) → with_mode 0 (with_modes f rest t a e) ≡ with_mode 0 e
modes_but f t [] a e = refl
modes_but f t (Gone p ∷ rest) a e = modes_but f t rest a e
modes_but f t (Fresh m p ∷ rest) a e = modes_but f t rest a e
modes_but f t (Put k m p ∷ rest) a e = modes_but f t rest a e
modes_but f t (Symlink p target ∷ rest) a e = modes_but f t rest a e
modes_but f t (Hard p to ∷ rest) a e = modes_but f t rest a e
modes_but f t (Mode m p ∷ rest) a e = modes_but f t rest a _ ∙ moded_mode (not (f p) && names t p a) m e

pub proper_more : (front more : List Step) → AllProper front → AllProper more → AllProper (front ++ more)
proper_more [] more hf hm = hm
proper_more (s ∷ front) more hf hm = (hf.0, proper_more front more hf.1 hm)
