-- What a list leaves, told path by path.
use Rattle.std.proofs.Common.{◌≡◌, ℕ, zero, suc, Bool, true, false, cond, not, ◌&&◌, ◌||◌, List, [], ◌∷◌, Option, Some, None, refl, sym, ◌∙◌, ap, subst, arith, inl, inr, ◌⊎◌, Contains}
use Rattle.std.proofs.lemmas.Bool.{and_parts, or_parts, or_from, or_left, or_right, not-true, false_from_ne_true}
use Rattle.std.proofs.Math.Bool.{and-true}
use Rattle.ips_text.specs.Ancestry.{same_path, covers}
use Rattle.ips_outside.specs.Image.{Entry, Dir, File, Link, Image, is_file, with_mode, has_parent}
use Rattle.ips_outside.specs.Change.{names}
use Rattle.ips_steps.specs.Steps.{Step, Gone, Fresh, Mode, Put, Symlink, Hard, Stage, content_bytes, laid, all_laid, can_lay, possible, frees, freed, parent_freed, sound_before, sound, path_of, named, distinct}
use Rattle.ips_steps.specs.Outcome.{back, source, made, with_modes, bare, bare_same, outcome, mode_or, last_mode, given, makes_at, IsLaidByPath}
use Rattle.ips_text.proofs.Ancestry.{same_path-true, same_path-self, covers-self}
use Rattle.ips_outside.proofs.Agree.{mode_over, is_file-alike}
use Rattle.ips_outside.proofs.Images.{HasNodes}
use Rattle.ips_steps.proofs.Within.{laid_within, all_nodes}
use Rattle.ips_steps.proofs.Lists.{clash, source_kept}
use Rattle.ips_steps.proofs.Laid.{laid_outcome}

-- ---- steps of a list

-- an element is the first, or one of the rest
pub first_or_later : (s : Step) (rest : List Step) (x : Step) → Contains (s ∷ rest) x → (s ≡ x) ⊎ Contains rest x
first_or_later s rest x (zero, lt, is) = inl is
first_or_later s rest x (suc k, lt, is) = inr (k, omega arith, is)

pub freed_by : (steps : List Step) (s : Step) (q : List ℕ) → Contains steps s → frees s q ≡ true → freed steps q ≡ true
freed_by [] s q (k, lt, is) f = absurd (omega arith)
freed_by (x ∷ rest) s q one f = elim (first_or_later x rest s one) [
  | inl here ↦ or_left (frees x q) (freed rest q) (ap (λ (y : Step). frees y q) here ∙ f)
  | inr later ↦ or_right (frees x q) (freed rest q) (freed_by rest s q later f)
]

named_by : (steps : List Step) (s : Step) → Contains steps s → named steps (path_of s) ≡ true
named_by [] s (k, lt, is) = absurd (omega arith)
named_by (x ∷ rest) s one = elim (first_or_later x rest s one) [
  | inl here ↦ or_left (same_path (path_of x) (path_of s)) (named rest (path_of s)) (ap (λ (y : Step). same_path (path_of y) (path_of s)) here ∙ same_path-self (path_of s))
  | inr later ↦ or_right (same_path (path_of x) (path_of s)) (named rest (path_of s)) (named_by rest s later)
]

-- a later step has another path
later_apart : (x : Step) (rest : List Step) (s : Step) → named rest (path_of x) ≡ false → Contains rest s → same_path (path_of x) (path_of s) ≡ false
later_apart x rest s off later = false_from_ne_true _ (λ same. clash (named rest (path_of s)) (named_by rest s later) (ap (named rest) (sym (same_path-true (path_of x) (path_of s) same)) ∙ off))

-- ---- entries that are made

pub made_next : (stage : Stage) (s : Step) (rest : List Step) (q : List ℕ) → same_path (path_of s) q ≡ false → made stage (s ∷ rest) q ≡ made stage rest q
made_next stage (Gone p) rest q off = refl
made_next stage (Fresh m p) rest q off = rw off refl
made_next stage (Mode m p) rest q off = refl
made_next stage (Put n m p) rest q off = rw off refl
made_next stage (Symlink p target) rest q off = rw off refl
made_next stage (Hard p to) rest q off = refl

-- the entry of a directory, a file or a symbolic link that is made
abbrev entry_of : Stage → Step → Option Entry
entry_of stage (Gone p) = None
entry_of stage (Fresh m p) = Some (Dir m false)
entry_of stage (Mode m p) = None
entry_of stage (Put n m p) = Some (File m (content_bytes (stage n)))
entry_of stage (Symlink p target) = Some (Link target)
entry_of stage (Hard p to) = None

abbrev makes_entry : Step → Bool
makes_entry (Gone p) = false
makes_entry (Fresh m p) = true
makes_entry (Mode m p) = false
makes_entry (Put n m p) = true
makes_entry (Symlink p target) = true
makes_entry (Hard p to) = false

made_first : (stage : Stage) (s : Step) (rest : List Step) → makes_entry s ≡ true → made stage (s ∷ rest) (path_of s) ≡ entry_of stage s
made_first stage (Gone p) rest makes = cc
made_first stage (Fresh m p) rest makes = rw (same_path-self p) refl
made_first stage (Mode m p) rest makes = cc
made_first stage (Put n m p) rest makes = rw (same_path-self p) refl
made_first stage (Symlink p target) rest makes = rw (same_path-self p) refl
made_first stage (Hard p to) rest makes = cc

made_by : (stage : Stage) (steps : List Step) (s : Step) → distinct steps ≡ true → Contains steps s → makes_entry s ≡ true → made stage steps (path_of s) ≡ entry_of stage s
made_by stage [] s di (k, lt, is) makes = absurd (omega arith)
made_by stage (x ∷ rest) s di one makes =
    let dis = and_parts (not (named rest (path_of x))) (distinct rest) di in
    elim (first_or_later x rest s one) [
      | inl here ↦ subst (λ (y : Step). made stage (y ∷ rest) (path_of s) ≡ entry_of stage s) (sym here) (made_first stage s rest makes)
      | inr later ↦ made_next stage x rest (path_of s) (later_apart x rest s (not-true _ dis.0) later) ∙ made_by stage rest s dis.1 later makes
    ]

made_none : (stage : Stage) (steps : List Step) (q : List ℕ) → makes_at steps q ≡ false → made stage steps q ≡ None
made_none stage [] q off = refl
made_none stage (Gone p ∷ rest) q off = made_none stage rest q off
made_none stage (Mode m p ∷ rest) q off = made_none stage rest q off
made_none stage (Hard p to ∷ rest) q off = made_none stage rest q (or_parts (same_path p q) (makes_at rest q) off).1
made_none stage (Fresh m p ∷ rest) q off = let h = or_parts (same_path p q) (makes_at rest q) off in rw h.0 (made_none stage rest q h.1)
made_none stage (Put n m p ∷ rest) q off = let h = or_parts (same_path p q) (makes_at rest q) off in rw h.0 (made_none stage rest q h.1)
made_none stage (Symlink p target ∷ rest) q off = let h = or_parts (same_path p q) (makes_at rest q) off in rw h.0 (made_none stage rest q h.1)

-- ---- whose file stands where

back_other : (s : Step) (q : List ℕ) → same_path (path_of s) q ≡ false → back s q ≡ q
back_other (Gone p) q off = refl
back_other (Fresh m p) q off = refl
back_other (Mode m p) q off = refl
back_other (Put n m p) q off = refl
back_other (Symlink p target) q off = refl
back_other (Hard p to) q off = rw off refl

source_unnamed : (steps : List Step) (q : List ℕ) → named steps q ≡ false → source steps q ≡ q
source_unnamed [] q off = refl
source_unnamed (s ∷ rest) q off = let h = or_parts (same_path (path_of s) q) (named rest q) off in ap (back s) (source_unnamed rest q h.1) ∙ back_other s q h.0

source_unmade : (steps : List Step) (q : List ℕ) → makes_at steps q ≡ false → source steps q ≡ q
source_unmade [] q off = refl
source_unmade (Gone p ∷ rest) q off = source_unmade rest q off
source_unmade (Mode m p ∷ rest) q off = source_unmade rest q off
source_unmade (Fresh m p ∷ rest) q off = source_unmade rest q (or_parts (same_path p q) (makes_at rest q) off).1
source_unmade (Put n m p ∷ rest) q off = source_unmade rest q (or_parts (same_path p q) (makes_at rest q) off).1
source_unmade (Symlink p target ∷ rest) q off = source_unmade rest q (or_parts (same_path p q) (makes_at rest q) off).1
source_unmade (Hard p to ∷ rest) q off = let h = or_parts (same_path p q) (makes_at rest q) off in ap (back (Hard p to)) (source_unmade rest q h.1) ∙ back_other (Hard p to) q h.0

back_entry : (s : Step) (q : List ℕ) → makes_entry s ≡ true → back s q ≡ q
back_entry (Gone p) q makes = refl
back_entry (Fresh m p) q makes = refl
back_entry (Mode m p) q makes = refl
back_entry (Put n m p) q makes = refl
back_entry (Symlink p target) q makes = refl
back_entry (Hard p to) q makes = cc

-- a path with an entry of its own
source_own : (steps : List Step) (s : Step) → distinct steps ≡ true → Contains steps s → makes_entry s ≡ true → source steps (path_of s) ≡ path_of s
source_own [] s di (k, lt, is) makes = absurd (omega arith)
source_own (x ∷ rest) s di one makes =
    let dis = and_parts (not (named rest (path_of x))) (distinct rest) di in
    elim (first_or_later x rest s one) [
      | inl here ↦
          ap (back x) (source_unnamed rest (path_of s) (ap (λ (y : Step). named rest (path_of y)) (sym here) ∙ not-true _ dis.0))
          ∙ ap (λ (y : Step). back y (path_of s)) here ∙ back_entry s (path_of s) makes
      | inr later ↦ ap (back x) (source_own rest s dis.1 later makes) ∙ back_other x (path_of s) (later_apart x rest s (not-true _ dis.0) later)
    ]

either_way : {A : Type 0} (b : Bool) (x : A) → cond b x x ≡ x
either_way true x = refl
either_way false x = refl

-- a hard link leads where its target does
source_hard : (steps : List Step) (p to : List ℕ) → sound steps ≡ true → distinct steps ≡ true → Contains steps (Hard p to) → source steps p ≡ source steps to
source_hard [] p to so di (k, lt, is) = absurd (omega arith)
source_hard (x ∷ rest) p to so di one =
    let dis = and_parts (not (named rest (path_of x))) (distinct rest) di in
    let sounds = and_parts (sound_before x rest) (sound rest) so in
    elim (first_or_later x rest (Hard p to) one) [
      | inl here ↦
          let unnamed : named rest p ≡ false = ap (λ (y : Step). named rest (path_of y)) (sym here) ∙ not-true _ dis.0 in
          let kept : (not (parent_freed rest p) && not (freed rest to)) ≡ true = ap (λ (y : Step). sound_before y rest) (sym here) ∙ sounds.0 in
          let target : freed rest to ≡ false = not-true _ (and_parts (not (parent_freed rest p)) (not (freed rest to)) kept).1 in
          ap (back x) (source_unnamed rest p unnamed) ∙ ap (λ (y : Step). back y p) here ∙ ap (λ (b : Bool). cond b to p) (same_path-self p)
          ∙ sym (ap (back x) (source_kept rest to target) ∙ ap (λ (y : Step). back y to) here ∙ either_way (same_path p to) to)
      | inr later ↦ ap (back x) (source_hard rest p to sounds.1 dis.1 later)
    ]

-- its target is a file in the end
target_stays : (stage : Stage) (steps : List Step) (t : Image) (p to : List ℕ) → sound steps ≡ true → possible stage steps t ≡ true → Contains steps (Hard p to) → is_file ((all_laid stage steps t).look to) ≡ true
target_stays stage [] t p to so po (k, lt, is) = absurd (omega arith)
target_stays stage (x ∷ rest) t p to so po one =
    let sounds = and_parts (sound_before x rest) (sound rest) so in
    let cans = and_parts (can_lay stage x t) (possible stage rest (laid stage x t)) po in
    elim (first_or_later x rest (Hard p to) one) [
      | inl here ↦
          let kept : (not (parent_freed rest p) && not (freed rest to)) ≡ true = ap (λ (y : Step). sound_before y rest) (sym here) ∙ sounds.0 in
          let can : (has_parent t p && (not (covers p to) && is_file (t.look to))) ≡ true = ap (λ (y : Step). can_lay stage y t) (sym here) ∙ cans.0 in
          let target = and_parts (not (covers p to)) (is_file (t.look to)) (and_parts (has_parent t p) _ can).1 in
          let off : freed (x ∷ rest) to ≡ false = or_from (frees x to) (freed rest to) (ap (λ (y : Step). frees y to) here ∙ not-true _ target.0) (not-true _ (and_parts (not (parent_freed rest p)) (not (freed rest to)) kept).1) in
          is_file-alike _ (t.look to) ((laid_within stage (x ∷ rest) t).but_mode to off) ∙ target.1
      | inr later ↦ target_stays stage rest (laid stage x t) p to sounds.1 cans.1 later
    ]

-- ---- modes

one_more : (later : Option ℕ) (b : Bool) (m : ℕ) (e : Option Entry) → given later (cond b (with_mode m e) e) ≡ given (mode_or later b m) e
one_more (Some k) true m e = mode_over k m e
one_more (Some k) false m e = refl
one_more None true m e = refl
one_more None false m e = refl

-- the last mode decides
pub last_decides : (free : List ℕ → Bool) (steps : List Step) (t : Image) (q : List ℕ) (e : Option Entry) → with_modes free steps t q e ≡ given (last_mode free steps t q) e
last_decides free [] t q e = refl
last_decides free (Gone p ∷ rest) t q e = last_decides free rest t q e
last_decides free (Fresh m p ∷ rest) t q e = last_decides free rest t q e
last_decides free (Put n m p ∷ rest) t q e = last_decides free rest t q e
last_decides free (Symlink p target ∷ rest) t q e = last_decides free rest t q e
last_decides free (Hard p to ∷ rest) t q e = last_decides free rest t q e
last_decides free (Mode m p ∷ rest) t q e = last_decides free rest t q _ ∙ one_more (last_mode free rest t q) (not (free p) && names t p q) m e

-- ---- all of it

module _ (stage : Stage) (steps : List Step) (t : Image) (n : HasNodes t) (so : sound steps ≡ true) (di : distinct steps ≡ true) (po : possible stage steps t ≡ true) where
  abbrev u : Image
  u = outcome stage steps t

  is : all_laid stage steps t ≡ u
  is = laid_outcome stage steps t n so di po

  bare_kept : (q : List ℕ) → freed steps q ≡ false → bare stage steps t q ≡ given (last_mode (freed steps) steps t q) (t.look q)
  bare_kept q off = rw off (last_decides (freed steps) steps t q (t.look q))

  entry : (s : Step) → Contains steps s → makes_entry s ≡ true → frees s (path_of s) ≡ true → u.look (path_of s) ≡ entry_of stage s
  entry s one makes own =
      ap (bare stage steps t) (source_own steps s di one makes)
      ∙ ap (λ (b : Bool). cond b (made stage steps (path_of s)) (with_modes (freed steps) steps t (path_of s) (t.look (path_of s)))) (freed_by steps s (path_of s) one own)
      ∙ made_by stage steps s di one makes

  node : (k m : ℕ) (p : List ℕ) → Contains steps (Put k m p) → (q : List ℕ) → u.same p q ≡ same_path p (source steps q)
  node k m p one q =
      ap (λ (x : List ℕ). bare_same stage steps t x (source steps q)) (source_own steps (Put k m p) di one refl)
      ∙ ap (λ (b : Bool). cond (b || freed steps (source steps q)) (same_path p (source steps q) && is_file (made stage steps p)) (t.same p (source steps q))) (freed_by steps (Put k m p) p one (covers-self p))
      ∙ ap (λ (e : Option Entry). same_path p (source steps q) && is_file e) (made_by stage steps (Put k m p) di one refl)
      ∙ and-true (same_path p (source steps q))

  file_at : (p to : List ℕ) → Contains steps (Hard p to) → is_file (u.look to) ≡ true
  file_at p to one = ap (λ (v : Image). is_file (v.look to)) (sym is) ∙ target_stays stage steps t p to so po one

  nodes : HasNodes u
  nodes = subst HasNodes is (all_nodes stage steps t n)

  gone : (q : List ℕ) → freed steps q ≡ true → makes_at steps q ≡ false → u.look q ≡ None
  gone q f off =
      ap (bare stage steps t) (source_unmade steps q off)
      ∙ ap (λ (b : Bool). cond b (made stage steps q) (with_modes (freed steps) steps t q (t.look q))) f
      ∙ made_none stage steps q off

  -- Laid path by path.
  pub by_path : IsLaidByPath stage steps t (all_laid stage steps t)
  by_path = subst (IsLaidByPath stage steps t) (sym is) (record {
    kept = λ q off. ap (bare stage steps t) (source_kept steps q off) ∙ bare_kept q off;
    sharing = λ a b fa fb. (λ i. bare_same stage steps t (source_kept steps a fa i) (source_kept steps b fb i)) ∙ rw (fa, fb) refl;
    fresh = λ m p one. entry (Fresh m p) one refl (covers-self p);
    put = λ k m p one. entry (Put k m p) one refl (covers-self p);
    own_node = node;
    symlink = λ p target one. entry (Symlink p target) one refl (covers-self p);
    hard = λ p to one.
        let leads = source_hard steps p to so di one in
        (ap (bare stage steps t) leads, file_at p to one, ap (λ (x : List ℕ). bare_same stage steps t x (source steps to)) leads ∙ nodes.self to (file_at p to one));
    hard_node = λ p to one q. ap (λ (x : List ℕ). bare_same stage steps t x (source steps q)) (source_hard steps p to so di one);
    absent = gone;
  })
