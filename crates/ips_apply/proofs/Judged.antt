-- What is looked at before a step is laid tells whether it can be laid.
use Rattle.std.proofs.Common.{◌≡◌, ℕ, Bool, true, false, not, ◌&&◌, ◌||◌, [], ◌∷◌, Option, is_some, Result, Ok, Err, IfOk, refl, sym, ◌∙◌, ap, subst}
use Rattle.ips_text.specs.Ancestry.{covers}
use Rattle.ips_outside.specs.Image.{Image, IsImage, is_dir, is_file, has_parent, dir_or_none}
use Rattle.ips_outside.specs.Change.{moded}
use Rattle.ips_steps.specs.Steps.{Step, Gone, Fresh, Mode, Put, Symlink, Hard, path_of, stage_name, stage_path, feasible}
use Rattle.ips_steps.specs.Journal.{step_allowed}
use Rattle.ips_steps.specs.View.{step_of, sort_of}
use Rattle.ips_steps.specs.declared.step.Step as program
use Rattle.ips_steps.specs.declared.step.Step.TheVariants as step
use Rattle.ips_text.specs.declared.path.RelPath.{RelPath}
use Rattle.ips_steps.specs.declared.step.Sort.TheVariants as sort
use Rattle.ips_steps.proofs.Numbered.{content_parent, content_covered}
use Rattle.ips_apply.specs.Judging.{finds_source}
use Rattle.ips_apply.proofs.Puts.{moded_is_file, moded_parent, put_apart}
use Rattle.ips_steps.proofs.ByName.{apart_names}
use Rattle.ips_outside.proofs.Looks.{and_true, file_stands}

-- the folder of a content that is a file is a directory
stage_stands : (n : ℕ) (t : Image) → IsImage t → is_file (t.look (stage_path n)) ≡ true → has_parent t (stage_path n) ≡ true
stage_stands n t formed file =
    ap (dir_or_none t) (content_parent n)
    ∙ subst (λ (b : Bool). (b || is_dir (t.look stage_name)) ≡ true) (file_stands (t.look (stage_path n)) file) (formed.below_dirs stage_name (stage_path n) (content_covered n) (apart_names n))

-- in a put's words
put_asks : (file here up here' file' over : Bool) → over ≡ false → here' ≡ here → file' ≡ file → (file ≡ true → up ≡ true) → (up && ((here' && (not over && file')) && true)) ≡ (here && file)
put_asks true true up here' file' over off eh ef above = rw (off, eh, ef, above refl) refl
put_asks true false up here' file' over off eh ef above = rw (eh, above refl) refl
put_asks false true true here' file' over off eh ef above = rw (off, eh, ef) refl
put_asks false true false here' file' over off eh ef above = refl
put_asks false false true here' file' over off eh ef above = rw eh refl
put_asks false false false here' file' over off eh ef above = refl

-- a step that takes more than away asks for a directory above it, and for the file of which it makes one more name
pub asks : (s : Step) (t : Image) → IsImage t → step_allowed s ≡ true → (sort_of s ≡ sort.Gone → ⊥) → feasible (s ∷ []) t ≡ (has_parent t (path_of s) && finds_source t s)
asks (Gone p) t formed may other = absurd (other refl)
asks (Fresh m p) t formed may other = refl
asks (Mode m p) t formed may other = refl
asks (Put n m p) t formed may other =
    let file = stage_path n in
    put_asks (is_file (t.look file)) (has_parent t p) (has_parent t file) (has_parent (moded m file t) p) (is_file ((moded m file t).look file)) (covers p file)
    (put_apart n m p may) (moded_parent m file p t) (moded_is_file m file file t) (stage_stands n t formed)
asks (Symlink p target) t formed may other = refl
asks (Hard p to) t formed may other = and_true _

-- another sort of step
pub not_gone : (x : program.Step) → ((p : RelPath) → x ≡ step.Gone p → ⊥) → sort_of (step_of x) ≡ sort.Gone → ⊥
not_gone (step.Gone p) other is = other p refl
not_gone (step.Fresh p m) other is = cc
not_gone (step.Mode p m) other is = cc
not_gone (step.Put p m n) other is = cc
not_gone (step.Link p target) other is = cc
not_gone (step.Hard p to) other is = cc

module _ (s : Step) (t : Image) (formed : IsImage t) (may : step_allowed s ≡ true) (other : sort_of s ≡ sort.Gone → ⊥) where
  -- without a directory above it, it can't
  pub needs_parent : (here : Bool) → here ≡ has_parent t (path_of s) → here ≡ false → false ≡ feasible (s ∷ []) t
  needs_parent here found none = sym (asks s t formed may other ∙ ap (λ (b : Bool). b && finds_source t s) (sym found ∙ none))

  -- and else it can where its file stands
  pub needs_source : (here : Bool) → here ≡ has_parent t (path_of s) → here ≡ true → (u : Image) → u ≡ t → {E : Type 0} (r : Result (Option Bool) E) → IfOk r (λ answer. is_some answer ≡ finds_source u s) → IfOk r (λ answer. is_some answer ≡ feasible (s ∷ []) t)
  needs_source here found there u same (Ok answer) known =
      known ∙ ap (λ (v : Image). finds_source v s) same ∙ sym (asks s t formed may other ∙ ap (λ (b : Bool). b && finds_source t s) (sym found ∙ there))
  needs_source here found there u same (Err e) known = tt
