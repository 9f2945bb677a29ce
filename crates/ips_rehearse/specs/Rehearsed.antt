-- What was tried of a list of steps.
use Rattle.std.specs.Prelude.{◌≡◌, ◌⊎◌, ℕ, ◌<◌, Bool, IsTrue, List, [], Some}
use Rattle.std.specs.List.{All, list_any}
use Rattle.ips_text.specs.Ancestry.{covers}
use Rattle.ips_outside.specs.Children.{is_child}
use Rattle.ips_outside.specs.Image.{Dir, is_file}
use Rattle.ips_outside.specs.Outside.{Outside}
use Rattle.ips_steps.specs.Steps.{path_of, stage_path}
use Rattle.ips_steps.specs.View.{step_of}
use Rattle.ips_steps.specs.declared.step.Step.{Step}
use Rattle.ips_rehearse.specs.Asked.{IsLongest, gives_dir, gives_file, gives_worked, last_part, makes_name, may_take, target_of}
use Rattle.ips_rehearse.specs.Plans.{is_made, is_passed, is_worked, is_worked_first}
use Rattle.ips_rehearse.specs.Tried.{in_modes, in_try, IsDirOf, IsFileOf, IsLinkTo, IsNamed, Stood, WasWorked}

-- A file was given a further name: the first content, where there is one.
pub record HasNamed {F : Type 0} (o : Outside F) (contents : ℕ) (old new : F) : Type 0 where
  pub to : List ℕ
  pub content : 0 < contents → to ≡ stage_path 0
  pub named : Stood o old new (IsNamed to)

-- A further name of a file, the longest target and the longest name of these steps were tried.
pub record HasTried {F : Type 0} (o : Outside F) (steps : List Step) (contents : ℕ) (old new : F) : Type 0 where
  pub name_of : IsTrue (list_any (λ s. makes_name (step_of s)) steps) → HasNamed o contents old new
  pub target : List ℕ
  pub longest_target : IsLongest (λ s. target_of (step_of s)) steps target
  pub linked : (target ≡ []) ⊎ Stood o old new (IsLinkTo target)
  pub name : List ℕ
  pub longest_name : IsLongest (λ s. last_part (path_of (step_of s))) steps name
  pub named : (name ≡ []) ⊎ Stood o old new (λ t. IsTrue (is_file (t.look (in_try name))))

-- Each of these modes was tried: of directories that are worked in, of directories, and of files.
pub record HasTriedModes {F : Type 0} (o : Outside F) (old new : F) (worked dirs files : List Bool) : Type 0 where
  pub works : (m : ℕ) → IsTrue (in_modes worked m) → WasWorked o m old new
  pub makes : (m : ℕ) → IsTrue (in_modes dirs m) → Stood o old new (IsDirOf m)
  pub sets : (m : ℕ) → IsTrue (in_modes files m) → Stood o old new (IsFileOf m)

-- Each mode was worked in that a directory has, in the image before, which holds something and goes with the step.
abbrev pub HasTriedGoing : {F : Type 0} → Outside F → (List ℕ → Bool) → F → F → Step → Type 0
HasTriedGoing o made old new s = (m : ℕ) (f : Bool) (d q : List ℕ) → IsTrue (may_take made (step_of s)) → IsTrue (covers (path_of (step_of s)) d) → (o.state old).held.look d ≡ Some (Dir m f)
    → IsTrue (is_child (o.state old).held d q) → WasWorked o m old new

-- All that these steps ask of a file system was tried. Worked in are the modes that steps give to directories in which something is
-- made or taken away, or that are gone through, whatever the order, since steps may be laid again behind any; that which stands where
-- something is made or taken away before a step gives one; and those of what goes.
pub record IsRehearsed {F : Type 0} (o : Outside F) (steps : List Step) (contents : ℕ) (old new : F) : Type 0 where
  pub tried : HasTried o steps contents old new
  pub given : (m : ℕ) → IsTrue (list_any (λ s. gives_worked (is_worked steps) (is_passed steps) m (step_of s)) steps) → WasWorked o m old new
  pub standing : (q : List ℕ) (m : ℕ) (f : Bool) → IsTrue (is_worked_first steps q) → (o.state old).held.look q ≡ Some (Dir m f) → WasWorked o m old new
  pub going : All (HasTriedGoing o (is_made steps) old new) steps
  pub dirs : (m : ℕ) → IsTrue (list_any (λ s. gives_dir m (step_of s)) steps) → Stood o old new (IsDirOf m)
  pub files : (m : ℕ) → IsTrue (list_any (λ s. gives_file m (step_of s)) steps) → Stood o old new (IsFileOf m)
