-- Directories opened one after another.
use Rattle.std.proofs.Common.{◌≡◌, ◌⊎◌, inl, inr, ⊎_elim, ℕ, Bool, true, false, List, Option, Some, None, is_none, Result, refl, sym, ◌∙◌, ap}
use Rattle.std.proofs.lemmas.Bool.{or_cases, or_from, or_left, false_from_ne_true}
use Rattle.ips_text.specs.Ancestry.{same_path, covers}
use Rattle.ips_text.proofs.Ancestry.{same_path-true, same_path-self, covers-self}
use Rattle.ips_outside.specs.Image.{Entry, Dir, Image, IsImage, is_dir, with_mode}
use Rattle.ips_outside.specs.Change.{moded, names}
use Rattle.ips_outside.specs.State.{State, MayChange, nowhere, mode_set}
use Rattle.ips_outside.specs.Outside.{Outside, IsOutside, Reads}
use Rattle.ips_folder.specs.Calls.{Writes}
use Rattle.ips_folder.proofs.Runs.{keeps_then, keeps_wider, one_read, one_write}
use Rattle.ips_steps.specs.Steps.{stage_name}
use Rattle.ips_steps.proofs.Lists.{clash}
use Rattle.ips_rehearse.specs.Tried.{try_name, dir_name, inner_dir_name}
use Rattle.ips_rehearse.specs.Opening.{LeavesOpen, OnlyOpens}
use Rattle.ips_rehearse.proofs.Passing.{pass_call, pass_then}
use Rattle.ips_rehearse.proofs.Trials.{dir_or_file}

-- ---- the paths

pub staged : covers stage_name stage_name ≡ true
staged = covers-self stage_name

pub trials_staged : covers stage_name try_name ≡ true
unfolding stage_name try_name
trials_staged = refl

pub tried_staged : covers stage_name dir_name ≡ true
unfolding stage_name dir_name
tried_staged = refl

pub inner_staged : covers stage_name inner_dir_name ≡ true
unfolding stage_name inner_dir_name
inner_staged = refl

pub tried_in_trials : covers try_name dir_name ≡ true
unfolding try_name dir_name
tried_in_trials = refl

pub stage_apart : same_path stage_name dir_name ≡ false
unfolding stage_name dir_name
stage_apart = refl

pub trials_apart : same_path try_name dir_name ≡ false
unfolding try_name dir_name
trials_apart = refl

pub inner_other : same_path inner_dir_name dir_name ≡ false
unfolding inner_dir_name dir_name
inner_other = refl

-- what isn't at or below a path is none at or below it
pub off_same : (d p name : List ℕ) → p ≡ name → covers d name ≡ true → (q : List ℕ) → covers d q ≡ false → same_path p q ≡ false
off_same d p name at within q off = false_from_ne_true _ (λ s. clash (covers d q) (ap (covers d) (sym (same_path-true p q s) ∙ at) ∙ within) off)

-- ---- a directory, and what is below none

-- it shares its mode with nothing
dir_alone : (t : Image) → IsImage t → (p : List ℕ) → is_dir (t.look p) ≡ true → (q : List ℕ) → same_path p q ≡ false → names t p q ≡ false
dir_alone t formed p dir q other = or_from (same_path p q) (t.same p q) other (false_from_ne_true (t.same p q) (λ s. dir_or_file (t.look p) dir (formed.files p q s).0))

none_dir : (e : Option Entry) → is_none e ≡ true → is_dir e ≡ false
none_dir (Some e) none = cc
none_dir None none = refl

pub no_dir_below : (t : Image) → IsImage t → (p q : List ℕ) → covers p q ≡ true → same_path p q ≡ false → is_dir (t.look p) ≡ false → is_dir (t.look q) ≡ false
no_dir_below t formed p q c other none = ⊎_elim (λ absent. none_dir (t.look q) absent) (λ dir. clash (is_dir (t.look p)) dir none) (or_cases (is_none (t.look q)) (is_dir (t.look p)) (formed.below_dirs p q c other))

-- ---- what is left open

pub no_dir_open : (p : List ℕ) (t u : Image) → is_dir (t.look p) ≡ false → LeavesOpen p t u
no_dir_open p t u none m f is = let there : is_dir (t.look p) ≡ true = ap is_dir is in clash (is_dir (t.look p)) there none

pub mode_open : (p : List ℕ) (old mid new : State) → mid ≡ old → new ≡ mode_set 448 p mid → LeavesOpen p old.held new.held
mode_open p old mid new same done m f is =
    let here : (moded 448 p mid.held).look p ≡ Some (Dir 448 f) = rw (same_path-self p) (ap (λ (s : State). with_mode 448 (s.held.look p)) same ∙ ap (with_mode 448) is) in
    ap (λ (s : State). s.held.look p) done ∙ here

pub open_behind : (p : List ℕ) (t u v : Image) → u.look p ≡ t.look p → LeavesOpen p u v → LeavesOpen p t v
open_behind p t u v same h m f is = h m f (same ∙ is)

pub open_before : (p : List ℕ) (t u v : Image) → LeavesOpen p t u → v.look p ≡ u.look p → LeavesOpen p t v
open_before p t u v h same m f is = same ∙ h m f is

-- ---- calls

-- a mode is touched
abbrev HasTouched : State → Type 0
HasTouched s = (q : List ℕ) × (s.modes q ≡ true)

mode_touched : (p : List ℕ) (old new : State) → MayChange nowhere (names old.held p) old new → (new ≡ old) ⊎ HasTouched new
mode_touched p old new may = ⊎_elim (λ kept. inl kept)
    (λ changed. inr (p, ap (λ (f : List ℕ → Bool). f p) changed.modes ∙ or_left (names old.held p p) _ (or_left (same_path p p) _ (same_path-self p)))) may

touched_then : (old mid new : State) → (mid ≡ old) ⊎ HasTouched mid → (new ≡ mid) ⊎ HasTouched new → (new ≡ old) ⊎ HasTouched new
touched_then old mid new first last = ⊎_elim
    (λ still. ⊎_elim (λ same. inl (still ∙ same)) (λ touched. inr (touched.0, ap (λ (s : State). s.modes touched.0) still ∙ touched.1)) first)
    (λ touched. inr touched) last

module _ {F : Type 0} (o : Outside F) where
  pub opens_read : (sane : IsOutside o) (loose : List ℕ → Bool) (old new : F) (failure : Type 0) → Reads o old new failure → OnlyOpens o loose old new
  opens_read sane loose old new failure reads = record {
    any_moment = λ told. one_read o sane nowhere loose old new failure reads;
    touched = λ told. inl reads.kept;
    passed = pass_call o old new failure reads.call;
  }

  pub opens_mode : (sane : IsOutside o) (p : List ℕ) (old new : F) {T E : Type 0} (result : Result T E) → (o.tells old ≡ true → is_dir ((o.state old).held.look p) ≡ true)
      → Writes o nowhere (names (o.state old).held p) (mode_set 448 p (o.state old)) old new result → OnlyOpens o (same_path p) old new
  opens_mode sane p old new result dir w = record {
    any_moment = λ told. keeps_wider o nowhere (names (o.state old).held p) nowhere (same_path p) old new (λ q n. n) (dir_alone (o.state old).held (sane.formed old told) p (dir told))
        (one_write o sane old new nowhere (names (o.state old).held p) (mode_set 448 p (o.state old)) result told w);
    touched = λ told. mode_touched p (o.state old) (o.state new) (w.only told);
    passed = pass_call o old new _ w.call;
  }

  pub opens_then : (loose : List ℕ → Bool) (old mid new : F) → o.tells mid ≡ o.tells old → OnlyOpens o loose old mid → OnlyOpens o loose mid new → OnlyOpens o loose old new
  opens_then loose old mid new kind first last = record {
    any_moment = λ told. keeps_then o nowhere loose old mid new (first.any_moment told) (last.any_moment (kind ∙ told));
    touched = λ told. touched_then (o.state old) (o.state mid) (o.state new) (first.touched told) (last.touched (kind ∙ told));
    passed = pass_then o old mid new first.passed last.passed;
  }

  -- at paths at or below the stage
  pub opens_staged : (p name : List ℕ) (old new : F) → p ≡ name → covers stage_name name ≡ true → OnlyOpens o (same_path p) old new → OnlyOpens o (covers stage_name) old new
  opens_staged p name old new at within h = record {
    any_moment = λ told. keeps_wider o nowhere (same_path p) nowhere (covers stage_name) old new (λ q n. n) (off_same stage_name p name at within) (h.any_moment told);
    touched = h.touched;
    passed = h.passed;
  }

  -- what stands at another path stays
  pub opens_beside : (p name : List ℕ) (old new : F) → p ≡ name → same_path name dir_name ≡ false → o.tells old ≡ true → OnlyOpens o (same_path p) old new → (o.state new).held.look dir_name ≡ (o.state old).held.look dir_name
  opens_beside p name old new at apart told h = (h.any_moment told).now.agrees.look dir_name refl (ap (λ (x : List ℕ). same_path x dir_name) at ∙ apart)
