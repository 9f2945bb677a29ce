-- Directories that go, step after step.
use Rattle.std.proofs.Common.{◌≡◌, ◌⊎◌, inl, inr, ⊎_elim, ℕ, zero, suc, ◌+◌, ◌<◌, ◌≤◌, ◌++◌, ◌∷◌, [], Bool, true, false, ◌||◌, List, Option, IsTrue, Some, None, is_some, is_none, length, take, get_or, refl, sym, ◌∙◌, ap, subst, arith}
use Rattle.std.specs.List.{All, list_any}
use Rattle.std.proofs.lemmas.Bool.{or_cases, or_left, or_right, and_from}
use Rattle.std.proofs.lemmas.List.Elements.{All-more, All-weaker}
use Rattle.ips_text.specs.Ancestry.{covers, same_path, parent}
use Rattle.ips_text.proofs.Ancestry.{AtParent, at_parent_of, covers_trans, covers-self, parent_covers, parent_length, same_path-true, same_path-self}
use Rattle.ips_text.specs.Kept.{Kept}
use Rattle.ips_outside.specs.Children.{is_child, is_directory, path_bytes}
use Rattle.ips_outside.specs.Image.{Entry, Image, IsImage, Dir, File, Link, Other, is_dir}
use Rattle.ips_outside.specs.Outside.{look_of}
use Rattle.ips_outside.specs.declared.outside.Look.{Look}
use Rattle.ips_outside.specs.declared.outside.Look.TheVariants as look
use Rattle.ips_steps.proofs.Lists.{clash}
use Rattle.ips_steps.specs.Steps.{path_of}
use Rattle.ips_steps.specs.View.{step_of}
use Rattle.ips_steps.specs.declared.step.Step.{Step}
use Rattle.ips_rehearse.proofs.Longest.{any_next}
use Rattle.ips_rehearse.specs.Asked.{may_take}
use Rattle.ips_rehearse.specs.Going.{IsFound, IsMet, is_under}
use Rattle.ips_rehearse.specs.Tried.{in_modes, KeepsModes}

-- ---- the child of a directory on the way to a path below it

pub record Toward (p d : List ℕ) : Type 0 where
  pub child : List ℕ
  pub is : parent child ≡ Some p
  pub up : covers child d ≡ true

pub toward : (p d : List ℕ) → covers p d ≡ true → same_path p d ≡ false → Toward p d
toward p d c s = go (length d) d (omega arith) c s
  where
    decide : (d : List ℕ) (a : AtParent p d) → (same_path p a.dir ≡ false → Toward p a.dir) → (b : Bool) → same_path p a.dir ≡ b → Toward p d
    decide d a shorter true same = record { child = d; is = a.is ∙ ap (λ (x : List ℕ). Some x) (sym (same_path-true p a.dir same)); up = covers-self d }
    decide d a shorter false other =
        let rest = shorter other in
        record { child = rest.child; is = rest.is; up = covers_trans rest.child a.dir d rest.up (parent_covers d a.dir a.is) }

    go : (n : ℕ) (d : List ℕ) → length d ≤ n → covers p d ≡ true → same_path p d ≡ false → Toward p d
    go zero d le c s = let a = at_parent_of p d c s in let less = parent_length d a.dir a.is in absurd (omega (arith, le, less))
    go (suc n) d le c s =
        let a = at_parent_of p d c s in
        let less = parent_length d a.dir a.is in
        decide d a (λ other. go n a.dir (omega (arith, le, less)) a.up other) (same_path p a.dir) refl

-- what is above something that stands, stands
above_stands : (t : Image) → IsImage t → (p d : List ℕ) (e : Entry) → covers p d ≡ true → t.look d ≡ Some e → is_some (t.look p) ≡ true
above_stands t formed p d e c stands = go (same_path p d) refl
  where
    some_of : (x : Option Entry) → is_dir x ≡ true → is_some x ≡ true
    some_of (Some (Dir m f)) is = refl
    some_of (Some (File m b)) is = refl
    some_of (Some (Link g)) is = refl
    some_of (Some Other) is = refl
    some_of None is = cc

    go : (b : Bool) → same_path p d ≡ b → is_some (t.look p) ≡ true
    go true same = ap (λ (x : List ℕ). is_some (t.look x)) (same_path-true p d same) ∙ ap is_some stands
    go false other = some_of (t.look p) (⊎_elim (λ none. let bad : is_none (t.look d) ≡ false = ap is_none stands in clash (is_none (t.look d)) none bad) (λ dir. dir) (or_cases _ _ (formed.below_dirs p d c other)))

-- a directory above something that stands is one
pub dir_above : (t : Image) → IsImage t → (p d : List ℕ) (e : Entry) → covers p d ≡ true → same_path p d ≡ false → t.look d ≡ Some e → is_dir (t.look p) ≡ true
dir_above t formed p d e c other stands = ⊎_elim (λ none. let bad : is_none (t.look d) ≡ false = ap is_none stands in clash (is_none (t.look d)) none bad) (λ dir. dir) (or_cases _ _ (formed.below_dirs p d c other))

-- the child toward what stands is a child
pub child_toward : (t : Image) → IsImage t → (p d : List ℕ) (e : Entry) (w : Toward p d) → t.look d ≡ Some e → is_child t p w.child ≡ true
child_toward t formed p d e w stands = and_from _ _ (above_stands t formed w.child d e w.up stands) (ap (is_directory p) w.is ∙ same_path-self p)

-- ---- paths at and below others

pub under_more : (paths : List Kept) (more : Kept) (d : List ℕ) → is_under (paths ++ more ∷ []) d ≡ (is_under paths d || covers more.bytes d)
under_more [] more d = alone (covers more.bytes d)
  where
    alone : (b : Bool) → (b || false) ≡ b
    alone true = refl
    alone false = refl
under_more (p ∷ paths) more d = ap (λ (b : Bool). covers p.bytes d || b) (under_more paths more d) ∙ apart (covers p.bytes d) (is_under paths d) (covers more.bytes d)
  where
    apart : (a b c : Bool) → (a || (b || c)) ≡ ((a || b) || c)
    apart true b c = refl
    apart false b c = refl

-- ---- modes that are found

-- where nothing goes with the step
pub found_off : (t : Image) (made : List ℕ → Bool) (has : List Bool) (s : Step) → may_take made (step_of s) ≡ false → IsFound t made has s
found_off t made has s off m f d q may up there child = clash (may_take made (step_of s)) may off

module _ (t : Image) (made : List ℕ → Bool) (a b : List Bool) (keeps : KeepsModes a b) where
  pub found_kept : (steps : List Step) → All (IsFound t made a) steps → All (IsFound t made b) steps
  found_kept steps all = All-weaker (IsFound t made a) (IsFound t made b) (λ s h m f d q may up there child. keeps m (h m f d q may up there child)) steps all

-- a path stays met
pub met_kept : (t : Image) (a b : List Bool) (left more : List Kept) (d : List ℕ) → KeepsModes a b → (IsTrue (is_under left d) → IsTrue (is_under more d)) → IsMet t a left d → IsMet t b more d
met_kept t a b left more d keeps wider met m f q there child = ⊎_elim (λ had. inl (keeps m had)) (λ under. inr (wider under)) (met m f q there child)

-- What goes with each step is met.
abbrev pub AllMet : Image → (List ℕ → Bool) → List Bool → List Kept → Step → Type 0
AllMet t made has left s = (d : List ℕ) → IsTrue (may_take made (step_of s)) → IsTrue (covers (path_of (step_of s)) d) → IsMet t has left d

pub met_off : (t : Image) (made : List ℕ → Bool) (has : List Bool) (left : List Kept) (s : Step) → may_take made (step_of s) ≡ false → AllMet t made has left s
met_off t made has left s off d may up = clash (may_take made (step_of s)) may off

module _ (t : Image) (made : List ℕ → Bool) (a b : List Bool) (left more : List Kept) (keeps : KeepsModes a b) (wider : (d : List ℕ) → IsTrue (is_under left d) → IsTrue (is_under more d)) where
  pub met_more : (steps : List Step) (i : ℕ) (s : Step) → i < length steps → s ≡ get_or steps i s → All (AllMet t made a left) (take i steps) → AllMet t made b more s → All (AllMet t made b more) (take (i + 1) steps)
  met_more steps i s lt is all here = All-more (AllMet t made b more) steps i s lt
      (All-weaker (AllMet t made a left) (AllMet t made b more) (λ x h d may up. met_kept t a b left more d keeps (wider d) (h d may up)) (take i steps) all)
      (subst (AllMet t made b more) is here)

-- where all that is left was walked
pub met_found : (t : Image) (made : List ℕ → Bool) (a b : List Bool) (left : List Kept) → KeepsModes a b
    → ((d : List ℕ) (m : ℕ) (f : Bool) (q : List ℕ) → IsTrue (is_under left d) → t.look d ≡ Some (Dir m f) → IsTrue (is_child t d q) → IsTrue (in_modes b m))
    → (steps : List Step) → All (AllMet t made a left) steps → All (IsFound t made b) steps
met_found t made a b left keeps walked steps all = All-weaker (AllMet t made a left) (IsFound t made b)
    (λ s h m f d q may up there child. ⊎_elim (λ had. keeps m had) (λ under. walked d m f q under there child) (h d may up m f q there child)) steps all

-- ---- what a listing tells

-- below a child that is listed
pub under_child : (kids : List Kept) (c d : List ℕ) → list_any (λ p. same_path p c) (path_bytes kids) ≡ true → covers c d ≡ true → is_under kids d ≡ true
under_child [] c d is up = cc
under_child (k ∷ kids) c d is up = ⊎_elim
    (λ same. or_left (covers k.bytes d) (is_under kids d) (ap (λ (x : List ℕ). covers x d) (same_path-true k.bytes c same) ∙ up))
    (λ later. or_right (covers k.bytes d) (is_under kids d) (under_child kids c d later up))
    (or_cases (same_path k.bytes c) (list_any (λ p. same_path p c) (path_bytes kids)) is)

module _ (t : Image) (formed : IsImage t) (p : List ℕ) (has : List Bool) (left : List Kept) where
  -- at and below what is no directory
  pub met_leaf : is_dir (t.look p) ≡ false → (d : List ℕ) → covers p d ≡ true → IsMet t has left d
  met_leaf leaf d up m f q there child = absurd (go (same_path p d) refl)
    where
      go : (b : Bool) → same_path p d ≡ b → ⊥
      go true same = clash (is_dir (t.look p)) (ap (λ (x : List ℕ). is_dir (t.look x)) (same_path-true p d same) ∙ ap is_dir there) leaf
      go false other = clash (is_dir (t.look p)) (dir_above t formed p d (Dir m f) up other there) leaf

  -- at and below a directory that was listed
  pub met_dir : (k : ℕ) (x : Bool) (kids : List Kept) → t.look p ≡ Some (Dir k x) → ((q : List ℕ) → list_any (λ c. same_path c q) (path_bytes kids) ≡ is_child t p q)
      → ((q : List ℕ) → list_any (λ c. same_path c q) (path_bytes kids) ≡ true → IsTrue (in_modes has k)) → ((d : List ℕ) → IsTrue (is_under kids d) → IsTrue (is_under left d)) → (d : List ℕ) → covers p d ≡ true → IsMet t has left d
  met_dir k x kids stands each added pushed d up m f q there child = go (same_path p d) refl
    where
      go : (b : Bool) → same_path p d ≡ b → IsTrue (in_modes has m) ⊎ IsTrue (is_under left d)
      go true same =
          let at : p ≡ d = same_path-true p d same in
          let one : k ≡ m = mode_of (sym stands ∙ ap t.look at ∙ there) in
          inl (subst (λ (n : ℕ). IsTrue (in_modes has n)) one (added q (each q ∙ ap (λ (y : List ℕ). is_child t y q) at ∙ child)))
        where
          mode_of : Some (Dir k x) ≡ Some (Dir m f) → k ≡ m
          mode_of is = cc
      go false other =
          let w = toward p d up other in
          inr (pushed d (under_child kids w.child d (each w.child ∙ child_toward t formed p d (Dir m f) w there) w.up))

pub under_next : (paths : List Kept) (i : ℕ) (k : Kept) (d : List ℕ) → i < length paths → k ≡ get_or paths i k → is_under (take (i + 1) paths) d ≡ (covers k.bytes d || is_under (take i paths) d)
under_next paths i k d lt is = sym (any_next (λ (p : Kept). covers p.bytes d) paths i k lt is (is_under (take i paths) d) (covers k.bytes d || is_under (take i paths) d) refl refl)

-- what a look tells
pub leaf_of : (l : Look) (e : Option Entry) → ((m : ℕ) → l ≡ look.Dir m → ⊥) → l ≡ look_of e → is_dir e ≡ false
leaf_of l (Some (Dir m f)) unlike is = absurd (unlike m is)
leaf_of l (Some (File m b)) unlike is = refl
leaf_of l (Some (Link g)) unlike is = refl
leaf_of l (Some Other) unlike is = refl
leaf_of l None unlike is = refl

pub record DirAt (m : ℕ) (e : Option Entry) : Type 0 where
  pub foreign : Bool
  pub is : e ≡ Some (Dir m foreign)

pub dir_at : (l : Look) (e : Option Entry) (m : ℕ) → l ≡ look_of e → l ≡ look.Dir m → DirAt m e
dir_at l (Some (Dir k f)) m is told = record { foreign = f; is = let one : k ≡ m = cc in ap (λ (n : ℕ). Some (Dir n f)) one }
dir_at l (Some (File k b)) m is told = cc
dir_at l (Some (Link g)) m is told = cc
dir_at l (Some Other) m is told = cc
dir_at l None m is told = cc
