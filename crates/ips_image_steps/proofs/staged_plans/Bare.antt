-- Whether steps can be laid doesn't depend on which bytes are staged for them.
use Rattle.std.proofs.Common.{◌≡◌, ℕ, Bool, true, false, cond, not, ◌&&◌, ◌||◌, List, [], ◌∷◌, Option, Some, None, is_some, refl, sym, ◌∙◌, ap}
use Rattle.ips_text.specs.Ancestry.{same_path, covers, is_below, parent}
use Rattle.ips_outside.specs.Image.{Dir, Entry, File, Image, Link, Other, dir_or_none, is_dir, is_file, with_mode}
use Rattle.ips_outside.specs.Change.{names}
use Rattle.ips_steps.specs.Steps.{Fresh, Gone, Hard, Mode, Put, Stage, Step, Symlink, can_lay, laid, possible}

-- what stands there, but for the bytes of a file
abbrev bare : Option Entry → Option Entry
bare (Some (Dir m f)) = Some (Dir m f)
bare (Some (File m b)) = Some (File m [])
bare (Some (Link g)) = Some (Link g)
bare (Some Other) = Some Other
bare None = None

-- Both images are the same but for the bytes of files.
record SameButBytes (t u : Image) : Type 0 where
  look : (q : List ℕ) → bare (t.look q) ≡ bare (u.look q)
  same : (a b : List ℕ) → t.same a b ≡ u.same a b

dir_bare : (e : Option Entry) → is_dir (bare e) ≡ is_dir e
dir_bare (Some (Dir m f)) = refl
dir_bare (Some (File m b)) = refl
dir_bare (Some (Link g)) = refl
dir_bare (Some Other) = refl
dir_bare None = refl

file_bare : (e : Option Entry) → is_file (bare e) ≡ is_file e
file_bare (Some (Dir m f)) = refl
file_bare (Some (File m b)) = refl
file_bare (Some (Link g)) = refl
file_bare (Some Other) = refl
file_bare None = refl

mode_bare : (m : ℕ) (e : Option Entry) → with_mode m (bare e) ≡ bare (with_mode m e)
mode_bare m (Some (Dir n f)) = refl
mode_bare m (Some (File n b)) = refl
mode_bare m (Some (Link g)) = refl
mode_bare m (Some Other) = refl
mode_bare m None = refl

placed : (at below : Bool) (e f x y : Option Entry) → bare e ≡ bare f → bare x ≡ bare y → bare (cond at e (cond below None x)) ≡ bare (cond at f (cond below None y))
placed true below e f x y here else = here
placed false true e f x y here else = refl
placed false false e f x y here else = else

given : (m : ℕ) (at : Bool) (x y : Option Entry) → bare x ≡ bare y → bare (cond at (with_mode m x) x) ≡ bare (cond at (with_mode m y) y)
given m true x y is = sym (mode_bare m x) ∙ ap (with_mode m) is ∙ mode_bare m y
given m false x y is = is

module _ (x y : Stage) (alike : (n : ℕ) → is_some (x n) ≡ is_some (y n)) where
  laid_bare : (s : Step) (t u : Image) → SameButBytes t u → SameButBytes (laid x s t) (laid y s u)
  laid_bare (Gone p) t u h = record {
    look = λ q. placed (same_path p q) (covers p q) None None (t.look q) (u.look q) refl (h.look q);
    same = λ a b. ap (λ (c : Bool). cond (covers p a || covers p b) (same_path p a && (same_path p b && false)) c) (h.same a b);
  }
  laid_bare (Fresh m p) t u h = record {
    look = λ q. placed (same_path p q) (covers p q) (Some (Dir m false)) (Some (Dir m false)) (t.look q) (u.look q) refl (h.look q);
    same = λ a b. ap (λ (c : Bool). cond (covers p a || covers p b) (same_path p a && (same_path p b && false)) c) (h.same a b);
  }
  laid_bare (Mode m p) t u h = record {
    look = λ q. given m (names t p q) (t.look q) (u.look q) (h.look q) ∙ ap (λ (c : Bool). bare (cond (same_path p q || c) (with_mode m (u.look q)) (u.look q))) (h.same p q);
    same = h.same;
  }
  laid_bare (Put n m p) t u h = record {
    look = λ q. placed (same_path p q) (covers p q) _ _ (t.look q) (u.look q) refl (h.look q);
    same = λ a b. ap (λ (c : Bool). cond (covers p a || covers p b) (same_path p a && (same_path p b && true)) c) (h.same a b);
  }
  laid_bare (Symlink p target) t u h = record {
    look = λ q. placed (same_path p q) (covers p q) (Some (Link target)) (Some (Link target)) (t.look q) (u.look q) refl (h.look q);
    same = λ a b. ap (λ (c : Bool). cond (covers p a || covers p b) (same_path p a && (same_path p b && false)) c) (h.same a b);
  }
  laid_bare (Hard p to) t u h = record {
    look = λ q. placed (same_path p q) (covers p q) (t.look to) (u.look to) (t.look q) (u.look q) (h.look to) (h.look q);
    same = λ a b. ap (λ (c : Bool). cond (is_below p a || is_below p b) false c) (h.same (cond (same_path p a) to a) (cond (same_path p b) to b));
  }

  module _ (t u : Image) (h : SameButBytes t u) where
    dir_same : (q : List ℕ) → is_dir (t.look q) ≡ is_dir (u.look q)
    dir_same q = sym (dir_bare (t.look q)) ∙ ap is_dir (h.look q) ∙ dir_bare (u.look q)

    file_same : (q : List ℕ) → is_file (t.look q) ≡ is_file (u.look q)
    file_same q = sym (file_bare (t.look q)) ∙ ap is_file (h.look q) ∙ file_bare (u.look q)

    parent_same : (o : Option (List ℕ)) → dir_or_none t o ≡ dir_or_none u o
    parent_same (Some q) = dir_same q
    parent_same None = refl

    can_same : (s : Step) → can_lay x s t ≡ can_lay y s u
    can_same (Gone p) = refl
    can_same (Fresh m p) = parent_same (parent p)
    can_same (Mode m p) = parent_same (parent p)
    can_same (Put n m p) = λ i. parent_same (parent p) i && alike n i
    can_same (Symlink p target) = parent_same (parent p)
    can_same (Hard p to) = λ i. parent_same (parent p) i && (not (covers p to) && file_same to i)

  possible_bare : (steps : List Step) (t u : Image) → SameButBytes t u → possible x steps t ≡ possible y steps u
  possible_bare [] t u h = refl
  possible_bare (s ∷ rest) t u h = λ i. can_same t u h s i && possible_bare rest (laid x s t) (laid y s u) (laid_bare s t u h) i

  pub possible_alike : (steps : List Step) (t : Image) → possible x steps t ≡ possible y steps t
  possible_alike steps t = possible_bare steps t t (record { look = λ q. refl; same = λ a b. refl })
