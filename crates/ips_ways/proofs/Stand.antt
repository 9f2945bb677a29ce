-- Directories that are made one after the other stand then.
use Rattle.std.proofs.Common.{◌≡◌, ◌⊎◌, inl, inr, ℕ, zero, suc, ◌<◌, Bool, true, false, cond, ◌||◌, List, [], ◌∷◌, length, Option, Some, None, refl, sym, ap, subst, ◌∙◌, arith}
use Rattle.std.specs.Prelude.{codes}
use Rattle.std.specs.List.{Contains}
use Rattle.std.proofs.lemmas.Bool.{cases_Bool, and_from, or_left, or_right, true_from_ne_false, false≢true}
use Rattle.ips_text.specs.Ancestry.{same_path, covers, parent}
use Rattle.ips_text.specs.Path.{IsPath}
use Rattle.ips_outside.specs.Image.{Entry, Dir, Image, IsImage, is_dir, has_parent, dir_or_none}
use Rattle.ips_outside.specs.Change.{with_entry_at}
use Rattle.ips_outside.proofs.Placed.{look_placed}
use Rattle.ips_outside.proofs.Formed.{placed_formed}
use Rattle.ips_ways.specs.Ways.{CanHave, IsFree, gives_way, is_dir_or_free, with_dir, with_dirs}
use Rattle.ips_ways.proofs.Giving.{gives, none_by, none_below}
use Rattle.ips_ways.proofs.Made.{kept_dir, kept_way}

abbrev Path : Type 0
Path = List ℕ

-- it is one of these
abbrev pub In : List Path → Path → Type 0
In [] d = ⊥
In (x ∷ xs) d = (x ≡ d) ⊎ In xs d

-- each is a path, in the root or in one of those before it
abbrev pub HaveWay : List Path → List Path → Type 0
HaveWay before [] = Unit {0}
HaveWay before (p ∷ paths) = IsPath p × ((parent p ≡ None) ⊎ ((d : Path) × (parent p ≡ Some d) × In before d)) × HaveWay (p ∷ before) paths

-- a directory stands at each, or what gives way to one
abbrev pub AreFree : Image → List Path → Type 0
AreFree t [] = Unit {0}
AreFree t (p ∷ paths) = (is_dir_or_free p (t.look p) ≡ true) × AreFree t paths

-- each is a directory
abbrev pub AreDirs : Image → List Path → Type 0
AreDirs t paths = (d : Path) → In paths d → is_dir (t.look d) ≡ true

-- ---- lists

pub in_of : (xs : List Path) (d : Path) → Contains xs d → In xs d
in_of [] d (k, within, is) = absurd (omega (arith, within))
in_of (x ∷ xs) d (zero, within, is) = inl is
in_of (x ∷ xs) d (suc k, within, is) = inr (in_of xs d (k, omega (arith, within), is))

contains_head : (x : Path) (xs : List Path) → Contains (x ∷ xs) x
contains_head x xs = (zero, omega arith, refl)

contains_tail : (x : Path) (xs : List Path) (d : Path) → Contains xs d → Contains (x ∷ xs) d
contains_tail x xs d (k, within, is) = (suc k, omega (arith, within), is)

pub contains_of : (xs : List Path) (d : Path) → In xs d → Contains xs d
contains_of [] d has = absurd has
contains_of (x ∷ xs) d (inl is) = subst (Contains (x ∷ xs)) is (contains_head x xs)
contains_of (x ∷ xs) d (inr has) = contains_tail x xs d (contains_of xs d has)

pub are_free : (t : Image) (paths : List Path) → IsFree t paths → AreFree t paths
are_free t [] h = tt
are_free t (p ∷ paths) h = (true_from_ne_false (is_dir_or_free p (t.look p)) (h p (contains_head p paths)), are_free t paths (λ q has way. h q (contains_tail p paths q has) way))

-- ---- one directory

module _ (p : Path) (u : Image) where
  made : gives_way p (u.look p) ≡ true → with_dir p u ≡ with_entry_at p (Some (Dir 493 false)) u
  made room = ap (λ (b : Bool). cond b (with_entry_at p (Some (Dir 493 false)) u) u) room

  stood : gives_way p (u.look p) ≡ false → with_dir p u ≡ u
  stood stands = ap (λ (b : Bool). cond b (with_entry_at p (Some (Dir 493 false)) u) u) stands

  there : is_dir_or_free p (u.look p) ≡ true → is_dir ((with_dir p u).look p) ≡ true
  there h = elim (cases_Bool (gives_way p (u.look p))) [
    | inl room ↦ ap (λ (v : Image). is_dir (v.look p)) (made room) ∙ ap is_dir (look_placed p (Some (Dir 493 false)) u)
    | inr stands ↦ ap (λ (v : Image). is_dir (v.look p)) (stood stands) ∙ subst (λ (b : Bool). (b || is_dir (u.look p)) ≡ true) stands h
  ]

  no_dir : (e : Option Entry) → e ≡ None → is_dir e ≡ true → ⊥
  no_dir e none is = false≢true (sym (ap is_dir none) ∙ is)

  placed_dir : IsImage u → gives_way p (u.look p) ≡ true → (d : Path) → is_dir (u.look d) ≡ true → (s c : Bool) → same_path p d ≡ s → covers p d ≡ c → is_dir (cond s (Some (Dir 493 false)) (cond c None (u.look d))) ≡ true
  placed_dir formed room d is true c es ec = refl
  placed_dir formed room d is false false es ec = is
  placed_dir formed room d is false true es ec = absurd (no_dir (u.look d) (none_below u p d formed room ec es) is)

  stays : IsImage u → (d : Path) → is_dir (u.look d) ≡ true → is_dir ((with_dir p u).look d) ≡ true
  stays formed d is = elim (cases_Bool (gives_way p (u.look p))) [
    | inl room ↦ ap (λ (v : Image). is_dir (v.look d)) (made room) ∙ placed_dir formed room d is (same_path p d) (covers p d) refl refl
    | inr stands ↦ ap (λ (v : Image). is_dir (v.look d)) (stood stands) ∙ is
  ]

  placed_free : (k s c : Bool) (e : Option Entry) → (gives k e || is_dir e) ≡ true → (gives k (cond s (Some (Dir 493 false)) (cond c None e)) || is_dir (cond s (Some (Dir 493 false)) (cond c None e))) ≡ true
  placed_free k true c e h = or_right (gives k (Some (Dir 493 false))) true refl
  placed_free k false true e h = or_left (gives k None) false (none_by k None refl)
  placed_free k false false e h = h

  free_stays : (q : Path) → is_dir_or_free q (u.look q) ≡ true → is_dir_or_free q ((with_dir p u).look q) ≡ true
  free_stays q h = elim (cases_Bool (gives_way p (u.look p))) [
    | inl room ↦ ap (λ (v : Image). is_dir_or_free q (v.look q)) (made room) ∙ placed_free (covers (codes "publisher") q) (same_path p q) (covers p q) (u.look q) h
    | inr stands ↦ ap (λ (v : Image). is_dir_or_free q (v.look q)) (stood stands) ∙ h
  ]

  all_free_stay : (paths : List Path) → AreFree u paths → AreFree (with_dir p u) paths
  all_free_stay [] h = tt
  all_free_stay (q ∷ paths) h = (free_stays q h.0, all_free_stay paths h.1)

  formed_with : IsImage u → IsPath p → has_parent u p ≡ true → IsImage (with_dir p u)
  formed_with formed path above = elim (cases_Bool (gives_way p (u.look p))) [
    | inl room ↦ subst IsImage (sym (made room)) (placed_formed p (Some (Dir 493 false)) u formed (λ _. above) (λ _. path) refl)
    | inr stands ↦ subst IsImage (sym (stood stands)) formed
  ]

  placed_none : (s c : Bool) (e : Option Entry) → s ≡ false → e ≡ None → cond s (Some (Dir 493 false)) (cond c None e) ≡ None
  placed_none true c e es h = absurd (false≢true (sym es))
  placed_none false true e es h = refl
  placed_none false false e es h = h

  pub none_stays : (q : Path) → same_path p q ≡ false → u.look q ≡ None → (with_dir p u).look q ≡ None
  none_stays q apart h = elim (cases_Bool (gives_way p (u.look p))) [
    | inl room ↦ ap (λ (v : Image). v.look q) (made room) ∙ placed_none (same_path p q) (covers p q) (u.look q) apart h
    | inr stands ↦ ap (λ (v : Image). v.look q) (stood stands) ∙ h
  ]

-- ---- all of them

way_parent : (before : List Path) (u : Image) (p : Path) → AreDirs u before → ((parent p ≡ None) ⊎ ((d : Path) × (parent p ≡ Some d) × In before d)) → has_parent u p ≡ true
way_parent before u p dirs (inl none) = ap (dir_or_none u) none
way_parent before u p dirs (inr (d, is, has)) = ap (dir_or_none u) is ∙ dirs d has

more_dirs : (before : List Path) (u : Image) (p : Path) → IsImage u → AreDirs u before → is_dir_or_free p (u.look p) ≡ true → AreDirs (with_dir p u) (p ∷ before)
more_dirs before u p formed dirs free d (inl is) = subst (λ (q : Path). is_dir ((with_dir p u).look q) ≡ true) is (there p u free)
more_dirs before u p formed dirs free d (inr has) = stays p u formed d (dirs d has)

-- directories can be made at these paths, behind those before them, which stand
pub record CanStart (before paths : List Path) (u : Image) : Type 0 where
  pub formed : IsImage u
  pub dirs : AreDirs u before
  pub free : AreFree u paths
  pub ways : HaveWay before paths

next : (before paths : List Path) (p : Path) (u : Image) → CanStart before (p ∷ paths) u → CanStart (p ∷ before) paths (with_dir p u)
next before paths p u s = record {
  formed = formed_with p u s.formed s.ways.0 (way_parent before u p s.dirs s.ways.1);
  dirs = more_dirs before u p s.formed s.dirs s.free.0;
  free = all_free_stay p u paths s.free.1;
  ways = s.ways.2;
}

pub can_have : (before paths : List Path) (u : Image) → CanStart before paths u → CanHave u paths
can_have before [] u s = tt
can_have before (p ∷ paths) u s = (and_from (is_dir_or_free p (u.look p)) (has_parent u p) s.free.0 (way_parent before u p s.dirs s.ways.1), can_have (p ∷ before) paths (with_dir p u) (next before paths p u s))

pub stand : (before paths : List Path) (u : Image) → CanStart before paths u → AreDirs (with_dirs paths u) before × AreDirs (with_dirs paths u) paths
stand before [] u s = (s.dirs, λ d has. absurd has)
stand before (p ∷ paths) u s = go (stand (p ∷ before) paths (with_dir p u) (next before paths p u s))
  where
    go : AreDirs (with_dirs paths (with_dir p u)) (p ∷ before) × AreDirs (with_dirs paths (with_dir p u)) paths → AreDirs (with_dirs paths (with_dir p u)) before × AreDirs (with_dirs paths (with_dir p u)) (p ∷ paths)
    go (first, rest) = (λ d has. first d (inr has), either)
      where
        either : AreDirs (with_dirs paths (with_dir p u)) (p ∷ paths)
        either d (inl is) = first d (inl is)
        either d (inr has) = rest d has

pub none_before : (before paths : List Path) (u : Image) → CanStart before paths u → (q : Path) → (with_dirs paths u).look q ≡ None → u.look q ≡ None
none_before before [] u s q none = none
none_before before (p ∷ paths) u s q none = kept_dir p q u (with_dir p u) s.formed refl (none_before (p ∷ before) paths (with_dir p u) (next before paths p u s) q none)

-- what gives way then did so before
pub way_before : (before paths : List Path) (u : Image) → CanStart before paths u → (q : Path) → gives_way q ((with_dirs paths u).look q) ≡ true → gives_way q (u.look q) ≡ true
way_before before [] u s q way = way
way_before before (p ∷ paths) u s q way = kept_way p q u (with_dir p u) s.formed refl (way_before (p ∷ before) paths (with_dir p u) (next before paths p u s) q way)

pub formed_then : (before paths : List Path) (u : Image) → CanStart before paths u → IsImage (with_dirs paths u)
formed_then before [] u s = s.formed
formed_then before (p ∷ paths) u s = formed_then (p ∷ before) paths (with_dir p u) (next before paths p u s)

-- the rest can be made once the first are
pub free_then : (paths : List Path) (u : Image) (rest : List Path) → AreFree u rest → AreFree (with_dirs paths u) rest
free_then [] u rest h = h
free_then (p ∷ paths) u rest h = free_then paths (with_dir p u) rest (all_free_stay p u rest h)
