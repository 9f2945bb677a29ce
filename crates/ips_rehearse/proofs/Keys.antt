-- Sets of paths and of modes.
use Rattle.ips_text.proofs.Ancestry.{same_path-true, at_parent_of, covers_trans, covers-self, covers-parent, parent_covers}
use Rattle.std.proofs.Common.{◌≡◌, ℕ, Bool, true, false, ◌||◌, ◌&&◌, ◌==◌, List, [], ◌∷◌, Vec, Global, Some, refl, sym, ◌∙◌, ap, not, ⊎_elim, None}
use Rattle.std.specs.List.{list_any}
use Rattle.std.specs.Ordering.{nat_cmp, is_eq}
use Rattle.std.specs.Cmp.Lexicographic.{slice_cmp}
use Rattle.std.proofs.lemmas.Bool.{or_right, false_from_ne_true, or_left, or_cases, and_parts, and_from, not-true, not_from_false}
use Rattle.ips_text.specs.Ancestry.{same_path, parent, covers, is_below}
use Rattle.ips_text.proofs.Truths.{or_false}
use Rattle.ips_outside.specs.Children.{is_directory}
use Rattle.ips_outside.proofs.Maps.{is_eq-path}
use Rattle.ips_steps.specs.Steps.{Step, Gone, Fresh, Mode, Put, Symlink, Hard, path_of}
use Rattle.ips_steps.specs.View.{step_of, sort_of}
use Rattle.ips_steps.specs.declared.step.Step as program
use Rattle.ips_steps.specs.declared.step.Step.TheVariants as step
use Rattle.ips_text.specs.declared.path.RelPath.{RelPath}
use Rattle.ips_steps.specs.declared.step.Sort.TheVariants as sort
use Rattle.ips_steps.proofs.Lists.{clash, same_path-sym}
use Rattle.ips_rehearse.specs.Asked.{works_in}
use Rattle.ips_rehearse.specs.Tried.{in_modes, KeepsModes}

-- a path is found by its bytes
pub found_path : (q : List ℕ) (keys : List (Vec ℕ Global)) → list_any (λ k. is_eq (slice_cmp nat_cmp q k.items)) keys ≡ list_any (λ k. same_path k.items q) keys
found_path q [] = refl
found_path q (k ∷ keys) = (λ i. is_eq-path q k.items i || found_path q keys i)

-- what was added to modes keeps them
pub keeps_added : (old new : List Bool) (mode : ℕ) (wanted : Bool) → ((m : ℕ) → in_modes new m ≡ ((wanted && (mode == m)) || in_modes old m)) → KeepsModes old new
keeps_added old new mode wanted added m was = added m ∙ or_right (wanted && (mode == m)) _ was

pub keeps_none : (modes : List Bool) → KeepsModes modes modes
keeps_none modes m was = was

pub keeps_then : (a b c : List Bool) → KeepsModes a b → KeepsModes b c → KeepsModes a c
keeps_then a b c first last m was = last m (first m was)

two_ways : (p q : List ℕ) (b : Bool) → same_path p q ≡ b → same_path p q ≡ same_path q p
two_ways p q true is = is ∙ sym (same_path-sym p q is)
two_ways p q false is = is ∙ sym (false_from_ne_true _ (λ s. clash (same_path p q) (same_path-sym q p s) is))

-- where a step is no mode, it works in its parent
pub works_at : (s : Step) (dir q : List ℕ) → (sort_of s ≡ sort.Mode → ⊥) → parent (path_of s) ≡ Some dir → same_path dir q ≡ works_in q s
works_at (Gone p) dir q other is = two_ways dir q (same_path dir q) refl ∙ ap (is_directory q) (sym is)
works_at (Fresh m p) dir q other is = two_ways dir q (same_path dir q) refl ∙ ap (is_directory q) (sym is)
works_at (Mode m p) dir q other is = absurd (other refl)
works_at (Put n m p) dir q other is = two_ways dir q (same_path dir q) refl ∙ ap (is_directory q) (sym is)
works_at (Symlink p target) dir q other is = two_ways dir q (same_path dir q) refl ∙ ap (is_directory q) (sym is)
works_at (Hard p to) dir q other is = two_ways dir q (same_path dir q) refl ∙ ap (is_directory q) (sym is)

pub not_mode : (s : program.Step) → ((x : RelPath) (m : ℕ) → s ≡ step.Mode x m → ⊥) → sort_of (step_of s) ≡ sort.Mode → ⊥
not_mode (step.Gone path) other is = cc
not_mode (step.Fresh path mode) other is = cc
not_mode (step.Mode path mode) other is = other path mode refl
not_mode (step.Put path mode stage) other is = cc
not_mode (step.Link path target) other is = cc
not_mode (step.Hard path to) other is = cc

-- what was put into an empty set
pub of_none : (q : List ℕ) (keys : List (Vec ℕ Global)) (b now : Bool) → keys ≡ [] → now ≡ (b || list_any (λ k. same_path k.items q) keys) → now ≡ b
of_none q keys b now none is = is ∙ ap (λ (l : List (Vec ℕ Global)). b || list_any (λ k. same_path k.items q) l) none ∙ sym (or_false b)

pub none_in : (q : List ℕ) (keys : List (Vec ℕ Global)) → keys ≡ [] → list_any (λ k. same_path k.items q) keys ≡ false
none_in q keys none = ap (list_any (λ (k : Vec ℕ Global). same_path k.items q)) none

-- a path that is added but to others
module _ (set : List ℕ → Bool) (p q : List ℕ) (old : Bool) where
  pub none_added : set p ≡ true → old ≡ ((not (set q) && same_path p q) || old)
  none_added has = go (same_path p q) refl
    where
      go : (b : Bool) → same_path p q ≡ b → old ≡ ((not (set q) && same_path p q) || old)
      go true same = let there : set q ≡ true = ap set (sym (same_path-true p q same)) ∙ has in rw there refl
      go false other = rw other (sym (off (set q)))
        where
          off : (b : Bool) → ((not b && false) || old) ≡ old
          off true = refl
          off false = refl

  pub some_added : set p ≡ false → (same_path p q || old) ≡ ((not (set q) && same_path p q) || old)
  some_added lacks = go (same_path p q) refl
    where
      go : (b : Bool) → same_path p q ≡ b → (same_path p q || old) ≡ ((not (set q) && same_path p q) || old)
      go true same = let there : set q ≡ false = ap set (sym (same_path-true p q same)) ∙ lacks in rw there refl
      go false other = rw other (sym (off (set q)))
        where
          off : (b : Bool) → ((not b && false) || old) ≡ old
          off true = refl
          off false = refl

pub there_already : (set : List ℕ → Bool) (p q : List ℕ) → set p ≡ true → set q ≡ (same_path p q || set q)
there_already set p q has = go (same_path p q) refl
  where
    go : (b : Bool) → same_path p q ≡ b → set q ≡ (same_path p q || set q)
    go true same = ap set (sym (same_path-true p q same)) ∙ has ∙ sym (ap (λ (b : Bool). b || set q) same)
    go false other = sym (ap (λ (b : Bool). b || set q) other)

-- ---- what is above a path

above_at : (q p dir : List ℕ) → parent p ≡ Some dir → is_below q p ≡ (same_path dir q || is_below q dir)
above_at q p dir is = go (is_below q p) refl (same_path dir q) refl (is_below q dir) refl
  where
    lower : is_below q p ≡ true → (same_path dir q || is_below q dir) ≡ true
    lower below =
        let parts = and_parts (covers q p) _ below in
        let a = at_parent_of q p parts.0 (not-true _ parts.1) in
        let one : a.dir ≡ dir = same_some (sym a.is ∙ is) in
        decide (same_path q dir) refl (ap (covers q) (sym one) ∙ a.up)
      where
        same_some : {x y : List ℕ} → Some x ≡ Some y → x ≡ y
        same_some e = cc

        decide : (b : Bool) → same_path q dir ≡ b → covers q dir ≡ true → (same_path dir q || is_below q dir) ≡ true
        decide true same up = or_left (same_path dir q) (is_below q dir) (same_path-sym q dir same)
        decide false other up = or_right (same_path dir q) (is_below q dir) (and_from _ _ up (not_from_false _ other))

    upper : (same_path dir q || is_below q dir) ≡ true → is_below q p ≡ true
    upper some = and_from _ _ (⊎_elim
        (λ same. ap (λ (x : List ℕ). covers x p) (sym (same_path-true dir q same)) ∙ parent_covers p dir is)
        (λ below. covers_trans q dir p (and_parts (covers q dir) _ below).0 (parent_covers p dir is))
        (or_cases (same_path dir q) (is_below q dir) some))
        (not_from_false _ (false_from_ne_true _ (λ same.
        let at : q ≡ p = same_path-true q p same in
        ⊎_elim
        (λ one. clash (covers p dir) (ap (covers p) (same_path-true dir q one ∙ at) ∙ covers-self p) (covers-parent p dir is))
        (λ below. clash (covers p dir) (ap (λ (x : List ℕ). covers x dir) (sym at) ∙ (and_parts (covers q dir) _ below).0) (covers-parent p dir is))
        (or_cases (same_path dir q) (is_below q dir) some))))

    go : (a : Bool) → is_below q p ≡ a → (b : Bool) → same_path dir q ≡ b → (c : Bool) → is_below q dir ≡ c → is_below q p ≡ (same_path dir q || is_below q dir)
    go true below b s c d = below ∙ sym (lower below)
    go false off true s c d = absurd (clash (is_below q p) (upper (or_left (same_path dir q) (is_below q dir) s)) off)
    go false off false s true d = absurd (clash (is_below q p) (upper (or_right (same_path dir q) (is_below q dir) d)) off)
    go false off false s false d = off ∙ sym (rw (s, d) refl)

pub above_more : (q p dir : List ℕ) (old new : Bool) → parent p ≡ Some dir → new ≡ (same_path dir q || old) → (is_below q dir || new) ≡ (is_below q p || old)
above_more q p dir old new is one = ap (λ (b : Bool). is_below q dir || b) one ∙ turn (is_below q dir) (same_path dir q) old ∙ ap (λ (b : Bool). b || old) (sym (above_at q p dir is))
  where
    turn : (a b c : Bool) → (a || (b || c)) ≡ ((b || a) || c)
    turn true true c = refl
    turn true false c = refl
    turn false true c = refl
    turn false false c = refl

pub none_above : (q p : List ℕ) (rest : Bool) → parent p ≡ None → (is_below q p || rest) ≡ rest
none_above q p rest none = ap (λ (b : Bool). b || rest) (false_from_ne_true _ (λ below.
    let parts = and_parts (covers q p) _ below in
    let a = at_parent_of q p parts.0 (not-true _ parts.1) in
    let bad : Some a.dir ≡ None = sym a.is ∙ none in cc))

-- what was put into a set that held one path
pub of_one : (b x now mid none : Bool) → now ≡ (b || mid) → mid ≡ (x || none) → none ≡ false → now ≡ (b || x)
of_one b x now mid none last first empty = last ∙ ap (λ (y : Bool). b || y) (first ∙ ap (λ (y : Bool). x || y) empty ∙ sym (or_false x))
