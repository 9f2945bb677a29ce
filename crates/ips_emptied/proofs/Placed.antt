-- The marks of rows by their paths.
use Rattle.std.proofs.Common.{◌≡◌, ◌⊎◌, inl, inr, ℕ, zero, suc, ◌+◌, ◌<◌, ◌≤◌, Bool, true, false, cond, not, ◌||◌, List, [], ◌∷◌, ◌++◌, map, length, take, drop, get_or, set, Some, slice_get, refl, sym, ◌∙◌, ap, subst, arith}
use Rattle.std.specs.List.{list_all, list_any}
use Rattle.std.proofs.lemmas.Bool.{and_parts, and_cases, not-true, or_cases, or_left, or_parts, false_from_ne_true}
use Rattle.std.proofs.Math.Seq.{take-append_seam}
use Rattle.std.proofs.lemmas.Bool.{cases_lt}
use Rattle.std.proofs.lemmas.Grind.{get_or-set_at}
use Rattle.std.proofs.lemmas.List.{get_or-set_other}
use Rattle.std.proofs.lemmas.Option.{same_Some}
use Rattle.ips_text.specs.Ancestry.{covers, is_below, parent, same_path}
use Rattle.ips_text.proofs.Ancestry.{at_parent_of, covers-self, covers_trans, parent_covers, parent_length, same_path-self, same_path-true}
use Rattle.ips_steps.proofs.Lists.{clash}
use Rattle.ips_after.proofs.Fits.{below_of}
use Rattle.ips_after.specs.Lists.{any_above, downward, listed, unrepeated}
use Rattle.ips_change.specs.survey.Marks.{IsMarkOf}
use Rattle.ips_change.proofs.survey.Marking.{mark_there}
use Rattle.ips_emptied.specs.Emptying.{marked_in}

-- ---- marks by paths

same_back : (p q : List ℕ) → same_path p q ≡ true → same_path q p ≡ true
same_back p q h = ap (λ (x : List ℕ). same_path x p) (sym (same_path-true p q h)) ∙ same_path-self p

passed : (p : List ℕ) (b : Bool) (paths : List (List ℕ)) (marks : List Bool) (ys : List (List ℕ)) → listed ys p ≡ false → map (marked_in paths marks) ys ≡ map (marked_in (p ∷ paths) (b ∷ marks)) ys
passed p b paths marks [] off = refl
passed p b paths marks (y ∷ ys) off =
    let parts = or_parts (same_path y p) (listed ys p) off in
    let apart : same_path p y ≡ false = false_from_ne_true _ (λ h. clash _ (same_back p y h) parts.0) in
    ap (λ (c : Bool). cond c b (marked_in paths marks y) ∷ map (marked_in paths marks) ys) (sym apart)
    ∙ ap (λ (l : List Bool). marked_in (p ∷ paths) (b ∷ marks) y ∷ l) (passed p b paths marks ys parts.1)

marks_map : (paths : List (List ℕ)) (marks : List Bool) → length marks ≡ length paths → unrepeated paths ≡ true → marks ≡ map (marked_in paths marks) paths
marks_map [] [] long once = refl
marks_map [] (b ∷ marks) long once = absurd (omega (arith, long))
marks_map (p ∷ paths) [] long once = absurd (omega (arith, long))
marks_map (p ∷ paths) (b ∷ marks) long once =
    let parts = and_parts (not (listed paths p)) (unrepeated paths) once in
    let rest : marks ≡ map (marked_in (p ∷ paths) (b ∷ marks)) paths = marks_map paths marks (omega (arith, long)) parts.1 ∙ passed p b paths marks paths (not-true _ parts.0) in
    ap (λ (l : List Bool). b ∷ l) rest
    ∙ ap (λ (c : Bool). cond c b (marked_in paths marks p) ∷ map (marked_in (p ∷ paths) (b ∷ marks)) paths) (sym (same_path-self p))

pub unmarked : (paths : List (List ℕ)) (marks : List Bool) (q : List ℕ) → listed paths q ≡ false → marked_in paths marks q ≡ false
unmarked [] marks q off = refl
unmarked (p ∷ paths) [] q off = refl
unmarked (p ∷ paths) (b ∷ marks) q off =
    let parts = or_parts (same_path p q) (listed paths q) off in
    ap (λ (c : Bool). cond c b (marked_in paths marks q)) parts.0 ∙ unmarked paths marks q parts.1

-- the marks of rows are those of their paths
pub marks_are : (paths : List (List ℕ)) (marks : List Bool) → length marks ≡ length paths → unrepeated paths ≡ true → IsMarkOf (marked_in paths marks) paths marks
marks_are paths marks long once = record { are = marks_map paths marks long once; none_else = unmarked paths marks }

-- a path that is listed has a place
pub record Place (paths : List (List ℕ)) (q : List ℕ) : Type 0 where
  pub at : ℕ
  pub there : slice_get paths at ≡ Some q

pub place_of : (paths : List (List ℕ)) (q : List ℕ) → listed paths q ≡ true → Place paths q
place_of [] q h = cc
place_of (p ∷ paths) q h = go (or_cases (same_path p q) (listed paths q) h) (place_of paths q)
  where
    go : (same_path p q ≡ true) ⊎ (listed paths q ≡ true) → (listed paths q ≡ true → Place paths q) → Place (p ∷ paths) q
    go (inl same) rec = record { at = 0; there = ap (λ (x : List ℕ). Some x) (same_path-true p q same) }
    go (inr more) rec = let x = rec more in record { at = suc x.at; there = x.there }

-- the mark of a path is the one at its place
pub mark_at : (paths : List (List ℕ)) (marks : List Bool) (k : ℕ) (q : List ℕ) → length marks ≡ length paths → unrepeated paths ≡ true → slice_get paths k ≡ Some q → get_or marks k false ≡ marked_in paths marks q
mark_at paths marks k q long once there = mark_there (marked_in paths marks) paths marks k q false (marks_map paths marks long once) there

-- marks of a test are what the test says
pub mark_is : (test : List ℕ → Bool) (paths : List (List ℕ)) (marks : List Bool) (q : List ℕ) → length marks ≡ length paths → unrepeated paths ≡ true → IsMarkOf test paths marks → marked_in paths marks q ≡ test q
mark_is test paths marks q long once is = go (listed paths q) refl
  where
    go : (b : Bool) → listed paths q ≡ b → marked_in paths marks q ≡ test q
    go true on = let x = place_of paths q on in sym (mark_at paths marks x.at q long once x.there) ∙ mark_there test paths marks x.at q false is.are x.there
    go false off = unmarked paths marks q off ∙ sym (is.none_else q off)

-- ---- the order of places

above_any : (paths : List (List ℕ)) (i : ℕ) (p x : List ℕ) → slice_get paths i ≡ Some p → is_below p x ≡ true → any_above paths x ≡ true
above_any [] i p x at up = cc
above_any (y ∷ paths) zero p x at up = or_left _ _ (ap (λ (z : List ℕ). is_below z x) (same_Some y p at) ∙ up)
above_any (y ∷ paths) (suc i) p x at up = go (is_below y x) (above_any paths i p x at up)
  where
    go : (b : Bool) → any_above paths x ≡ true → (b || any_above paths x) ≡ true
    go true h = refl
    go false h = h

not_self : (p : List ℕ) → is_below p p ≡ true → ⊥
not_self p h = clash (same_path p p) (same_path-self p) (not-true _ (and_parts (covers p p) _ h).1)

-- what is below a path has a place behind it
pub behind : (paths : List (List ℕ)) (i k : ℕ) (p q : List ℕ) → downward paths ≡ true → slice_get paths i ≡ Some p → slice_get paths k ≡ Some q → is_below p q ≡ true → i < k
behind [] i k p q down here there up = cc
behind (y ∷ paths) zero zero p q down here there up = absurd (not_self p (ap (is_below p) (sym (same_Some y p here) ∙ same_Some y q there) ∙ up))
behind (y ∷ paths) zero (suc k) p q down here there up = omega arith
behind (y ∷ paths) (suc i) zero p q down here there up =
    clash (any_above paths y) (above_any paths i p y here (ap (is_below p) (same_Some y q there) ∙ up)) (not-true _ (and_parts (not (any_above paths y)) (downward paths) down).0)
behind (y ∷ paths) (suc i) (suc k) p q down here there up = let less = behind paths i k p q (and_parts (not (any_above paths y)) (downward paths) down).1 here there up in omega (arith, less)

-- one mark more from the last place on
pub set_more : (P : List ℕ → Bool → Type 0) (paths : List (List ℕ)) (marks : List Bool) (i j : ℕ) (q : List ℕ) (b : Bool) → i + 1 ≡ j → i < length marks → slice_get paths i ≡ Some q
    → ((k : ℕ) (p : List ℕ) → j ≤ k → slice_get paths k ≡ Some p → P p (get_or marks k false)) → P q b
    → (k : ℕ) (p : List ℕ) → i ≤ k → slice_get paths k ≡ Some p → P p (get_or (set marks i b) k false)
set_more P paths marks i j q b next lt here so_far one k p le there = elim (cases_lt i k) [
  | inl less ↦ subst (P p) (sym (get_or-set_other marks i k b false (λ e. omega (arith, less, e)))) (so_far k p (omega (arith, less, next)) there)
  | inr not_less ↦
      let same : k ≡ i = omega (arith, le, not_less) in
      let path : p ≡ q = same_Some p q (sym there ∙ ap (slice_get paths) same ∙ here) in
      subst (λ (x : List ℕ). P x (get_or (set marks i b) k false)) (sym path) (subst (P q) (sym (get_or-set_at marks i k b false same lt)) one)
]

-- what is written over a whole list is all of it
pub all_new : (n : ℕ) (new old : List Bool) → n ≡ length new → take n (new ++ drop (length new) old) ≡ new
all_new n new old is = ap (λ (k : ℕ). take k (new ++ drop (length new) old)) is ∙ take-append_seam new (drop (length new) old)

-- ---- on the way down

-- the child of a directory on the way to what is below
pub record OnWay (dir x : List ℕ) : Type 0 where
  pub child : List ℕ
  pub is : parent child ≡ Some dir
  pub over : covers child x ≡ true

on_way : (n : ℕ) (dir x : List ℕ) → length x < n → is_below dir x ≡ true → OnWay dir x
on_way zero dir x less up = absurd (omega (arith, less))
on_way (suc n) dir x less up =
    let parts = and_parts (covers dir x) (not (same_path dir x)) up in
    let above = at_parent_of dir x parts.0 (not-true _ parts.1) in
    go above.dir above.is above.up (same_path dir above.dir) refl (on_way n dir above.dir)
  where
    go : (y : List ℕ) → parent x ≡ Some y → covers dir y ≡ true → (b : Bool) → same_path dir y ≡ b → (length y < n → is_below dir y ≡ true → OnWay dir y) → OnWay dir x
    go y is over true same rec = record { child = x; is = is ∙ ap (λ (z : List ℕ). Some z) (sym (same_path-true dir y same)); over = covers-self x }
    go y is over false same rec =
        let shorter = parent_length x y is in
        let rest = rec (omega (arith, shorter, less)) (below_of dir y over same) in
        record { child = rest.child; is = rest.is; over = covers_trans rest.child y x rest.over (parent_covers x y is) }

pub child_of : (dir x : List ℕ) → is_below dir x ≡ true → OnWay dir x
child_of dir x up = on_way (suc (length x)) dir x (omega arith) up

-- ---- all of a list, and one of it

pub all_at : (f : List ℕ → Bool) (xs : List (List ℕ)) (c : List ℕ) → list_all f xs ≡ true → list_any (λ p. same_path p c) xs ≡ true → f c ≡ true
all_at f [] c all among = cc
all_at f (x ∷ xs) c all among = go (or_cases (same_path x c) (list_any (λ p. same_path p c) xs) among) (all_at f xs c)
  where
    parts : (f x ≡ true) × (list_all f xs ≡ true)
    parts = and_parts (f x) (list_all f xs) all

    go : (same_path x c ≡ true) ⊎ (list_any (λ p. same_path p c) xs ≡ true) → (list_all f xs ≡ true → list_any (λ p. same_path p c) xs ≡ true → f c ≡ true) → f c ≡ true
    go (inl same) rec = ap f (sym (same_path-true x c same)) ∙ parts.0
    go (inr more) rec = rec parts.1 more

-- one of the list where the test fails
pub record Fails (f : List ℕ → Bool) (xs : List (List ℕ)) : Type 0 where
  pub path : List ℕ
  pub among : list_any (λ p. same_path p path) xs ≡ true
  pub fails : f path ≡ false

pub fails_at : (f : List ℕ → Bool) (xs : List (List ℕ)) → list_all f xs ≡ false → Fails f xs
fails_at f [] h = cc
fails_at f (x ∷ xs) h = go (and_cases (f x) (list_all f xs) h) (fails_at f xs)
  where
    later : (b : Bool) (c : List ℕ) → list_any (λ p. same_path p c) xs ≡ true → (b || list_any (λ p. same_path p c) xs) ≡ true
    later true c l = refl
    later false c l = l

    go : (f x ≡ false) ⊎ (list_all f xs ≡ false) → (list_all f xs ≡ false → Fails f xs) → Fails f (x ∷ xs)
    go (inl here) rec = record { path = x; among = or_left _ _ (same_path-self x); fails = here }
    go (inr more) rec = let y = rec more in record { path = y.path; among = later (same_path x y.path) y.path y.among; fails = y.fails }
