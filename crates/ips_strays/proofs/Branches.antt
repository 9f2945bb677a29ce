-- The path right below a directory on the way to what stands below it.
use Rattle.std.proofs.Common.{◌≡◌, ◌⊎◌, inl, inr, ℕ, ◌==◌, Bool, true, false, cond, not, ◌&&◌, ◌||◌, List, [], ◌∷◌, Option, Some, None, is_some, is_none, refl, sym, ◌∙◌, ap}
use Rattle.std.specs.List.{list_any}
use Rattle.std.proofs.lemmas.Bool.{and_from, and_parts, cases_Bool, eq-eqb, eqb-true, false_from_ne_true, not-true, or_cases}
use Rattle.ips_text.specs.Ancestry.{behind, covers, is_below, parent, same_path}
use Rattle.ips_text.proofs.Ancestry.{at_parent_of, covers-parent, covers-self, same_path-self, same_path-true}
use Rattle.ips_outside.specs.Children.{AreChildren, is_child, is_directory}
use Rattle.ips_outside.specs.Image.{Entry, Image, IsImage, is_dir}
use Rattle.ips_after.specs.Lists.{listed}
use Rattle.ips_after.proofs.Changed.{both_ways}
use Rattle.ips_after.proofs.Fits.{any_from, any_of, below_of, below_trans}
use Rattle.ips_after.proofs.Ordered.{above_parent}
use Rattle.ips_after.proofs.Saved.{comparable}
use Rattle.ips_steps.proofs.Lists.{clash}
use Rattle.ips_strays.specs.Strays.{branch, first_part}

same_Some : (a b : List ℕ) → Some a ≡ Some b → a ≡ b
same_Some a b e = cc

-- above something that stands there is a directory
pub dir_above : (t : Image) (p q : List ℕ) → IsImage t → is_some (t.look q) ≡ true → covers p q ≡ true → same_path p q ≡ false → is_dir (t.look p) ≡ true
dir_above t p q formed there over apart = go (t.look q) there (or_cases _ _ (formed.below_dirs p q over apart))
  where
    go : (e : Option Entry) → is_some e ≡ true → (is_none e ≡ true) ⊎ (is_dir (t.look p) ≡ true) → is_dir (t.look p) ≡ true
    go (Some e) h (inl none) = cc
    go None h (inl none) = cc
    go e h (inr dir) = dir

pub dir_there : (e : Option Entry) → is_dir e ≡ true → is_some e ≡ true
dir_there (Some e) h = refl
dir_there None h = cc

-- both words for a path of a list
pub listed_same : (paths : List (List ℕ)) (q : List ℕ) → list_any (λ p. same_path p q) paths ≡ listed paths q
listed_same [] q = refl
listed_same (p ∷ paths) q = ap (λ (b : Bool). same_path p q || b) (listed_same paths q)

-- the first part of a path is at or above it, and has nothing above
first_part_is : (q : List ℕ) → (covers (first_part q) q ≡ true) × (parent (first_part q) ≡ None)
first_part_is [] = (refl, refl)
first_part_is (b ∷ q) = go (first_part_is q) (b == 47) refl
  where
    go : (covers (first_part q) q ≡ true) × (parent (first_part q) ≡ None) → (x : Bool) → (b == 47) ≡ x → (covers (cond x [] (b ∷ first_part q)) (b ∷ q) ≡ true) × (parent (cond x [] (b ∷ first_part q)) ≡ None)
    go rest true h = (h, refl)
    go rest false h = (and_from (b == b) _ (eq-eqb b b refl) rest.0, ap (behind b) rest.1 ∙ ap (λ (x : Bool). cond x (Some []) None) h)

pub branch_parent : (p q : List ℕ) → is_below p q ≡ true → parent (branch p q) ≡ Some p
branch_parent [] [] h = cc
branch_parent [] (b ∷ q) h = ap (behind b) (first_part_is q).1 ∙ ap (λ (x : Bool). cond x (Some []) None) (and_parts (b == 47) true h).0
branch_parent (a ∷ p) [] h = cc
branch_parent (a ∷ p) (b ∷ q) h =
    let parts = and_parts (covers (a ∷ p) (b ∷ q)) (not (same_path (a ∷ p) (b ∷ q))) h in
    let one = and_parts (a == b) (covers p q) parts.0 in
    let same : a ≡ b = eqb-true a b one.0 in
    let apart : same_path p q ≡ false = false_from_ne_true _ (λ s. let bad : true ≡ false = sym (and_from (a == b) (same_path p q) one.0 s) ∙ not-true _ parts.1 in cc) in
    ap (behind b) (branch_parent p q (below_of p q one.1 apart)) ∙ ap (λ (x : ℕ). Some (x ∷ p)) (sym same)

pub branch_over : (p q : List ℕ) → is_below p q ≡ true → covers (branch p q) q ≡ true
branch_over [] [] h = cc
branch_over [] (b ∷ q) h = and_from (b == b) _ (eq-eqb b b refl) (first_part_is q).0
branch_over (a ∷ p) [] h = cc
branch_over (a ∷ p) (b ∷ q) h =
    let parts = and_parts (covers (a ∷ p) (b ∷ q)) (not (same_path (a ∷ p) (b ∷ q))) h in
    let one = and_parts (a == b) (covers p q) parts.0 in
    let apart : same_path p q ≡ false = false_from_ne_true _ (λ s. let bad : true ≡ false = sym (and_from (a == b) (same_path p q) one.0 s) ∙ not-true _ parts.1 in cc) in
    and_from (b == b) _ (eq-eqb b b refl) (branch_over p q (below_of p q one.1 apart))

-- what has its parent above the path and is at or above the path is that
pub below_child : (p c q : List ℕ) → parent c ≡ Some p → covers c q ≡ true → is_below p q ≡ true
below_child p c q is over = elim (cases_Bool (same_path c q)) [
  | inl same ↦ above_parent p q p (ap parent (sym (same_path-true c q same)) ∙ is) (covers-self p)
  | inr apart ↦ below_trans p c q (above_parent p c p is (covers-self p)) (below_of c q over apart)
]

-- a path at or above another with the same parent is that
same_child : (p c b : List ℕ) → parent c ≡ Some p → parent b ≡ Some p → covers c b ≡ true → c ≡ b
same_child p c b is at up = elim (cases_Bool (same_path c b)) [
  | inl same ↦ same_path-true c b same
  | inr apart ↦
      let x = at_parent_of c b up apart in
      let dir : x.dir ≡ p = same_Some x.dir p (sym x.is ∙ at) in
      clash (covers c p) (ap (covers c) (sym dir) ∙ x.up) (covers-parent c p is)
]

-- two paths above one with one parent are the same
pub branch_only : (p c q : List ℕ) → parent c ≡ Some p → covers c q ≡ true → c ≡ branch p q
branch_only p c q is over =
    let inner = below_child p c q is over in
    let b = branch p q in
    let at : parent b ≡ Some p = branch_parent p q inner in
    elim (comparable c b q over (branch_over p q inner)) [
      | inl up ↦ same_child p c b is at up
      | inr up ↦ sym (same_child p b c at is up)
    ]

-- what is at or below a directory's child, among its children that pass a test
pub among_children : (t : Image) (dir q : List ℕ) (test : List ℕ → Bool) (paths : List (List ℕ)) → IsImage t → AreChildren t dir paths → is_some (t.look q) ≡ true → list_any (λ c. test c && covers c q) paths ≡ (is_below dir q && test (branch dir q))
among_children t dir q test paths formed are there = both_ways to from
  where
    child_parent : (c : List ℕ) (o : Option (List ℕ)) → parent c ≡ o → is_directory dir o ≡ true → parent c ≡ Some dir
    child_parent c (Some x) is h = is ∙ ap (λ (y : List ℕ). Some y) (sym (same_path-true dir x h))
    child_parent c None is h = cc

    to : list_any (λ c. test c && covers c q) paths ≡ true → (is_below dir q && test (branch dir q)) ≡ true
    to h =
        let c = any_of (λ x. test x && covers x q) paths h in
        let parts = and_parts (test c.path) (covers c.path q) c.holds in
        let child = and_parts (is_some (t.look c.path)) (is_directory dir (parent c.path)) (sym (are.each c.path) ∙ listed_same paths c.path ∙ c.in_list) in
        let up = child_parent c.path (parent c.path) refl child.1 in
        and_from (is_below dir q) (test (branch dir q)) (below_child dir c.path q up parts.1) (ap test (sym (branch_only dir c.path q up parts.1)) ∙ parts.0)

    stands : (c : List ℕ) → covers c q ≡ true → is_some (t.look c) ≡ true
    stands c over = elim (cases_Bool (same_path c q)) [
      | inl same ↦ ap (λ (x : List ℕ). is_some (t.look x)) (same_path-true c q same) ∙ there
      | inr apart ↦ dir_there (t.look c) (dir_above t c q formed there over apart)
    ]

    from : (is_below dir q && test (branch dir q)) ≡ true → list_any (λ c. test c && covers c q) paths ≡ true
    from h =
        let parts = and_parts (is_below dir q) (test (branch dir q)) h in
        let c = branch dir q in
        let over = branch_over dir q parts.0 in
        let child : is_child t dir c ≡ true = and_from (is_some (t.look c)) (is_directory dir (parent c)) (stands c over) (ap (is_directory dir) (branch_parent dir q parts.0) ∙ same_path-self dir) in
        any_from (λ x. test x && covers x q) paths c (sym (listed_same paths c) ∙ are.each c ∙ child) (and_from (test c) (covers c q) parts.1 over)
