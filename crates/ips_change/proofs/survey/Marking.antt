-- Marks that are set at a path, and at those above it.
use Rattle.std.proofs.Common.{◌≡◌, ℕ, zero, suc, ◌+◌, Bool, true, false, not, ◌&&◌, ◌||◌, List, [], ◌∷◌, ◌++◌, map, take, get_or, set, Some, None, slice_get, inl, inr, refl, sym, ◌∙◌, ap, subst}
use Rattle.std.specs.List.{list_any}
use Rattle.std.proofs.lemmas.Bool.{and_parts, not-true, cases_Bool, false_from_ne_true}
use Rattle.std.specs.Option.{option_map}
use Rattle.std.proofs.lemmas.Option.{get_or_from_slice_get, same_Some, slice_get-map, slice_get_within}
use Rattle.ips_text.specs.Ancestry.{covers, is_below, parent, same_path}
use Rattle.ips_text.proofs.Ancestry.{at_parent_of, covers_trans, parent_covers, same_covers, same_path-self, same_path-true}
use Rattle.ips_text.proofs.Lists.{take_item}
use Rattle.ips_text.proofs.Truths.{or_assoc, or_false, or_true}
use Rattle.ips_after.specs.Lists.{listed, unrepeated}
use Rattle.ips_after.proofs.Fits.{below_of, below_trans}
use Rattle.ips_after.proofs.Ordered.{above_parent}
use Rattle.ips_change.specs.survey.Marks.{holds_below}

abbrev Test : Type 0
Test = List ℕ → Bool

-- the marks with the rows marked that have the path
abbrev pub with_path : Test → List ℕ → Test
with_path test path p = test p || same_path p path

pub map_same : (f g : Test) (paths : List (List ℕ)) → ((p : List ℕ) → f p ≡ g p) → map f paths ≡ map g paths
map_same f g [] same = refl
map_same f g (p ∷ paths) same = ap (λ (b : Bool). b ∷ map f paths) (same p) ∙ ap (λ (l : List Bool). g p ∷ l) (map_same f g paths same)

pub unset : (test : Test) (path : List ℕ) (paths : List (List ℕ)) → listed paths path ≡ false → map test paths ≡ map (with_path test path) paths
unset test path [] none = refl
unset test path (p ∷ paths) none = go (same_path p path) none (unset test path paths)
  where
    go : (b : Bool) → (b || listed paths path) ≡ false → (listed paths path ≡ false → map test paths ≡ map (with_path test path) paths) → test p ∷ map test paths ≡ (test p || b) ∷ map (with_path test path) paths
    go true h rest = cc
    go false h rest = ap (λ (b : Bool). b ∷ map test paths) (or_false (test p)) ∙ ap (λ (l : List Bool). (test p || false) ∷ l) (rest h)

listed_there : (paths : List (List ℕ)) (k : ℕ) (path : List ℕ) → slice_get paths k ≡ Some path → listed paths path ≡ true
listed_there [] k path is = cc
listed_there (p ∷ paths) zero path is = ap (λ (b : Bool). b || listed paths path) (ap (λ (q : List ℕ). same_path q path) (same_Some p path is) ∙ same_path-self path)
listed_there (p ∷ paths) (suc k) path is = go (same_path p path) (listed_there paths k path is)
  where
    go : (b : Bool) → listed paths path ≡ true → (b || listed paths path) ≡ true
    go true h = refl
    go false h = h

all_marked : (b : Bool) → true ≡ (b || true)
all_marked true = refl
all_marked false = refl

pub set_at : (test : Test) (path : List ℕ) (paths : List (List ℕ)) (k : ℕ) → slice_get paths k ≡ Some path → unrepeated paths ≡ true → set (map test paths) k true ≡ map (with_path test path) paths
set_at test path [] k is once = cc
set_at test path (p ∷ paths) zero is once =
    let same : p ≡ path = same_Some p path is in
    let parts = and_parts (not (listed paths p)) (unrepeated paths) once in
    let none : listed paths path ≡ false = ap (listed paths) (sym same) ∙ not-true _ parts.0 in
    let here : true ≡ with_path test path p = all_marked (test p) ∙ ap (λ (b : Bool). test p || b) (sym (ap (λ (q : List ℕ). same_path q path) same ∙ same_path-self path)) in
    ap (λ (b : Bool). b ∷ map test paths) here ∙ ap (λ (l : List Bool). with_path test path p ∷ l) (unset test path paths none)
set_at test path (p ∷ paths) (suc k) is once =
    let parts = and_parts (not (listed paths p)) (unrepeated paths) once in
    let apart : same_path p path ≡ false = false_from_ne_true _ (λ same.
    let there : listed paths p ≡ true = ap (listed paths) (same_path-true p path same) ∙ listed_there paths k path is in
    let bad : true ≡ false = sym there ∙ not-true _ parts.0 in absurd cc) in
    ap (λ (l : List Bool). test p ∷ l) (set_at test path paths k is parts.1)
    ∙ ap (λ (b : Bool). b ∷ map (with_path test path) paths) (or_false (test p) ∙ ap (λ (b : Bool). test p || b) (sym apart))

-- ---- above a path, from the path up

-- the marks with the rows marked that are above the path, but not above where the walk is
abbrev pub so_far : Test → List ℕ → List ℕ → Test
so_far test path at p = test p || (is_below p path && not (is_below p at))

none_yet : (t b : Bool) → t ≡ (t || (b && not b))
none_yet true b = refl
none_yet false true = refl
none_yet false false = refl

pub begun : (test : Test) (path : List ℕ) (paths : List (List ℕ)) → map test paths ≡ map (so_far test path path) paths
begun test path paths = map_same test (so_far test path path) paths (λ p. none_yet (test p) (is_below p path))

below_parent : (p q dir : List ℕ) → parent q ≡ Some dir → is_below p q ≡ covers p dir
below_parent p q dir is = elim (cases_Bool (is_below p q)) [
  | inl up ↦
      let parts = and_parts (covers p q) (not (same_path p q)) up in
      let one = at_parent_of p q parts.0 (not-true _ parts.1) in
      up ∙ sym (ap (covers p) (sym (same_Some one.dir dir (sym one.is ∙ is))) ∙ one.up)
  | inr apart ↦ apart ∙ sym (false_from_ne_true _ (λ up. let below = above_parent p q dir is up in let bad : true ≡ false = sym below ∙ apart in absurd cc))
]

below_covered : (p at path : List ℕ) → covers at path ≡ true → is_below p at ≡ true → is_below p path ≡ true
below_covered p at path up below = elim (cases_Bool (same_path at path)) [
  | inl same ↦ subst (λ (q : List ℕ). is_below p q ≡ true) (same_path-true at path same) below
  | inr apart ↦ below_trans p at path below (below_of at path up apart)
]

split : (p dir : List ℕ) → covers p dir ≡ (same_path p dir || is_below p dir)
split p dir = go (same_path p dir) (covers p dir) (same_covers p dir)
  where
    go : (s b : Bool) → (s ≡ true → b ≡ true) → b ≡ (s || (b && not s))
    go true b h = h refl
    go false true h = refl
    go false false h = refl

not_both : (p dir : List ℕ) → same_path p dir ≡ true → is_below p dir ≡ false
not_both p dir same = ap (λ (b : Bool). covers p dir && not b) same ∙ go (covers p dir)
  where
    go : (b : Bool) → (b && false) ≡ false
    go true = refl
    go false = refl

step : (t a b c s k : Bool) → b ≡ k → k ≡ (s || c) → (s ≡ true → c ≡ false) → (b ≡ true → a ≡ true) → ((t || (a && not b)) || s) ≡ (t || (a && not c))
step true a b c s k h i j l = refl
step false a b c true k h i j l =
    let none : c ≡ false = j refl in
    let all : a ≡ true = l (h ∙ i) in
    or_true (a && not b) ∙ sym (ap (λ (x : Bool). x && not c) all ∙ ap not none)
step false a b c false k h i j l = sym (or_false (a && not b)) ∙ ap (λ (x : Bool). a && not x) (h ∙ i)

pub advance : (test : Test) (path at dir : List ℕ) (paths : List (List ℕ)) → parent at ≡ Some dir → covers at path ≡ true → map (with_path (so_far test path at) dir) paths ≡ map (so_far test path dir) paths
advance test path at dir paths is up = map_same (with_path (so_far test path at) dir) (so_far test path dir) paths
    (λ p. step (test p) (is_below p path) (is_below p at) (is_below p dir) (same_path p dir) (covers p dir) (below_parent p at dir is) (split p dir) (not_both p dir) (below_covered p at path up))

below_none : (p at : List ℕ) → parent at ≡ None → is_below p at ≡ false
below_none p at none = false_from_ne_true _ (λ up.
    let parts = and_parts (covers p at) (not (same_path p at)) up in
    let one = at_parent_of p at parts.0 (not-true _ parts.1) in
    let bad : None ≡ Some one.dir = sym none ∙ one.is in absurd cc)

pub ended : (test : Test) (path at : List ℕ) (paths : List (List ℕ)) → parent at ≡ None → map (so_far test path at) paths ≡ map (λ p. test p || is_below p path) paths
ended test path at paths none = map_same (so_far test path at) (λ p. test p || is_below p path) paths
    (λ p. ap (λ (b : Bool). test p || (is_below p path && not b)) (below_none p at none) ∙ ap (λ (b : Bool). test p || b) (go (is_below p path)))
  where
    go : (b : Bool) → (b && true) ≡ b
    go true = refl
    go false = refl

-- the directory is at or above the path, as what it is the parent of is
pub up_more : (at dir path : List ℕ) → parent at ≡ Some dir → covers at path ≡ true → covers dir path ≡ true
up_more at dir path is up = covers_trans dir at path (parent_covers at dir is) up

-- ---- one path after another

any_more : (f : Test) (paths : List (List ℕ)) (p : List ℕ) → list_any f (paths ++ p ∷ []) ≡ (list_any f paths || f p)
any_more f [] p = sym (or_false (f p))
any_more f (q ∷ paths) p = ap (λ (b : Bool). f q || b) (any_more f paths p) ∙ sym (or_assoc (f q) (list_any f paths) (f p))

pub below_more : (test : Test) (paths : List (List ℕ)) (i : ℕ) (path : List ℕ) (marked : Bool) → slice_get paths i ≡ Some path → marked ≡ test path
    → map (λ p. holds_below test (take i paths) p || (is_below p path && marked)) paths ≡ map (holds_below test (take (i + 1) paths)) paths
below_more test paths i path marked there mark = map_same (λ p. holds_below test (take i paths) p || (is_below p path && marked)) (holds_below test (take (i + 1) paths)) paths
    (λ p. ap (λ (b : Bool). holds_below test (take i paths) p || (is_below p path && b)) mark
    ∙ sym (ap (λ (l : List (List ℕ)). holds_below test l p) (take_item paths i path (slice_get_within paths i path there) (sym (get_or_from_slice_get paths i path path there)))
    ∙ any_more (λ q. is_below p q && test q) (take i paths) path))

-- the mark of a path
pub mark_there : (test : Test) (paths : List (List ℕ)) (marks : List Bool) (i : ℕ) (path : List ℕ) (otherwise : Bool) → marks ≡ map test paths → slice_get paths i ≡ Some path → get_or marks i otherwise ≡ test path
mark_there test paths marks i path otherwise are there =
    ap (λ (l : List Bool). get_or l i otherwise) are
    ∙ get_or_from_slice_get (map test paths) i (test path) otherwise (slice_get-map test paths i ∙ ap (option_map test) there)
