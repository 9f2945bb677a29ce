-- The names by the paths of their files.
use Rattle.std.proofs.Common.{◌≡◌, ◌⊎◌, inl, inr, ℕ, Bool, true, false, cond, not, ◌||◌, List, [], ◌∷◌, map, refl, sym, ◌∙◌, ap}
use Rattle.std.specs.List.{AllByRecursion, IsDistinct}
use Rattle.std.specs.List.Sorted.{IsStrictlySortedBy}
use Rattle.std.specs.Ordering.{nat_cmp}
use Rattle.std.specs.Cmp.Lexicographic.{slice_cmp}
use Rattle.std.proofs.lemmas.Bool.{and_from, and_parts, false_from_ne_true, false≢true, not-true, not_from_false, or_cases, or_left, or_right}
use Rattle.std.proofs.lemmas.List.Sorted.{IsPermutation-map}
use Rattle.std.proofs.lemmas.Map.Keys.{IsDistinct-IsPermutation}
use Rattle.ips_text.specs.Ancestry.{same_path}
use Rattle.ips_text.proofs.Ancestry.{same_path-self, same_path-true}
use Rattle.ips_outside.specs.Image.{Image}
use Rattle.ips_after.specs.Lists.{listed, unrepeated}
use Rattle.ips_after.specs.Request.{Request}
use Rattle.ips_after.specs.Salvage.{Aside}
use Rattle.ips_after.proofs.Changed.{both_ways}
use Rattle.ips_after.proofs.Order.{once_filter}
use Rattle.ips_after.proofs.Sorted.{sorted_once}
use Rattle.ips_aside.specs.declared.sides.side.Side.{Side}
use Rattle.ips_aside.specs.sides.Sides.{AreSides, has_side, side_paths}
use Rattle.ips_aside.specs.declared.lost.Lost.{Lost}
use Rattle.ips_aside.specs.declared.lost.LostName.{LostName}
use Rattle.ips_aside.specs.Lost.{AreLostNames, HasName, is_lost_name, lost_in, lost_of, lost_seen}

abbrev lost_path : Lost → List ℕ
lost_path l = l.path.now.bytes

-- paths of files that go into the salvage folder are those of files that are put beside paths
lost_among : (sides : List Side) (p : List ℕ) → listed (map lost_path (lost_of sides)) p ≡ true → listed (side_paths sides) p ≡ true
lost_among [] p h = h
lost_among (s ∷ sides) p h = go (is_lost_name s.name) h (lost_among sides p)
  where
    go : (b : Bool) → listed (map lost_path (cond b (record { path = s.path; put = s.put } ∷ lost_of sides) (lost_of sides))) p ≡ true → (listed (map lost_path (lost_of sides)) p ≡ true → listed (side_paths sides) p ≡ true) → (same_path s.path.now.bytes p || listed (side_paths sides) p) ≡ true
    go true h rest = first (or_cases (same_path s.path.now.bytes p) _ h)
      where
        first : (same_path s.path.now.bytes p ≡ true) ⊎ (listed (map lost_path (lost_of sides)) p ≡ true) → (same_path s.path.now.bytes p || listed (side_paths sides) p) ≡ true
        first (inl e) = or_left _ _ e
        first (inr e) = or_right (same_path s.path.now.bytes p) _ (rest e)
    go false h rest = or_right (same_path s.path.now.bytes p) _ (rest h)

-- and each once, where those are
lost_once : (sides : List Side) → unrepeated (side_paths sides) ≡ true → unrepeated (map lost_path (lost_of sides)) ≡ true
lost_once [] once = refl
lost_once (s ∷ sides) once = let parts = and_parts (not (listed (side_paths sides) s.path.now.bytes)) _ once in go (is_lost_name s.name) (not-true _ parts.0) (lost_once sides parts.1)
  where
    go : (b : Bool) → listed (side_paths sides) s.path.now.bytes ≡ false → unrepeated (map lost_path (lost_of sides)) ≡ true → unrepeated (map lost_path (cond b (record { path = s.path; put = s.put } ∷ lost_of sides) (lost_of sides))) ≡ true
    go true none rest = and_from _ _ (not_from_false _ (false_from_ne_true _ (λ h. false≢true (sym none ∙ lost_among sides s.path.now.bytes h)))) rest
    go false none rest = rest

apart_from : (x : List ℕ) (xs : List (List ℕ)) → listed xs x ≡ false → AllByRecursion (λ y. same_path x y ≡ false) xs
apart_from x [] none = tt
apart_from x (y ∷ xs) none = (
  false_from_ne_true _ (λ same. false≢true (sym none ∙ or_left _ _ (ap (λ (l : List ℕ). same_path y l) (same_path-true x y same) ∙ same_path-self y))),
  apart_from x xs (false_from_ne_true _ (λ h. false≢true (sym none ∙ or_right (same_path y x) _ h))),
)

distinct_once : (xs : List (List ℕ)) → unrepeated xs ≡ true → IsDistinct same_path xs
unfolding IsDistinct
distinct_once [] once = tt
distinct_once (x ∷ xs) once = let parts = and_parts (not (listed xs x)) _ once in (apart_from x xs (not-true _ parts.0), distinct_once xs parts.1)

abbrev name_paths : List LostName → List (List ℕ)
name_paths names = map lost_path (map lost_seen names)

had_behind : (x : LostName) (names ys : List LostName) → AllByRecursion (λ q. same_path x.path.now.bytes q ≡ false) (name_paths ys) → AllByRecursion (λ y. lost_in names y.path.now.bytes ≡ y.name.items) ys
    → AllByRecursion (λ y. lost_in (x ∷ names) y.path.now.bytes ≡ y.name.items) ys
had_behind x names [] off had = tt
had_behind x names (y ∷ ys) off had = (ap (λ (b : Bool). cond b x.name.items (lost_in names y.path.now.bytes)) off.0 ∙ had.0, had_behind x names ys off.1 had.1)

had_each : (names : List LostName) → IsDistinct same_path (name_paths names) → AllByRecursion (λ x. lost_in names x.path.now.bytes ≡ x.name.items) names
unfolding IsDistinct
had_each [] apart = tt
had_each (x ∷ names) apart = (ap (λ (b : Bool). cond b x.name.items (lost_in names x.path.now.bytes)) (same_path-self x.path.now.bytes), had_behind x names names apart.0 (had_each names apart.1))

pub all_had : (r : Request) (t : Image) (a : Aside) (paths things : List (List ℕ)) (sides : List Side) (names : List LostName) → IsStrictlySortedBy (slice_cmp nat_cmp) paths → AreSides r t paths sides → AreLostNames a.root things sides names
    → ((p : List ℕ) → a.lost p ≡ lost_in names p) → AllByRecursion (HasName a) names
all_had r t a paths things sides names sorted are found lost =
    let once = ap unrepeated are.paths_are ∙ once_filter (has_side r t) paths (sorted_once paths sorted) in
    each names (had_each names
    (IsDistinct-IsPermutation same_path same_turned (map lost_path (lost_of sides)) (name_paths names) (IsPermutation-map lost_path (lost_of sides) (map lost_seen names) found.just) (distinct_once (map lost_path (lost_of sides)) (lost_once sides once))))
  where
    turn : (x y : List ℕ) → same_path x y ≡ true → same_path y x ≡ true
    turn x y h = ap (λ (l : List ℕ). same_path y l) (same_path-true x y h) ∙ same_path-self y

    same_turned : (x y : List ℕ) → same_path x y ≡ same_path y x
    same_turned x y = both_ways (λ h. turn x y h) (λ h. turn y x h)

    each : (xs : List LostName) → AllByRecursion (λ x. lost_in names x.path.now.bytes ≡ x.name.items) xs → AllByRecursion (HasName a) xs
    each [] had = tt
    each (x ∷ xs) had = (lost x.path.now.bytes ∙ had.0, each xs had.1)
