-- Strays put in order, each path once.
use Rattle.std.proofs.Common.{◌≡◌, ℕ, Bool, true, false, cond, ◌||◌, ◌==◌, List, [], ◌∷◌, refl, sym, ◌∙◌, ap}
use Rattle.std.specs.Cmp.{IsStrictWeakOrder}
use Rattle.std.specs.Cmp.Lexicographic.{bytes_decides, pointwise, slice_cmp, texts_ties}
use Rattle.std.specs.List.{AllByRecursion, dedup, dedup_from, list_any}
use Rattle.std.specs.List.Sorted.{IsPermutation, IsSortedBy, IsStrictlySortedBy}
use Rattle.std.specs.Ordering.{is_lt, nat_cmp}
use Rattle.std.specs.declared.cmp.Ordering.{Ordering}
use Rattle.std.specs.declared.cmp.Ordering.TheVariants.{Less}
use Rattle.std.proofs.lemmas.Cmp.{nat_list_cmp_total, on_total}
use Rattle.std.proofs.lemmas.List.Elements.{All-from_recursion, recursion_from_All}
use Rattle.std.proofs.lemmas.List.Filters.{All-dedup}
use Rattle.std.proofs.lemmas.List.Kept.{IsStrictlySortedBy-dedup}
use Rattle.std.proofs.lemmas.List.MinMax.{ranks_by}
use Rattle.std.proofs.lemmas.List.Sorted.{All-permutation, list_any-IsPermutation}
use Rattle.ips_text.specs.Ancestry.{same_path}
use Rattle.ips_text.proofs.Truths.{or_twice}
use Rattle.ips_outside.specs.Image.{Image}
use Rattle.ips_after.specs.Lists.{listed}
use Rattle.ips_found.specs.declared.found.Thing.{Thing}
use Rattle.ips_found.specs.Found.{AreThings, IsThing, thing_paths}

-- how the paths of two stand to one another
abbrev by_path : Thing → Thing → Ordering
by_path a b = slice_cmp nat_cmp a.path.bytes b.path.bytes

abbrev pub earlier : Thing → Thing → Bool
earlier a b = is_lt (by_path a b)

-- both have one path
abbrev pub same : Thing → Thing → Bool
same a b = pointwise ◌==◌ a.path.bytes b.path.bytes

pub earlier_ranks : IsStrictWeakOrder earlier
earlier_ranks = ranks_by nat_list_cmp_total (λ (s : Thing). s.path.bytes)

strict_paths : (xs : List Thing) → IsStrictlySortedBy by_path xs → IsStrictlySortedBy (slice_cmp nat_cmp) (thing_paths xs)
unfolding IsStrictlySortedBy
strict_paths [] up = tt
strict_paths (x ∷ xs) up = (all xs up.0, strict_paths xs up.1)
  where
    all : (ys : List Thing) → AllByRecursion (λ y. by_path x y ≡ Less) ys → AllByRecursion (λ (p : List ℕ). slice_cmp nat_cmp x.path.bytes p ≡ Less) (thing_paths ys)
    all [] h = h
    all (y ∷ ys) h = (h.0, all ys h.1)

pub sorted_once : (xs : List Thing) → IsSortedBy earlier xs → IsStrictlySortedBy (slice_cmp nat_cmp) (thing_paths (dedup same xs))
sorted_once xs up = strict_paths (dedup same xs) (IsStrictlySortedBy-dedup (on_total (λ (s : Thing). s.path.bytes) nat_list_cmp_total) (λ x y. texts_ties x.path.bytes y.path.bytes) xs up)

-- ---- the same paths

listed_any : (xs : List Thing) (q : List ℕ) → listed (thing_paths xs) q ≡ list_any (λ (s : Thing). same_path s.path.bytes q) xs
listed_any [] q = refl
listed_any (x ∷ xs) q = ap (λ (b : Bool). same_path x.path.bytes q || b) (listed_any xs q)

pub listed_moved : (xs ys : List Thing) (q : List ℕ) → IsPermutation xs ys → listed (thing_paths ys) q ≡ listed (thing_paths xs) q
listed_moved xs ys q moved = listed_any ys q ∙ sym (list_any-IsPermutation (λ (s : Thing). same_path s.path.bytes q) xs ys moved) ∙ sym (listed_any xs q)

listed_from : (q : List ℕ) (k : Thing) (ys : List Thing) → listed (thing_paths (dedup_from same k ys)) q ≡ (same_path k.path.bytes q || listed (thing_paths ys) q)
listed_from q k [] = refl
listed_from q k (y ∷ ys) = go (listed_from q k ys) (listed_from q y ys) (same y k) refl
  where
    go : listed (thing_paths (dedup_from same k ys)) q ≡ (same_path k.path.bytes q || listed (thing_paths ys) q) → listed (thing_paths (dedup_from same y ys)) q ≡ (same_path y.path.bytes q || listed (thing_paths ys) q)
        → (b : Bool) → same y k ≡ b → listed (thing_paths (cond b (dedup_from same k ys) (k ∷ dedup_from same y ys))) q ≡ (same_path k.path.bytes q || (same_path y.path.bytes q || listed (thing_paths ys) q))
    go first next true is =
        let one : y.path.bytes ≡ k.path.bytes = (bytes_decides y.path.bytes k.path.bytes).0 is in
        first ∙ or_twice (same_path k.path.bytes q) (listed (thing_paths ys) q) ∙ ap (λ (p : List ℕ). same_path k.path.bytes q || (same_path p q || listed (thing_paths ys) q)) (sym one)
    go first next false is = ap (λ (b : Bool). same_path k.path.bytes q || b) next

pub listed_once : (xs : List Thing) (q : List ℕ) → listed (thing_paths (dedup same xs)) q ≡ listed (thing_paths xs) q
listed_once [] q = refl
listed_once (x ∷ xs) q = listed_from q x xs

-- ---- what was found

pub found_moved : (t : Image) (xs ys : List Thing) → IsPermutation xs ys → AreThings t xs → AreThings t ys
found_moved t xs ys moved all = recursion_from_All (IsThing t) ys (All-permutation (IsThing t) xs ys moved (All-from_recursion (IsThing t) xs all))

pub found_once : (t : Image) (xs : List Thing) → AreThings t xs → AreThings t (dedup same xs)
found_once t xs all = recursion_from_All (IsThing t) (dedup same xs) (All-dedup same (IsThing t) xs (All-from_recursion (IsThing t) xs all))
