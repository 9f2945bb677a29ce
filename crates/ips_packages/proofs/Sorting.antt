-- Packages by their stems, from records by the bytes of their paths.
use Rattle.std.proofs.Common.{◌≡◌, ◌↔◌, ℕ, zero, suc, ◌+◌, ◌<◌, Bool, true, false, ◌||◌, IsTrue, List, [], ◌∷◌, length, get_or, map, refl, sym, ◌∙◌, ap, subst, arith}
use Rattle.std.specs.declared.cmp.Ordering.{Ordering}
use Rattle.std.specs.declared.cmp.Ordering.TheVariants.{Less, Equal, Greater}
use Rattle.std.specs.Ordering.{nat_cmp, is_lt, eq_by_cmp, ordering_reverse}
use Rattle.std.specs.Cmp.{IsStrictWeakOrder}
use Rattle.std.specs.Cmp.Lexicographic.{slice_cmp}
use Rattle.std.specs.FinMap.{slice_cmp-IsAntisymmetric, nat_cmp-IsAntisymmetric}
use Rattle.std.specs.List.{All, AllByRecursion, IsAllAdjacentAnswer, IsDistinct, list_any}
use Rattle.std.specs.List.Sorted.{IsPermutation, IsSortedBy, IsStrictlySortedBy}
use Rattle.std.proofs.lemmas.Bool.{false≢true}
use Rattle.std.proofs.lemmas.Cmp.{nat_list_cmp_total, eq_by_cmp_equiv}
use Rattle.std.proofs.lemmas.List.{get_or-map, length-map}
use Rattle.std.proofs.lemmas.List.MinMax.{ranks_by}
use Rattle.std.proofs.lemmas.List.Sorted.{IsPermutation-map, list_any-IsPermutation}
use Rattle.std.proofs.lemmas.Map.Keys.{apart_from_distinct, IsDistinct-from_sorted, IsDistinct-IsPermutation, sorted_from_all_adjacent, sorted_head, sorted_tail}
use Rattle.std.proofs.lemmas.Map.Views.{All-map-IsPermutation}
use Rattle.std.proofs.lemmas.Simd.{map-map}
use Rattle.ips_text.specs.Ancestry.{same_path}
use Rattle.ips_text.specs.Kept.{Kept}
use Rattle.ips_manifest.specs.declared.package.Package.{Package}
use Rattle.ips_state.specs.State.{Ascend, Installed, installed}
use Rattle.ips_state.specs.Records.{package_path}
use Rattle.ips_packages.specs.Placed.{places}

abbrev pub cmp_bytes : List ℕ → List ℕ → Ordering
cmp_bytes a b = slice_cmp nat_cmp a b

-- ---- an order that is tested

-- the next key of a list that ascends is greater
next_above : (keys : List (List ℕ)) (k : ℕ) (d : List ℕ) → Ascend keys → k + 1 < length keys → cmp_bytes (get_or keys k d) (get_or keys (k + 1) d) ≡ Less
next_above [] k d up lt = absurd (omega (arith, lt))
next_above (x ∷ []) k d up lt = absurd (omega (arith, lt))
next_above (x ∷ y ∷ keys) zero d up lt = (sorted_head cmp_bytes x (y ∷ keys) up).0
next_above (x ∷ y ∷ keys) (suc k) d up lt =
    let one : suc (k + 1) ≡ suc k + 1 = omega arith in
    subst (λ (n : ℕ). cmp_bytes (get_or (y ∷ keys) k d) (get_or (x ∷ y ∷ keys) n d) ≡ Less) one (next_above (y ∷ keys) k d (sorted_tail cmp_bytes x (y ∷ keys) up) (omega (arith, lt)))

less_is : (o : Ordering) → true ≡ is_lt o → o ≡ Less
less_is Less e = refl
less_is Equal e = absurd (false≢true (sym e))
less_is Greater e = absurd (false≢true (sym e))

not_less : (o : Ordering) → false ≡ is_lt o → o ≡ Less → ⊥
not_less o e is = false≢true (e ∙ ap is_lt is)

abbrev pub bytes_in : List Kept → List (List ℕ)
bytes_in paths = map (λ (p : Kept). p.bytes) paths

at_path : (paths : List Kept) (k : ℕ) (d : Kept) → k < length paths → get_or (bytes_in paths) k d.bytes ≡ (get_or paths k d).bytes
at_path paths k d lt = get_or-map (λ (p : Kept). p.bytes) paths k d d.bytes lt

pub order_told : (paths : List Kept) (r : Bool) → IsAllAdjacentAnswer (λ (x y : Kept) (b : Bool). b ≡ is_lt (cmp_bytes x.bytes y.bytes)) paths r → IsTrue r ↔ Ascend (bytes_in paths)
unfolding IsStrictlySortedBy
order_told [] true h = (λ is. tt, λ up. refl)
order_told [] false h = absurd (omega (arith, h.1))
order_told (p ∷ paths) true h = (
  λ is. sorted_from_all_adjacent nat_list_cmp_total (bytes_in (p ∷ paths)) p.bytes (λ k lt.
      let within : k + 1 < length (p ∷ paths) = omega (arith, length-map (p ∷ paths) (λ (c : Kept). c.bytes)) in
      (λ j. cmp_bytes (at_path (p ∷ paths) k p (omega (arith, within)) j) (at_path (p ∷ paths) (k + 1) p within j)) ∙ less_is _ (h k p within)),
  λ up. refl,
)
order_told (p ∷ paths) false h = (
  λ is. absurd (false≢true is),
  λ up.
      let k = h.0 in
      let within : k + 1 < length (p ∷ paths) = h.1 in
      let above = next_above (bytes_in (p ∷ paths)) k p.bytes up (omega (arith, within, length-map (p ∷ paths) (λ (c : Kept). c.bytes))) in
      absurd (not_less _ (h.2 p) ((λ j. cmp_bytes (sym (at_path (p ∷ paths) k p (omega (arith, within))) j) (sym (at_path (p ∷ paths) (k + 1) p within) j)) ∙ above)),
)

-- ---- sorted by stems

abbrev pub before_stem : Package → Package → Bool
before_stem a b = is_lt (cmp_bytes a.stem b.stem)

pub before_ranks : IsStrictWeakOrder before_stem
before_ranks = ranks_by nat_list_cmp_total (λ (q : Package). q.stem)

-- a stem that isn't above the next one, and has another place, is below it
below_next : (a b : List ℕ) → is_lt (cmp_bytes b a) ≡ false → eq_by_cmp cmp_bytes (package_path a) (package_path b) ≡ false → cmp_bytes a b ≡ Less
below_next a b above other = go (cmp_bytes b a) refl above
  where
    go : (o : Ordering) → cmp_bytes b a ≡ o → is_lt o ≡ false → cmp_bytes a b ≡ Less
    go Less e h = absurd (false≢true (sym h))
    go Equal e h =
        let same = slice_cmp-IsAntisymmetric nat_cmp-IsAntisymmetric b a e in
        absurd (false≢true (sym other ∙ ap (λ (x : List ℕ). eq_by_cmp cmp_bytes (package_path a) (package_path x)) same ∙ (eq_by_cmp_equiv nat_list_cmp_total).refl (package_path a)))
    go Greater e h = nat_list_cmp_total.antisymm a b ∙ ap ordering_reverse e

abbrev pub stems_shown : List Package → List (List ℕ)
stems_shown packages = map (λ (p : Installed). p.stem) (map installed packages)

stem_at_place : (packages : List Package) (k : ℕ) (d : Package) → k < length packages → get_or (stems_shown packages) k d.stem ≡ (get_or packages k d).stem
stem_at_place packages k d lt = ap (λ (l : List (List ℕ)). get_or l k d.stem) (map-map (λ (p : Installed). p.stem) installed packages) ∙ get_or-map (λ (p : Package). p.stem) packages k d d.stem lt

place_at : (packages : List Package) (k : ℕ) (d : Package) → k < length packages → get_or (places (map installed packages)) k (package_path d.stem) ≡ package_path (get_or packages k d).stem
place_at packages k d lt = ap (λ (l : List (List ℕ)). get_or l k (package_path d.stem)) (map-map (λ (p : Installed). package_path p.stem) installed packages) ∙ get_or-map (λ (p : Package). package_path p.stem) packages k d (package_path d.stem) lt

stems_ascend : (packages : List Package) → IsSortedBy before_stem packages → IsDistinct (eq_by_cmp cmp_bytes) (places (map installed packages)) → Ascend (stems_shown packages)
unfolding IsStrictlySortedBy
stems_ascend [] up apart = tt
stems_ascend (p ∷ packages) up apart = sorted_from_all_adjacent nat_list_cmp_total (stems_shown (p ∷ packages)) p.stem (λ k lt.
    let all = p ∷ packages in
    let within : k + 1 < length (p ∷ packages) = omega (arith, lt, length-map (map installed (p ∷ packages)) (λ (q : Installed). q.stem), length-map (p ∷ packages) installed) in
    let here : k < length (p ∷ packages) = omega (arith, within) in
    let behind : k + 1 < length (places (map installed (p ∷ packages))) = omega (arith, within, length-map (map installed (p ∷ packages)) (λ (q : Installed). package_path q.stem), length-map (p ∷ packages) installed) in
    let other = apart_from_distinct (eq_by_cmp cmp_bytes) (places (map installed (p ∷ packages))) k (k + 1) (package_path p.stem) apart (omega arith) behind in
    let places_apart = (λ j. eq_by_cmp cmp_bytes (sym (place_at (p ∷ packages) k p here) j) (sym (place_at (p ∷ packages) (k + 1) p within) j)) ∙ other in
    (λ j. cmp_bytes (stem_at_place (p ∷ packages) k p here j) (stem_at_place (p ∷ packages) (k + 1) p within j))
    ∙ below_next (get_or (p ∷ packages) k p).stem (get_or (p ∷ packages) (k + 1) p).stem (up k p (omega arith) within) places_apart)

pub sorted_stems : (old new : List Package) → Ascend (places (map installed old)) → IsPermutation old new → IsSortedBy before_stem new → Ascend (stems_shown new)
sorted_stems old new order moved up =
    let apart = IsDistinct-from_sorted cmp_bytes (places (map installed old)) order in
    let changed = IsPermutation-map (λ (p : Installed). package_path p.stem) (map installed old) (map installed new) (IsPermutation-map installed old new moved) in
    stems_ascend new up (IsDistinct-IsPermutation (eq_by_cmp cmp_bytes) (eq_by_cmp_equiv nat_list_cmp_total).symm (places (map installed old)) (places (map installed new)) changed apart)

-- ---- what the same packages have in another order

pub to_all : {X : Type 0} (P : X → Type 0) (xs : List X) → AllByRecursion P xs → All P xs
to_all P [] h k d lt = absurd (omega (arith, lt))
to_all P (x ∷ xs) h zero d lt = h.0
to_all P (x ∷ xs) h (suc k) d lt = to_all P xs h.1 k d (omega (arith, lt))

from_all : {X : Type 0} (P : X → Type 0) (xs : List X) → All P xs → AllByRecursion P xs
from_all P [] all = tt
from_all P (x ∷ xs) all = (all 0 x (omega arith), from_all P xs (λ k d lt. all (suc k) d (omega (arith, lt))))

pub all_moved : (P : Installed → Type 0) (old new : List Package) → IsPermutation old new → AllByRecursion P (map installed old) → AllByRecursion P (map installed new)
all_moved P old new moved all = from_all P (map installed new) (All-map-IsPermutation installed P old new moved (to_all P (map installed old) all))

any_place : (path : List ℕ) (packages : List Installed) → list_any (λ q. same_path q path) (places packages) ≡ list_any (λ (p : Installed). same_path (package_path p.stem) path) packages
any_place path [] = refl
any_place path (p ∷ packages) = ap (λ (b : Bool). same_path (package_path p.stem) path || b) (any_place path packages)

pub any_moved : (path : List ℕ) (old new : List Package) → IsPermutation old new → list_any (λ q. same_path q path) (places (map installed old)) ≡ list_any (λ (p : Installed). same_path (package_path p.stem) path) (map installed new)
any_moved path old new moved = any_place path (map installed old) ∙ list_any-IsPermutation (λ (p : Installed). same_path (package_path p.stem) path) (map installed old) (map installed new) (IsPermutation-map installed old new moved)
