-- Packages that are put into an index from the last to the first.
use Rattle.std.proofs.Common.{◌≡◌, ℕ, Bool, false, not, cond, List, [], ◌∷◌, ◌++◌, map, refl, ap, subst, ◌∙◌, append_assoc}
use Rattle.std.specs.List.{AllByRecursion}
use Rattle.std.specs.List.Sorted.{IsStrictlySortedBy}
use Rattle.std.specs.Ordering.{nat_cmp}
use Rattle.std.specs.Cmp.Lexicographic.{slice_cmp}
use Rattle.std.specs.declared.cmp.Ordering.TheVariants.{Less}
use Rattle.ips_index.specs.Rows.{IndexedValue, scanned}
use Rattle.ips_index.specs.Scan.{IsScan, IsPut, Scanned, without}
use Rattle.ips_index.specs.Text.{AreIndexRows}
use Rattle.ips_index.proofs.Scans.{scan_put}
use Rattle.ips_fmri.specs.Name.{IsStem}
use Rattle.ips_state.specs.Form.{IsPackage}
use Rattle.ips_manifest.specs.declared.package.Package.{Package}
use Rattle.ips_state.specs.State.{Ascend, Installed, installed}
use Rattle.ips_asked.proofs.Kept.{unlike}
use Rattle.ips_next.specs.Next.{IsIndexOf, scanned_of}

-- no stem behind one that ascends is that one
none_again : (stem : List ℕ) (packages : List Package) → AllByRecursion (λ k. slice_cmp nat_cmp stem k ≡ Less) (map (λ (p : Installed). p.stem) (map installed packages))
    → without stem (map scanned_of (map installed packages)) ≡ map scanned_of (map installed packages)
none_again stem [] all = refl
none_again stem (p ∷ packages) all =
    let later = map scanned_of (map installed packages) in
    ap (λ (b : Bool). cond (not b) (scanned_of (installed p) ∷ without stem later) (without stem later)) (unlike stem p.stem all.0).1
    ∙ ap (λ (l : List Scanned). scanned_of (installed p) ∷ l) (none_again stem packages all.1)

-- what ascends does so behind some first items
ascends_behind : (front packages : List Package) → Ascend (map (λ (p : Installed). p.stem) (map installed (front ++ packages))) → Ascend (map (λ (p : Installed). p.stem) (map installed packages))
unfolding IsStrictlySortedBy
ascends_behind [] packages order = order
ascends_behind (p ∷ front) packages order = ascends_behind front packages order.1

first_before : (p : Package) (packages : List Package) → Ascend (map (λ (p : Installed). p.stem) (map installed (p ∷ packages)))
    → AllByRecursion (λ k. slice_cmp nat_cmp p.stem k ≡ Less) (map (λ (p : Installed). p.stem) (map installed packages))
unfolding IsStrictlySortedBy
first_before p packages order = order.0

-- The rows are those of an index of the last packages, and these are left.
pub record ArePutBehind (packages left : List Package) (rows : List IndexedValue) : Type 0 where
  pub behind : List Package
  pub whole : packages ≡ left ++ behind
  pub index : IsIndexOf (map installed behind) rows

-- one package more
pub one_put : (packages left others : List Package) (p : Package) (old new : List IndexedValue) → Ascend (map (λ (p : Installed). p.stem) (map installed packages)) → left ≡ others ++ p ∷ []
    → ArePutBehind packages left old → IsPut (scanned_of (installed p)).stem (scanned (scanned_of (installed p)).stem (scanned_of (installed p)).actions) old new → AreIndexRows new
    → ArePutBehind packages others new
one_put packages left others p old new order is put more rows =
    let whole : packages ≡ others ++ p ∷ put.behind = put.whole ∙ ap (λ (l : List Package). l ++ put.behind) is ∙ append_assoc others (p ∷ []) put.behind in
    let ascends = ascends_behind others (p ∷ put.behind) (subst (λ (l : List Package). Ascend (map (λ (p : Installed). p.stem) (map installed l))) whole order) in
    let s = scanned_of (installed p) in
    record {
      behind = p ∷ put.behind;
      whole = whole;
      index = record {
        scan = subst (λ (l : List Scanned). IsScan (s ∷ l) new) (none_again p.stem put.behind (first_before p put.behind ascends))
            (scan_put (map scanned_of (map installed put.behind)) s.stem s.actions old new put.index.scan more rows.ascend);
        each = rows;
      };
    }

-- the stem of one of the packages
stem_among : (front packages : List Package) (p : Package) → AllByRecursion IsPackage (map installed (front ++ p ∷ packages)) → IsStem false p.stem
stem_among [] packages p all = all.0.stem
stem_among (q ∷ front) packages p all = stem_among front packages p all.1

-- the last package that is left has a stem
pub last_stem : (packages left others : List Package) (p : Package) (rows : List IndexedValue) → AllByRecursion IsPackage (map installed packages) → ArePutBehind packages left rows → left ≡ others ++ p ∷ [] → IsStem false p.stem
last_stem packages left others p rows all put is =
    stem_among others put.behind p (subst (λ (l : List Package). AllByRecursion IsPackage (map installed l)) (put.whole ∙ ap (λ (l : List Package). l ++ put.behind) is ∙ append_assoc others (p ∷ []) put.behind) all)
