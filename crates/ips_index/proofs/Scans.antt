-- An index is the scan of packages.
use Rattle.std.proofs.Common.{◌≡◌, inl, inr, ℕ, Bool, true, false, not, cond, List, [], ◌∷◌, ◌++◌, refl, sym, ◌∙◌}
use Rattle.std.specs.Prelude.{◌≢◌, ◌↔◌, Contains}
use Rattle.std.specs.List.{flat_map}
use Rattle.std.specs.List.Sorted.{IsStrictlySortedBy}
use Rattle.std.proofs.lemmas.Bool.{true≢false}
use Rattle.std.proofs.lemmas.List.Elements.{Contains-append_left, Contains-append_right, Contains-append_cases}
use Rattle.ips_action.specs.Action.{Fields}
use Rattle.ips_action.specs.Attrs.{is_same}
use Rattle.ips_action.proofs.KeyOrder.{same_true, same_self}
use Rattle.ips_index.specs.Rows.{IndexedValue, row_cmp, scanned}
use Rattle.ips_index.specs.Scan.{Scanned, IsScan, IsPut, IsDropped, without, with_stem}
use Rattle.ips_index.proofs.Growing.{none_there}
use Rattle.ips_index.proofs.Facts.{of_stem}

-- those of other stems
others_are : (stem : List ℕ) (packages : List Scanned) (row : IndexedValue) → Contains (flat_map (λ (p : Scanned). scanned p.stem p.actions) (without stem packages)) row ↔ (Contains (flat_map (λ (p : Scanned). scanned p.stem p.actions) packages) row × (row.stem ≢ stem))
others_are stem [] row = (λ h. absurd (none_there row h), λ w. absurd (none_there row w.0))
others_are stem (p ∷ packages) row = go (is_same p.stem stem) refl (others_are stem packages row)
  where
    rest : List IndexedValue
    rest = flat_map (λ (q : Scanned). scanned q.stem q.actions) packages

    go : (t : Bool) → is_same p.stem stem ≡ t → (Contains (flat_map (λ (q : Scanned). scanned q.stem q.actions) (without stem packages)) row ↔ (Contains rest row × (row.stem ≢ stem)))
        → Contains (flat_map (λ (q : Scanned). scanned q.stem q.actions) (cond (not t) (p ∷ without stem packages) (without stem packages))) row ↔ (Contains (scanned p.stem p.actions ++ rest) row × (row.stem ≢ stem))
    go true same more = (
      λ h. let w = more.0 h in (Contains-append_right (scanned p.stem p.actions) rest row w.0, w.1),
      λ w. elim (Contains-append_cases (scanned p.stem p.actions) rest row w.0) [
        | inl own ↦ absurd (w.1 (of_stem p.stem p.actions row own ∙ same_true p.stem stem same))
        | inr later ↦ more.1 (later, w.1)
      ],
    )
    go false apart more = (
      λ h. elim (Contains-append_cases (scanned p.stem p.actions) (flat_map (λ (q : Scanned). scanned q.stem q.actions) (without stem packages)) row h) [
        | inl own ↦ (Contains-append_left (scanned p.stem p.actions) rest row own, λ e. true≢false (sym (same_self p.stem stem (sym (of_stem p.stem p.actions row own) ∙ e)) ∙ apart))
        | inr later ↦ let w = more.0 later in (Contains-append_right (scanned p.stem p.actions) rest row w.0, w.1)
      ],
      λ w. elim (Contains-append_cases (scanned p.stem p.actions) rest row w.0) [
        | inl own ↦ Contains-append_left (scanned p.stem p.actions) (flat_map (λ (q : Scanned). scanned q.stem q.actions) (without stem packages)) row own
        | inr later ↦ Contains-append_right (scanned p.stem p.actions) (flat_map (λ (q : Scanned). scanned q.stem q.actions) (without stem packages)) row (more.1 (later, w.1))
      ],
    )

pub scan_new : IsScan [] []
unfolding IsStrictlySortedBy
scan_new = record { ascend = tt; each = λ row. (λ h. h, λ h. h) }

pub scan_dropped : (packages : List Scanned) (stem : List ℕ) (old new : List IndexedValue) → IsScan packages old → IsDropped stem old new → IsStrictlySortedBy row_cmp new → IsScan (without stem packages) new
scan_dropped packages stem old new scan dropped ascend = record {
  ascend = ascend;
  each = λ row. (
    λ h. let w = (dropped row).0 h in (others_are stem packages row).1 ((scan.each row).0 w.0, w.1),
    λ h. let w = (others_are stem packages row).0 h in (dropped row).1 ((scan.each row).1 w.0, w.1),
  );
}

pub scan_put : (packages : List Scanned) (stem : List ℕ) (actions : List Fields) (old new : List IndexedValue) → IsScan packages old → IsPut stem (scanned stem actions) old new → IsStrictlySortedBy row_cmp new → IsScan (with_stem stem actions packages) new
scan_put packages stem actions old new scan put ascend = record {
  ascend = ascend;
  each = λ row. (
    λ h. elim ((put row).0 h) [
      | inl own ↦ Contains-append_left (scanned stem actions) (flat_map (λ (q : Scanned). scanned q.stem q.actions) (without stem packages)) row own
      | inr had ↦ Contains-append_right (scanned stem actions) (flat_map (λ (q : Scanned). scanned q.stem q.actions) (without stem packages)) row ((others_are stem packages row).1 ((scan.each row).0 had.0, had.1))
    ],
    λ h. (put row).1 (elim (Contains-append_cases (scanned stem actions) (flat_map (λ (q : Scanned). scanned q.stem q.actions) (without stem packages)) row h) [
      | inl own ↦ inl own
      | inr later ↦ let w = (others_are stem packages row).0 later in inr ((scan.each row).1 w.0, w.1)
    ]),
  );
}
