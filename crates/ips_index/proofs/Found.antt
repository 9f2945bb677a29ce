-- Rows that a pattern finds.
use Rattle.std.proofs.Common.{◌≡◌, inl, inr, ℕ, Bool, true, false, List, sym, ◌∙◌, subst}
use Rattle.std.specs.Prelude.{◌↔◌, IsTrue}
use Rattle.std.specs.List.Sorted.{IsStrictlySortedBy}
use Rattle.std.specs.Str.{chars}
use Rattle.std.proofs.lemmas.Bool.{true≢false}
use Rattle.ips_fmri.specs.Pattern.{Matches, MatchesStem}
use Rattle.ips_index.specs.Rows.{IndexedValue, row_cmp}
use Rattle.ips_index.specs.Scan.{AreFound}
use Rattle.ips_index.proofs.Picked.{Picks, picks_each, picks_ascend}

-- the pattern matches the row's token
abbrev pub Meets : List ℕ → IndexedValue → Type 0
Meets pattern row = Matches (chars pattern) (chars row.token)

-- an anchored pattern matches a whole text
pub matched : (r : Bool) (pattern text : List ℕ) → (IsTrue r ↔ MatchesStem true pattern text) → r ≡ true → Matches pattern text
matched r pattern text is e = elim (is.0 e) [ inl whole ↦ whole | inr behind ↦ absurd (true≢false behind.0) ]

pub unmatched : (r : Bool) (pattern text : List ℕ) → (IsTrue r ↔ MatchesStem true pattern text) → r ≡ false → Matches pattern text → ⊥
unmatched r pattern text is e m = true≢false (sym (is.1 (inl m)) ∙ e)

pub found_all : (pattern : List ℕ) (seen rows found : List IndexedValue) → seen ≡ rows → Picks (Meets pattern) seen found → IsStrictlySortedBy row_cmp rows → AreFound pattern rows found
found_all pattern seen rows found all picks ascend =
    let whole = subst (λ (l : List IndexedValue). Picks (Meets pattern) l found) all picks in
    record { ascend = picks_ascend (Meets pattern) rows found whole ascend; each = picks_each (Meets pattern) rows found whole }
