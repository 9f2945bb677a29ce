-- Changes that are what their rows say.
use Rattle.std.proofs.Common.{◌≡◌, ℕ, zero, suc, ◌<◌, List, [], ◌∷◌, ◌++◌, get_or, length, Option, Some, None, sym, subst, arith}
use Rattle.ips_after.specs.Request.{Wanted}
use Rattle.ips_change.specs.declared.change.Change.{Change}
use Rattle.ips_change.specs.declared.change.Change.TheVariants as told
use Rattle.ips_change.specs.Fitting.{Fits, made_mode}
use Rattle.ips_change.specs.declared.survey.row.Row.{Row}
use Rattle.ips_change.specs.survey.Rows.{row_pair}
use Rattle.ips_links.specs.Fitting.{AllFit, FitsSupported, support_mode}

made_supports : (new : Option Wanted) (mode : ℕ) → made_mode new ≡ Some mode → support_mode new ≡ Some mode
made_supports (Some w) mode h = h
made_supports None mode h = cc

-- what fits without directories for what is below fits with them
pub fits_supported : (new : Option Wanted) (c : Change) → Fits new c → FitsSupported new c
fits_supported new (told.Dir mode) h = made_supports new mode h
fits_supported new told.Kept h = h
fits_supported new told.Removed h = h
fits_supported new (told.File payload mode) h = h
fits_supported new (told.Link target) h = h
fits_supported new (told.Hard to) h = h
fits_supported new (told.Mode mode) h = h

pub fit_more : (fits : Option Wanted → Change → Type 0) (rows : List Row) (xs new : List Change) (i : ℕ) (row : Row) (c : Change) → new ≡ xs ++ c ∷ [] → length xs ≡ i → row ≡ get_or rows i row → fits (row_pair row).wanted c
    → AllFit fits rows xs → AllFit fits rows new
fit_more fits rows xs new i row c more long is one all = subst (AllFit fits rows) (sym more) (go rows xs i long is all)
  where
    go : (rows : List Row) (xs : List Change) (i : ℕ) → length xs ≡ i → row ≡ get_or rows i row → AllFit fits rows xs → AllFit fits rows (xs ++ c ∷ [])
    go [] [] i long is all = tt
    go [] (x ∷ xs) i long is all = tt
    go (r ∷ rows) [] zero long is all = (subst (λ (y : Row). fits (row_pair y).wanted c) is one, tt)
    go (r ∷ rows) [] (suc i) long is all = absurd (omega (arith, long))
    go (r ∷ rows) (x ∷ xs) zero long is all = absurd (omega (arith, long))
    go (r ∷ rows) (x ∷ xs) (suc i) long is all = (all.0, go rows xs i (omega (arith, long)) is all.1)

pub fit_here : (fits : Option Wanted → Change → Type 0) (rows : List Row) (xs : List Change) (i : ℕ) (row : Row) (c : Change) → i < length rows → row ≡ get_or rows i row → i < length xs → c ≡ get_or xs i c → AllFit fits rows xs
    → fits (row_pair row).wanted c
fit_here fits [] xs i row c within there lt is all = absurd (omega (arith, within))
fit_here fits (r ∷ rows) [] i row c within there lt is all = absurd (omega (arith, lt))
fit_here fits (r ∷ rows) (x ∷ xs) zero row c within there lt is all = subst (λ (y : Row). fits (row_pair y).wanted c) (sym there) (subst (fits (row_pair r).wanted) (sym is) all.0)
fit_here fits (r ∷ rows) (x ∷ xs) (suc i) row c within there lt is all = fit_here fits rows xs i row c (omega (arith, within)) there (omega (arith, lt)) is all.1
