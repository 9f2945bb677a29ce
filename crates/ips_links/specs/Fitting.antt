-- Changes that are what their rows say.
use Rattle.std.specs.Prelude.{◌≡◌, ℕ, List, [], ◌∷◌, Option, Some, None}
use Rattle.ips_after.specs.Request.{Wanted}
use Rattle.ips_change.specs.declared.change.Change.{Change}
use Rattle.ips_change.specs.declared.change.Change.TheVariants as told
use Rattle.ips_change.specs.Fitting.{Fits, made_mode}
use Rattle.ips_change.specs.declared.survey.row.Row.{Row}
use Rattle.ips_change.specs.survey.Rows.{row_pair}

-- The mode of a directory that is made for what is below it: the wanted one's, or 0755 where nothing is wanted.
abbrev pub support_mode : Option Wanted → Option ℕ
support_mode (Some w) = made_mode (Some w)
support_mode None = Some 493

-- What becomes of the path, with the directories that are made for what is below them, is what its wanted entry says; only a directory may also be
-- made where nothing is wanted.
abbrev pub FitsSupported : Option Wanted → Change → Type 0
FitsSupported new (told.Dir mode) = support_mode new ≡ Some mode
FitsSupported new c = Fits new c

-- Each change fits, in this sense, what is wanted at the row in its place.
abbrev pub AllFit : (Option Wanted → Change → Type 0) → List Row → List Change → Type 0
AllFit fits rows [] = Unit {0}
AllFit fits [] (c ∷ changes) = Unit {0}
AllFit fits (row ∷ rows) (c ∷ changes) = fits (row_pair row).wanted c × AllFit fits rows changes
