-- Drafts that are filled one after the other.
use Rattle.std.proofs.Common.{◌≡◌, List, [], ◌∷◌, ◌++◌, map, Err, subst}
use Rattle.std.specs.List.{AllByRecursion}
use Rattle.ips_text.specs.declared.refusal.Or.{Or}
use Rattle.ips_text.specs.declared.refusal.Or.TheVariants.{Bad, OutOfMemory}
use Rattle.ips_text.specs.Reading.{IfBad}
use Rattle.ips_manifest.specs.declared.draft.Draft.{Draft}
use Rattle.ips_outside.specs.Image.{Image}
use Rattle.ips_sends.specs.Published.{AreFilled}
use Rattle.ips_sends.specs.Judged.{HasSource, Fits}
use Rattle.ips_filling.specs.declared.filled.Filled.{Filled}
use Rattle.ips_filling.specs.declared.filled.ContentFault.{ContentFault}
use Rattle.ips_filling.specs.declared.filled.ContentFault.TheVariants.{Missing, TooLarge, SourceFault}
use Rattle.ips_filling.specs.Filled.{IsFilling, Pairwise, IsUnfilled, AreUnfilled}

pub pair_more : (R : Draft → Filled → Type 0) (drafts : List Draft) (filled : List Filled) (d : Draft) (f : Filled) → Pairwise R drafts filled → R d f → Pairwise R (drafts ++ d ∷ []) (filled ++ f ∷ [])
pair_more R [] [] d f all one = (one, tt)
pair_more R [] (g ∷ filled) d f all one = absurd all
pair_more R (c ∷ drafts) [] d f all one = absurd all
pair_more R (c ∷ drafts) (g ∷ filled) d f all one = (all.0, pair_more R drafts filled d f all.1 one)

pub all_fit : (t : Image) (drafts : List Draft) (filled : List Filled) → Pairwise (IsFilling t) drafts filled → AllByRecursion (Fits t) drafts
all_fit t [] filled all = tt
all_fit t (d ∷ drafts) [] all = absurd all
all_fit t (d ∷ drafts) (f ∷ filled) all = (all.0.fits, all_fit t drafts filled all.1)

pub all_filled : (t : Image) (drafts : List Draft) (filled : List Filled) → Pairwise (IsFilling t) drafts filled → AreFilled t drafts (map (λ (f : Filled). f.line.action) filled)
all_filled t [] [] all = tt
all_filled t [] (f ∷ filled) all = absurd all
all_filled t (d ∷ drafts) [] all = absurd all
all_filled t (d ∷ drafts) (f ∷ filled) all = (all.0.fills, all_filled t drafts filled all.1)

at_middle : (P : Draft → Type 0) (front : List Draft) (d : Draft) (behind : List Draft) → AllByRecursion P (front ++ d ∷ behind) → P d
at_middle P [] d behind all = all.0
at_middle P (c ∷ front) d behind all = at_middle P front d behind all.1

-- behind drafts that are filled one isn't
pub unfilled_next : (X Y : Type 0) (e : Or ContentFault) (t : Image) (front : List Draft) (d : Draft) (behind drafts : List Draft) (filled : List Filled) → Pairwise (IsFilling t) front filled → drafts ≡ front ++ d ∷ behind
    → IfBad {X = X} (Err e) (IsUnfilled t d) → IfBad {X = Y} (Err e) (AreUnfilled t drafts)
unfilled_next X Y OutOfMemory t front d behind drafts filled all parts not = tt
unfilled_next X Y (Bad SourceFault) t front d behind drafts filled all parts not = tt
unfilled_next X Y (Bad (Missing text)) t front d behind drafts filled all parts not =
    λ sources. at_middle (HasSource t) front d behind (subst (AllByRecursion (HasSource t)) parts sources) not.0 not.1
unfilled_next X Y (Bad (TooLarge count)) t front d behind drafts filled all parts not = (front, d, behind, parts, all_fit t front filled all, not)
