-- Whether the stems of FMRIs are spared, asked one after the other.
use Rattle.std.proofs.Common.{◌≡◌, ◌∙◌, ℕ, ◌+◌, ◌<◌, Bool, true, false, List, take, get_or, length, slice_get, Some, option_map, sym, ap}
use Rattle.std.specs.List.{list_all}
use Rattle.std.proofs.lemmas.Bool.{and_from}
use Rattle.std.proofs.lemmas.List.Folds.{list_all_at, list_all_more}
use Rattle.std.proofs.lemmas.Option.{get_or_from_slice_get, slice_get-map}
use Rattle.ips_text.proofs.Lists.{element}
use Rattle.ips_fmri.specs.declared.fmri.Fmri.{Fmri}
use Rattle.ips_depend.specs.Dependency.{stems}
use Rattle.ips_depend.specs.Selection.{Spared}

-- what is told of the stem at a place is told of the FMRI there
told_at : (spares : Spared) (asked : List (List ℕ)) (fs : List Fmri) (i : ℕ) (b : Bool) → asked ≡ stems fs → i < length fs → ((stem : List ℕ) → slice_get asked i ≡ Some stem → b ≡ spares stem)
    → (f : Fmri) × (spares (get_or fs i f).stem ≡ b)
told_at spares asked fs i b named l told =
    let (f, at) = element fs i l in
    let stem = ap (λ (all : List (List ℕ)). slice_get all i) named ∙ slice_get-map (λ (g : Fmri). g.stem) fs i ∙ ap (option_map (λ (g : Fmri). g.stem)) at in
    (f, ap (λ (g : Fmri). spares g.stem) (get_or_from_slice_get fs i f f at) ∙ sym (told f.stem stem))

-- one more stem is spared
pub spared_more : (spares : Spared) (asked : List (List ℕ)) (fs : List Fmri) (i : ℕ) (b : Bool) → asked ≡ stems fs → i < length fs → ((stem : List ℕ) → slice_get asked i ≡ Some stem → b ≡ spares stem) → b ≡ true
    → list_all (λ (f : Fmri). spares f.stem) (take i fs) ≡ true → list_all (λ (f : Fmri). spares f.stem) (take (i + 1) fs) ≡ true
spared_more spares asked fs i b named l told spared before =
    let (f, here) = told_at spares asked fs i b named l told in
    list_all_more (λ (g : Fmri). spares g.stem) fs i f l ∙ and_from _ _ before (here ∙ spared)

-- a stem that isn't spared
pub spared_fails : (spares : Spared) (asked : List (List ℕ)) (fs : List Fmri) (i : ℕ) (b : Bool) → asked ≡ stems fs → i < length fs → ((stem : List ℕ) → slice_get asked i ≡ Some stem → b ≡ spares stem) → b ≡ false
    → false ≡ list_all (λ (f : Fmri). spares f.stem) fs
spared_fails spares asked fs i b named l told unspared =
    let (f, here) = told_at spares asked fs i b named l told in
    sym (list_all_at (λ (g : Fmri). spares g.stem) fs i f l (here ∙ unspared))
