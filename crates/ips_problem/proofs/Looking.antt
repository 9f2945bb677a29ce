-- Looking up stems and candidates by their numbers.
use Rattle.std.proofs.Common.{◌≡◌, ℕ, ◌<◌, Bool, false, List, map, length, position, slice_get, get_or, Option, Some, None, option_map, option_and_then, sym, ap, subst, ◌∙◌, bytes_eq, String, Global}
use Rattle.std.proofs.lemmas.List.Elements.{Contains-get_or}
use Rattle.std.proofs.lemmas.Option.{slice_get-map}
use Rattle.ips_refute.specs.declared.nogoods.Pair.{Pair}
use Rattle.ips_refute.specs.Meaning.{OnePerStem}
use Rattle.ips_fmri.specs.Version.{Parts}
use Rattle.ips_fmri.specs.declared.fmri.Fmri.{Fmri}
use Rattle.ips_depend.specs.Dependency.{stems}
use Rattle.ips_request.specs.Stems.{stems_of}
use Rattle.ips_problem.specs.declared.rows.Row.{Row}
use Rattle.ips_problem.specs.Posed.{candidate_of, version_at, picked, before, version_before, tells_spared, spared_at, spared}
use Rattle.ips_problem.specs.Seen.{seen_row, puzzle_of}
use Rattle.ips_problem.specs.Laws.{contained_candidate}
use Rattle.ips_problem.proofs.Numbers.{number_at}

-- what stands at a place of a set is the candidate of its stem
pub at_place : (set : List Pair) (i : ℕ) (d : Pair) (stem : ℕ) → OnePerStem set → i < length set → (get_or set i d).stem ≡ stem → Some (get_or set i d).candidate ≡ candidate_of set stem
at_place set i d stem one l e =
    sym (subst (λ (s : ℕ). candidate_of set s ≡ Some (get_or set i d).candidate) e
    (contained_candidate set (get_or set i d).stem (get_or set i d).candidate one (Contains-get_or set i d l)))

-- the number that stands at the place of a stem among those that are mentioned
pub numbered_at : (keys : List (String Global)) (fs : List Fmri) (os : List (Option ℕ)) (place : ℕ) (stem : List ℕ) (o d : Option ℕ) → os ≡ map (λ (f : Fmri). position (bytes_eq f.stem) (stems_of keys)) fs
    → o ≡ get_or os place d → slice_get (stems fs) place ≡ Some stem → o ≡ position (bytes_eq stem) (stems_of keys)
numbered_at keys fs os place stem o d all read at =
    read ∙ ap (λ (l : List (Option ℕ)). get_or l place d) all ∙ number_at (λ s. position (bytes_eq s) (stems_of keys)) fs place stem d at

-- a stem without a number is picked at no version
pub picked_without : (keys : List (String Global)) (rows : List Row) (set : List Pair) (stem : List ℕ) → None ≡ position (bytes_eq stem) (stems_of keys) → None ≡ picked (puzzle_of keys rows) set stem
picked_without keys rows set stem e = ap (option_and_then (λ j. version_at (slice_get (map seen_row rows) j) (candidate_of set j))) e

pub picked_with : (keys : List (String Global)) (rows : List Row) (set : List Pair) (stem : List ℕ) (i : ℕ) (o : Option Parts) → Some i ≡ position (bytes_eq stem) (stems_of keys)
    → o ≡ version_at (option_map seen_row (slice_get rows i)) (candidate_of set i) → o ≡ picked (puzzle_of keys rows) set stem
picked_with keys rows set stem i o number e =
    e ∙ ap (λ r. version_at r (candidate_of set i)) (sym (slice_get-map seen_row rows i))
    ∙ ap (option_and_then (λ j. version_at (slice_get (map seen_row rows) j) (candidate_of set j))) number

pub before_without : (keys : List (String Global)) (rows : List Row) (stem : List ℕ) → None ≡ position (bytes_eq stem) (stems_of keys) → None ≡ before (puzzle_of keys rows) stem
before_without keys rows stem e = ap (option_and_then (λ j. version_before (slice_get (map seen_row rows) j))) e

pub before_with : (keys : List (String Global)) (rows : List Row) (stem : List ℕ) (i : ℕ) (o : Option Parts) → Some i ≡ position (bytes_eq stem) (stems_of keys)
    → o ≡ version_before (option_map seen_row (slice_get rows i)) → o ≡ before (puzzle_of keys rows) stem
before_with keys rows stem i o number e =
    e ∙ ap version_before (sym (slice_get-map seen_row rows i)) ∙ ap (option_and_then (λ j. version_before (slice_get (map seen_row rows) j))) number

pub spared_without : (keys : List (String Global)) (rows : List Row) (stem : List ℕ) → None ≡ position (bytes_eq stem) (stems_of keys) → false ≡ spared (puzzle_of keys rows) stem
spared_without keys rows stem e = ap (spared_at (puzzle_of keys rows)) e

pub spared_with : (keys : List (String Global)) (rows : List Row) (stem : List ℕ) (i : ℕ) (b : Bool) → Some i ≡ position (bytes_eq stem) (stems_of keys)
    → b ≡ tells_spared (option_map seen_row (slice_get rows i)) → b ≡ spared (puzzle_of keys rows) stem
spared_with keys rows stem i b number e = e ∙ ap tells_spared (sym (slice_get-map seen_row rows i)) ∙ ap (spared_at (puzzle_of keys rows)) number
