-- Steps of wanted paths, one after another, and targets of what is made.
use Rattle.std.proofs.Common.{◌≡◌, ◌+◌, ◌<◌, ℕ, true, List, [], ◌∷◌, ◌++◌, map, length, take, get_or, Some, is_some, refl, sym, ◌∙◌, ap, append_assoc, arith}
use Rattle.std.specs.Prelude.{slice_get}
use Rattle.std.specs.List.{AllByRecursion}
use Rattle.std.specs.Option.{option_map}
use Rattle.std.proofs.lemmas.List.{append-nil, map-append}
use Rattle.std.proofs.lemmas.Option.{get_or_from_slice_get, same_Some, slice_get-map}
use Rattle.ips_text.proofs.Lists.{take_item}
use Rattle.ips_outside.specs.Image.{Image}
use Rattle.ips_after.specs.After.{over_or}
use Rattle.ips_after.specs.Change.{Change}
use Rattle.ips_after.specs.Planned.{HasWantedParts}
use Rattle.ips_after.specs.Repaired.{IsRepair, Repair, relinked_as, repairs}
use Rattle.ips_after.specs.Request.{Want, WantLink, Wanted}
use Rattle.ips_change.specs.declared.change.Change.{Change as Told}
use Rattle.ips_change.specs.declared.change.Change.TheVariants as told
use Rattle.ips_change.specs.Fitting.{Fits}
use Rattle.ips_emptied.specs.order.Chosen.{path_in}
use Rattle.ips_emit.specs.Emitted.{HasTarget, Provenance, Turn, provenances_told}
use Rattle.ips_mend.specs.mended.Drafting.{sources_in, turns_mended}
use Rattle.ips_mend.specs.mended.Mending.{AllFitAt}

-- ---- targets

has_target : (want : Want) (p : List ℕ) (c : Told) → ((q : List ℕ) (w : Wanted) → want.at q ≡ Some w → HasWantedParts w) → Fits (want.at p) c → HasTarget c
has_target want p (told.Link target) parts fit = (parts p (WantLink target.now) fit).0
has_target want p told.Kept parts fit = tt
has_target want p told.Removed parts fit = tt
has_target want p (told.Dir mode) parts fit = tt
has_target want p (told.File payload mode) parts fit = tt
has_target want p (told.Hard to) parts fit = tt
has_target want p (told.Mode mode) parts fit = tt

pub have_targets : (want : Want) (paths : List (List ℕ)) (changes : List Told) → ((q : List ℕ) (w : Wanted) → want.at q ≡ Some w → HasWantedParts w) → length changes ≡ length paths → AllFitAt want paths changes → AllByRecursion HasTarget changes
have_targets want paths [] parts long fit = tt
have_targets want [] (c ∷ changes) parts long fit = absurd (omega (arith, long))
have_targets want (p ∷ paths) (c ∷ changes) parts long fit = (has_target want p c parts fit.0, have_targets want paths changes parts (omega (arith, long)) fit.1)

-- ---- one step more

-- lists of which the same is told have the same at a place
told_by : {X A : Type 0} (g : X → A) (what : List ℕ → A) (xs : List X) (paths : List (List ℕ)) (i : ℕ) (x : X) (p : List ℕ) → map g xs ≡ map what paths → slice_get xs i ≡ Some x → slice_get paths i ≡ Some p → g x ≡ what p
told_by g what xs paths i x p are here there =
    same_Some (g x) (what p) (sym (slice_get-map g xs i ∙ ap (option_map g) here) ∙ ap (λ (l : List _). slice_get l i) are ∙ slice_get-map what paths i ∙ ap (option_map what) there)

pub turn_is : (f : Repair) (t : Image) (g : Told → Change) (changes : List Told) (i : ℕ) (x : Told) (p : List ℕ) → IsRepair f → is_some (f.want.at p) ≡ true → map g changes ≡ map (λ p. relinked_as f t p (f.want.at p)) f.want.keys
    → slice_get changes i ≡ Some x → slice_get f.want.keys i ≡ Some p → g x ≡ repairs f t p
turn_is f t g changes i x p good wanted are here there =
    told_by g (λ p. relinked_as f t p (f.want.at p)) changes f.want.keys i x p are here there
    ∙ ap (λ (o : _). over_or o (relinked_as f t p (f.want.at p))) (sym (good.silent p wanted))

pub turns_on : (f : Repair) (t : Image) (paths : List (List ℕ)) (order : List ℕ) (i place : ℕ) (turns : List Turn) (c : Change) → i < length order → place ≡ get_or order i place → c ≡ repairs f t (path_in paths place)
    → (turns ++ turns_mended f t (map (path_in paths) (take i order))) ++ (path_in paths place, c) ∷ [] ≡ turns ++ turns_mended f t (map (path_in paths) (take (i + 1) order))
turns_on f t paths order i place turns c lt is are =
    let turn : List ℕ → Turn = λ p. (p, repairs f t p) in
    append_assoc turns (turns_mended f t (map (path_in paths) (take i order))) ((path_in paths place, c) ∷ [])
    ∙ ap (λ (x : Change). turns ++ (turns_mended f t (map (path_in paths) (take i order)) ++ (path_in paths place, x) ∷ [])) are
    ∙ ap (λ (l : List Turn). turns ++ l) (sym (map-append turn (map (path_in paths) (take i order)) (path_in paths place ∷ [])))
    ∙ ap (λ (l : List (List ℕ)). turns ++ turns_mended f t l) (sym (map-append (path_in paths) (take i order) (place ∷ [])))
    ∙ ap (λ (l : List ℕ). turns ++ turns_mended f t (map (path_in paths) l)) (sym (take_item order i place lt is))

sources_append : (changes : List Told) (xs ys : List ℕ) → sources_in changes (xs ++ ys) ≡ sources_in changes xs ++ sources_in changes ys
sources_append changes [] ys = refl
sources_append changes (x ∷ xs) ys = ap (λ (l : List Provenance). provenances_told (get_or changes x told.Kept) ++ l) (sources_append changes xs ys)
    ∙ sym (append_assoc (provenances_told (get_or changes x told.Kept)) (sources_in changes xs) (sources_in changes ys))

pub sources_on : (changes : List Told) (order : List ℕ) (i place : ℕ) (before : List Provenance) (c : Told) → i < length order → place ≡ get_or order i place → c ≡ get_or changes place told.Kept
    → (before ++ sources_in changes (take i order)) ++ provenances_told c ≡ before ++ sources_in changes (take (i + 1) order)
sources_on changes order i place before c lt is are =
    append_assoc before (sources_in changes (take i order)) (provenances_told c)
    ∙ ap (λ (l : List Provenance). before ++ (sources_in changes (take i order) ++ l)) (ap provenances_told are ∙ sym (append-nil (provenances_told (get_or changes place told.Kept))))
    ∙ ap (λ (l : List Provenance). before ++ l) (sym (sources_append changes (take i order) (place ∷ [])))
    ∙ ap (λ (l : List ℕ). before ++ sources_in changes l) (sym (take_item order i place lt is))

pub path_there : (paths : List (List ℕ)) (i : ℕ) (p : List ℕ) → slice_get paths i ≡ Some p → path_in paths i ≡ p
path_there paths i p there = get_or_from_slice_get paths i p [] there
