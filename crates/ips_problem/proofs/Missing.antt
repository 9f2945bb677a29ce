-- The stems that a choice misses.
use Rattle.std.proofs.Common.{◌≡◌, ◌↔◌, ℕ, ◌+◌, ◌<◌, Bool, true, false, cond, List, [], ◌∷◌, ◌++◌, map, flat_map, take, length, position, slice_get, get_or, Contains, Option, Some, None, is_none, option_map, refl, sym, ap, subst, ◌∙◌, inl, inr, ◌⊎◌, bytes_eq, String, Global, eq-eqb, append_assoc, arith}
use Rattle.std.specs.List.{list_any}
use Rattle.std.proofs.lemmas.Bool.{both_ways}
use Rattle.std.proofs.lemmas.Option.{slice_get-get_or, slice_get_read}
use Rattle.ips_fmri.specs.Version.{Parts}
use Rattle.ips_fmri.specs.declared.fmri.Fmri.{Fmri}
use Rattle.ips_refute.specs.Meaning.{pairs}
use Rattle.ips_depend.specs.Selection.{Selection, is_present}
use Rattle.ips_depend.specs.Dependency.{grouped, stems}
use Rattle.ips_state.specs.State.{Ascend}
use Rattle.ips_request.specs.Stems.{stems_of}
use Rattle.ips_problem.specs.declared.rows.Row.{Row}
use Rattle.ips_problem.specs.Avoided.{AreAvoided, IsMissed, absent_stem, missed_among, missed_by}
use Rattle.ips_problem.specs.Posed.{Numbered, Posed, is_number, version_at, picked}
use Rattle.ips_problem.specs.Seen.{puzzle_of, seen_row}
use Rattle.ips_problem.proofs.Members.{Among, among_left, among_right, among_cases, among_map, among_mapped, among_contained, contained_among}
use Rattle.ips_problem.proofs.Looking.{picked_with}
use Rattle.ips_problem.proofs.Picking.{chosen_at, is_number_true}
use Rattle.ips_text.proofs.Lists.{flat_item}

-- what a choice picks of the stem with a number is the version of the candidate that it has for the number
pub version_told : {X : Type 0} (version : X → Parts) (keys : List (String Global)) (rows : List Row) (choice : List ℕ) (stem : List ℕ) (i : ℕ) (row : Row) (o : Option X)
    → length rows ≡ length keys → length choice ≡ length keys → i < length keys
    → Some i ≡ position (bytes_eq stem) (stems_of keys) → row ≡ get_or rows i row → option_map version o ≡ version_at (Some (seen_row row)) (Some (get_or choice i 0))
    → option_map version o ≡ picked (puzzle_of keys rows) (pairs choice) stem
version_told version keys rows choice stem i row o known chosen l number read e =
    let within : i < length rows = omega arith in
    let offered : i < length choice = omega arith in
    let own = sym (ap (option_map seen_row) (slice_get_read rows (length rows) i row refl within read)) in
    let candidate = sym (chosen_at choice i ∙ slice_get-get_or choice i 0 offered) in
    picked_with keys rows (pairs choice) stem i (option_map version o) number
    (e ∙ ap (λ r. version_at r (Some (get_or choice i 0))) own ∙ ap (version_at (option_map seen_row (slice_get rows i))) candidate)

-- ---- one more

pub gathered_more : {X Y : Type 0} (h : X → List Y) (before : List Y) (xs : List X) (i : ℕ) (x : X) (old new : List Y) → i < length xs → x ≡ get_or xs i x
    → old ≡ before ++ flat_map h (take i xs) → new ≡ old ++ h x → new ≡ before ++ flat_map h (take (i + 1) xs)
gathered_more {Y = Y} h before xs i x old new l at is added =
    added ∙ ap (λ (a : List Y). a ++ h x) is ∙ append_assoc before (flat_map h (take i xs)) (h x)
    ∙ ap (λ (a : List Y). before ++ a) (sym (flat_item h xs i x l at))

-- ---- which stems are missed

among_gathered : {X Y : Type 0} (h : X → List Y) (y : Y) (xs : List X) → Among y (flat_map h xs) → (x : X) × Among x xs × Among y (h x)
among_gathered h y [] a = absurd a
among_gathered h y (x ∷ xs) a = elim (among_cases y (h x) (flat_map h xs) a) [
  | inl here ↦ (x, inl refl, here)
  | inr b ↦ let (z, c, f) = among_gathered h y xs b in (z, inr c, f)
]

gathered_among : {X Y : Type 0} (h : X → List Y) (x : X) (y : Y) (xs : List X) → Among x xs → Among y (h x) → Among y (flat_map h xs)
gathered_among h x y [] a e = absurd a
gathered_among h x y (z ∷ xs) (inl same) e = among_left y (h z) (flat_map h xs) (subst (λ w. Among y (h w)) (sym same) e)
gathered_among h x y (z ∷ xs) (inr a) e = among_right y (h z) (flat_map h xs) (gathered_among h x y xs a e)

none_there : {X : Type 0} (o : Option X) → is_none o ≡ true → o ≡ None
none_there None e = refl
none_there (Some x) e = absurd (both_ways false refl e)

absent_told : (s : Selection) (stem : List ℕ) (fs : List Fmri) → Among stem (flat_map (absent_stem s) fs) → Among stem (stems fs) × (s stem ≡ None)
absent_told s stem [] a = absurd a
absent_told s stem (f ∷ fs) a = go (is_none (s f.stem)) refl (absent_told s stem fs) a
  where
    go : (b : Bool) → is_none (s f.stem) ≡ b → (Among stem (flat_map (absent_stem s) fs) → Among stem (stems fs) × (s stem ≡ None)) → Among stem (cond b (f.stem ∷ []) [] ++ flat_map (absent_stem s) fs)
        → Among stem (stems (f ∷ fs)) × (s stem ≡ None)
    go true e rest (inl same) = (inl same, ap s (sym same) ∙ none_there (s f.stem) e)
    go true e rest (inr h) = let (a, g) = rest h in (inr a, g)
    go false e rest h = let (a, g) = rest h in (inr a, g)

told_absent : (s : Selection) (stem : List ℕ) (fs : List Fmri) → Among stem (stems fs) → s stem ≡ None → Among stem (flat_map (absent_stem s) fs)
told_absent s stem [] a e = absurd a
told_absent s stem (f ∷ fs) (inl same) e =
    subst (λ b. Among stem (cond b (f.stem ∷ []) [] ++ flat_map (absent_stem s) fs)) (sym (ap is_none (ap s same ∙ e))) (inl same)
told_absent s stem (f ∷ fs) (inr a) e = among_right stem (absent_stem s f) (flat_map (absent_stem s) fs) (told_absent s stem fs a e)

-- a test of the choice misses the stem
abbrev Misses : Posed → List ℕ → Numbered → List ℕ → Type 0
Misses p choice n stem =
    (slice_get choice n.stem ≡ Some n.candidate) × Contains (stems (grouped n.dependency)) stem
    × (list_any (is_present (picked p (pairs choice))) (grouped n.dependency) ≡ false) × (picked p (pairs choice) stem ≡ None)

missed_told : (p : Posed) (choice : List ℕ) (n : Numbered) (stem : List ℕ) → Among stem (missed_by p choice n) → Misses p choice n stem
missed_told p choice n stem a = go (is_number (slice_get choice n.stem) n.candidate) refl (list_any (is_present s) fs) refl a
  where
    s : Selection
    s = picked p (pairs choice)

    fs : List Fmri
    fs = grouped n.dependency

    go : (b : Bool) → is_number (slice_get choice n.stem) n.candidate ≡ b → (any : Bool) → list_any (is_present s) fs ≡ any
        → Among stem (cond b (cond any [] (flat_map (absent_stem s) fs)) []) → Misses p choice n stem
    go false e any f h = absurd h
    go true e true f h = absurd h
    go true e false f h =
        let (there, gone) = absent_told s stem fs h in
        (is_number_true (slice_get choice n.stem) n.candidate e, among_contained stem (stems fs) there, f, gone)

told_missed : (p : Posed) (choice : List ℕ) (n : Numbered) (stem : List ℕ) → Misses p choice n stem → Among stem (missed_by p choice n)
told_missed p choice n stem (chosen, named, none, absent) =
    let s = picked p (pairs choice) in
    let fs = grouped n.dependency in
    let own : is_number (slice_get choice n.stem) n.candidate ≡ true = ap (λ o. is_number o n.candidate) chosen ∙ eq-eqb n.candidate n.candidate refl in
    subst (λ b. Among stem (cond b (missed_among s fs) [])) (sym own)
    (subst (λ b. Among stem (cond b [] (flat_map (absent_stem s) fs))) (sym none) (told_absent s stem fs (contained_among stem (stems fs) named) absent))

-- ---- all stems

-- the stems that stay avoided with those that are missed, once they stand by their bytes
pub avoided : {X : Type 0} (p : Posed) (choice : List ℕ) (seen : X → Numbered) (tests : List X) (all stems : List (List ℕ)) → p.tests ≡ map seen tests
    → all ≡ p.avoid ++ flat_map (λ t. missed_by p choice (seen t)) tests → Ascend stems → ((stem : List ℕ) → Contains stems stem ↔ Contains all stem) → AreAvoided p choice stems
avoided p choice seen tests all stems known is order same = record {
  order = order;
  each = λ stem. (λ h. there stem ((same stem).0 h), λ h. (same stem).1 (back stem h));
}
  where
    missed : List (List ℕ)
    missed = flat_map (λ t. missed_by p choice (seen t)) tests

    there : (stem : List ℕ) → Contains all stem → Contains p.avoid stem ⊎ IsMissed p choice stem
    there stem h = elim (among_cases stem p.avoid missed (subst (Among stem) is (contained_among stem all h))) [
      | inl a ↦ inl (among_contained stem p.avoid a)
      | inr b ↦
          let (t, c, e) = among_gathered (λ t. missed_by p choice (seen t)) stem tests b in
          let (chosen, named, none, absent) = missed_told p choice (seen t) stem e in
          let asked = among_contained (seen t) p.tests (subst (Among (seen t)) (sym known) (among_map seen t tests c)) in
          inr (record { test = seen t; asked = asked; chosen = chosen; named = named; none = none; absent = absent })
    ]

    back : (stem : List ℕ) → Contains p.avoid stem ⊎ IsMissed p choice stem → Contains all stem
    back stem (inl h) = among_contained stem all (subst (Among stem) (sym is) (among_left stem p.avoid missed (contained_among stem p.avoid h)))
    back stem (inr m) =
        let (t, c, f) = among_mapped seen m.test tests (subst (Among m.test) known (contained_among m.test p.tests m.asked)) in
        let by = subst (λ n. Among stem (missed_by p choice n)) (sym f) (told_missed p choice m.test stem (m.chosen, m.named, m.none, m.absent)) in
        among_contained stem all (subst (Among stem) (sym is) (among_right stem p.avoid missed (gathered_among (λ t. missed_by p choice (seen t)) t stem tests c by)))
