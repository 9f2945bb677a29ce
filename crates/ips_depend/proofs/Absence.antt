-- What a dependency looks at, and whose absence breaks it.
use Rattle.std.proofs.Common.{◌≡◌, ◌∙◌, ℕ, suc, Bool, true, not, ◌&&◌, ◌||◌, List, [], ◌∷◌, refl, ap, inl, inr, ◌⊎◌, arith}
use Rattle.std.specs.Prelude.{Option, None, is_some, is_none, Contains}
use Rattle.std.specs.List.{list_any, list_all}
use Rattle.ips_fmri.specs.declared.fmri.Fmri.{Fmri}
use Rattle.ips_fmri.specs.Version.{Parts}
use Rattle.ips_depend.specs.Matching.{reaches, admits}
use Rattle.ips_depend.specs.Selection.{Selection, Spared, is_some_that, is_selected, is_present}
use Rattle.ips_depend.specs.Dependency.{Dependency, Require, Optional, Incorporate, Exclude, Conditional, RequireAny, Group, GroupAny, Parent, Origin, stems}
use Rattle.ips_depend.specs.Holds.{holds}
use Rattle.ips_depend.specs.Laws.{IsMentioned, IsWanted, Agree, DropsUnwanted}

-- the first element is one, and so are the others
first_in : (x : List ℕ) (xs : List (List ℕ)) → Contains (x ∷ xs) x
first_in x xs = (0, omega arith, refl)

next_in : (y : List ℕ) (xs : List (List ℕ)) (x : List ℕ) → Contains xs x → Contains (y ∷ xs) x
next_in y xs x (k, l, e) = (suc k, omega arith, e)

-- ---- what each part looks at

present_same : (s t : Selection) (f : Fmri) → s f.stem ≡ t f.stem → is_present s f ≡ is_present t f
present_same s t f e = ap (λ (o : Option Parts). is_some_that (reaches f.version) o) e

any_same : (s t : Selection) (fs : List Fmri) → ((stem : List ℕ) → Contains (stems fs) stem → s stem ≡ t stem) → list_any (is_present s) fs ≡ list_any (is_present t) fs
any_same s t [] e = refl
any_same s t (f ∷ fs) e =
    let here = present_same s t f (e f.stem (first_in f.stem (stems fs))) in
    let rest = any_same s t fs (λ stem c. e stem (next_in f.stem (stems fs) stem c)) in
    ap (λ (b : Bool). b || list_any (is_present s) fs) here ∙ ap (λ (b : Bool). is_present t f || b) rest

spared_same : (spared saved : Spared) (fs : List Fmri) → ((stem : List ℕ) → Contains (stems fs) stem → spared stem ≡ saved stem) → list_all (λ (f : Fmri). spared f.stem) fs ≡ list_all (λ (f : Fmri). saved f.stem) fs
spared_same spared saved [] e = refl
spared_same spared saved (f ∷ fs) e =
    let rest = spared_same spared saved fs (λ stem c. e stem (next_in f.stem (stems fs) stem c)) in
    ap (λ (b : Bool). b && list_all (λ (g : Fmri). spared g.stem) fs) (e f.stem (first_in f.stem (stems fs))) ∙ ap (λ (b : Bool). saved f.stem && b) rest

-- a test on what is selected of one stem
abbrev optional_at : Fmri → Option Parts → Bool
optional_at f o = is_none o || is_some_that (reaches f.version) o

abbrev within_at : Fmri → Option Parts → Bool
within_at f o = is_none o || is_some_that (admits f.version) o

abbrev excluded_at : Fmri → Option Parts → Bool
excluded_at f o = not (is_some_that (reaches f.version) o)

-- the same answer where both look alike at each stem that is mentioned
pub holds_alike : (d : Dependency) (s t old before : Selection) (spared saved : Spared) → Agree d s t old before spared saved → holds s old spared d ≡ holds t before saved d
holds_alike (Require f) s t old before spared saved a = present_same s t f (a.selected f.stem (first_in f.stem []))
holds_alike (Optional f) s t old before spared saved a = ap (optional_at f) (a.selected f.stem (first_in f.stem []))
holds_alike (Incorporate f) s t old before spared saved a = ap (within_at f) (a.selected f.stem (first_in f.stem []))
holds_alike (Exclude f) s t old before spared saved a = ap (excluded_at f) (a.selected f.stem (first_in f.stem []))
holds_alike (Conditional p f) s t old before spared saved a =
    let first = ap (excluded_at p) (a.selected p.stem (first_in p.stem (f.stem ∷ []))) in
    let then = present_same s t f (a.selected f.stem (next_in p.stem (f.stem ∷ []) f.stem (first_in f.stem []))) in
    ap (λ (b : Bool). b || is_present s f) first ∙ ap (λ (b : Bool). excluded_at p (t p.stem) || b) then
holds_alike (RequireAny fs) s t old before spared saved a = any_same s t fs a.selected
holds_alike (Group f) s t old before spared saved a =
    let here = ap (λ (o : Option Parts). is_some o) (a.selected f.stem (first_in f.stem [])) in
    ap (λ (b : Bool). b || spared f.stem) here ∙ ap (λ (b : Bool). is_selected t f || b) (a.sparing f.stem (first_in f.stem []))
holds_alike (GroupAny fs) s t old before spared saved a =
    ap (λ (b : Bool). b || list_all (λ (f : Fmri). spared f.stem) fs) (any_same s t fs a.selected) ∙ ap (λ (b : Bool). list_any (is_present t) fs || b) (spared_same spared saved fs a.sparing)
holds_alike (Parent fs) s t old before spared saved a = refl
holds_alike (Origin rooted f) s t old before spared saved a = ap (λ (o : Option Parts). rooted || optional_at f o) (a.earlier f.stem (first_in f.stem []))

-- a stem that is wanted isn't dropped
kept : (d : Dependency) (smaller s : Selection) → DropsUnwanted d smaller s → (stem : List ℕ) → IsMentioned d stem → IsWanted d stem → smaller stem ≡ s stem
kept d smaller s drops stem m w = elim (drops stem m) [ inl e ↦ e | inr gone ↦ absurd (gone.1 w) ]

-- a test that an absent stem passes, and that passed before
absent_passes : (test : Option Parts → Bool) (smaller s : Option Parts) (P : Type 0) → test None ≡ true → (smaller ≡ s) ⊎ ((smaller ≡ None) × P) → test s ≡ true → test smaller ≡ true
absent_passes test smaller s P none h e = elim h [ inl same ↦ ap test same ∙ e | inr gone ↦ ap test gone.0 ∙ none ]

-- the absence of what isn't wanted breaks nothing
pub holds_without : (d : Dependency) (smaller s old : Selection) (spared : Spared) → DropsUnwanted d smaller s → holds s old spared d ≡ true → holds smaller old spared d ≡ true
holds_without (Require f) smaller s old spared drops e =
    present_same smaller s f (kept (Require f) smaller s drops f.stem (first_in f.stem []) (first_in f.stem [])) ∙ e
holds_without (Optional f) smaller s old spared drops e = absent_passes (optional_at f) _ _ _ refl (drops f.stem (first_in f.stem [])) e
holds_without (Incorporate f) smaller s old spared drops e = absent_passes (within_at f) _ _ _ refl (drops f.stem (first_in f.stem [])) e
holds_without (Exclude f) smaller s old spared drops e = absent_passes (excluded_at f) _ _ _ refl (drops f.stem (first_in f.stem [])) e
holds_without (Conditional p f) smaller s old spared drops e =
    let same = present_same smaller s f (kept (Conditional p f) smaller s drops f.stem (next_in p.stem (f.stem ∷ []) f.stem (first_in f.stem [])) (first_in f.stem [])) in
    ap (λ (b : Bool). not (is_present smaller p) || b) same ∙ absent_passes (λ (o : Option Parts). excluded_at p o || is_present s f) _ _ _ refl (drops p.stem (first_in p.stem (f.stem ∷ []))) e
holds_without (RequireAny fs) smaller s old spared drops e = any_same smaller s fs (λ stem c. kept (RequireAny fs) smaller s drops stem c c) ∙ e
holds_without (Group f) smaller s old spared drops e =
    let same = kept (Group f) smaller s drops f.stem (first_in f.stem []) (first_in f.stem []) in
    ap (λ (o : Option Parts). is_some o || spared f.stem) same ∙ e
holds_without (GroupAny fs) smaller s old spared drops e =
    ap (λ (b : Bool). b || list_all (λ (f : Fmri). spared f.stem) fs) (any_same smaller s fs (λ stem c. kept (GroupAny fs) smaller s drops stem c c)) ∙ e
holds_without (Parent fs) smaller s old spared drops e = refl
holds_without (Origin rooted f) smaller s old spared drops e = e
