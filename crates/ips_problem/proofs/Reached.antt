-- What is in reach, and what is out of it.
use Rattle.std.proofs.Common.{◌≡◌, ℕ, Bool, true, false, List, [], ◌∷◌, ◌++◌, map, find, flat_map, length, take, Contains, Option, Some, None, is_some, refl, sym, ap, subst, ◌∙◌, inl, inr, ◌⊎◌, arith, take_all, bytes_eq}
use Rattle.std.specs.List.{list_any}
use Rattle.std.proofs.lemmas.Bool.{both_ways, cases_Bool, or_cases, or_left, or_right, cond-false, false_from_ne_true}
use Rattle.ips_fmri.specs.Version.{Parts}
use Rattle.ips_state.specs.State.{Installed}
use Rattle.ips_depend.specs.Dependency.{Dependency, wanted, stems}
use Rattle.ips_request.specs.declared.kind.Kind.{Kind}
use Rattle.ips_request.specs.declared.kind.Kind.TheVariants.{Install, Update, Uninstall, Keep}
use Rattle.ips_request.specs.Stems.{has}
use Rattle.ips_request.specs.Case.{Case, Naming, installed_version, is_installed, is_named}
use Rattle.ips_request.specs.declared.role.Role.{Role}
use Rattle.ips_request.specs.declared.role.Role.TheVariants.{Gone, Free}
use Rattle.ips_request.specs.Candidates.{is_target_of, role, role_by, candidates, candidates_in, present, coming, is_obsolete, is_version}
use Rattle.ips_request.proofs.StemLists.{has_left, has_right, has_firsts, has_gathered}
use Rattle.ips_problem.specs.Reach.{dependencies_of, stems_wanted, drawn_in, seeds, IsReach}
use Rattle.ips_problem.proofs.Members.{Among}

-- ---- the list

named_gathered : (x : List ℕ) (ns : List Naming) → list_any (λ (n : Naming). has x n.stems) ns ≡ true → has x (flat_map (λ (n : Naming). n.stems) ns) ≡ true
named_gathered x [] h = absurd (both_ways false refl h)
named_gathered x (n ∷ ns) h = elim (or_cases (has x n.stems) (list_any (λ (n : Naming). has x n.stems) ns) h) [
  | inl e ↦ has_left x n.stems (flat_map (λ (n : Naming). n.stems) ns) e
  | inr r ↦ has_right x n.stems (flat_map (λ (n : Naming). n.stems) ns) (named_gathered x ns r)
]

found_installed : (x : List ℕ) (ps : List Installed) → is_some (find (λ (p : Installed). bytes_eq x p.stem) ps) ≡ true → has x (map (λ (p : Installed). p.stem) ps) ≡ true
found_installed x [] h = absurd (both_ways false refl h)
found_installed x (p ∷ ps) h = elim (cases_Bool (bytes_eq x p.stem)) [
  | inl e ↦ or_left (bytes_eq x p.stem) (has x (map (λ (p : Installed). p.stem) ps)) e
  | inr e ↦
      let rest = find (λ (p : Installed). bytes_eq x p.stem) ps in
      or_right (bytes_eq x p.stem) (has x (map (λ (p : Installed). p.stem) ps)) (found_installed x ps (sym (ap is_some (cond-false (bytes_eq x p.stem) (Some p) rest e)) ∙ h))
]

-- the list where it begins is in reach
in_seeds : (c : Case) (reach : List (List ℕ)) (x : List ℕ) → IsReach c reach → has x (seeds c) ≡ true → has x reach ≡ true
in_seeds c reach x r h =
    let all = flat_map (drawn_in c) (take (length reach) reach) in
    subst (λ l. has x l ≡ true) (sym r.whole) (has_firsts x (seeds c ++ all) (has_left x (seeds c) all h))

-- what a stem in reach draws in is in reach
pub in_drawn : (c : Case) (reach : List (List ℕ)) (s x : List ℕ) → IsReach c reach → has s reach ≡ true → has x (drawn_in c s) ≡ true → has x reach ≡ true
in_drawn c reach s x r h w =
    let all = flat_map (drawn_in c) (take (length reach) reach) in
    let there = subst (λ l. has s l ≡ true) (sym (take_all (length reach) reach (omega arith))) h in
    subst (λ l. has x l ≡ true) (sym r.whole) (has_firsts x (seeds c ++ all) (has_right x (seeds c) all (has_gathered (drawn_in c) x s (take (length reach) reach) there w)))

pub named_in_reach : (c : Case) (reach : List (List ℕ)) (x : List ℕ) → IsReach c reach → is_named c x ≡ true → has x reach ≡ true
named_in_reach c reach x r h = in_seeds c reach x r (has_left x (flat_map (λ (n : Naming). n.stems) c.named) (map (λ (p : Installed). p.stem) c.installed) (named_gathered x c.named h))

pub installed_in_reach : (c : Case) (reach : List (List ℕ)) (x : List ℕ) → IsReach c reach → is_installed c x ≡ true → has x reach ≡ true
installed_in_reach c reach x r h = in_seeds c reach x r (has_right x (flat_map (λ (n : Naming). n.stems) c.named) (map (λ (p : Installed). p.stem) c.installed) (found_installed x c.installed h))

-- ---- what dependencies draw in

pub wanted_gathered : (d : Dependency) (x : List ℕ) (ds : List Dependency) → Among d ds → has x (stems (wanted d)) ≡ true → has x (stems_wanted ds) ≡ true
wanted_gathered d x [] h w = absurd h
wanted_gathered d x (e ∷ ds) (inl same) w = has_left x (stems (wanted e)) (stems_wanted ds) (subst (λ d. has x (stems (wanted d)) ≡ true) (sym same) w)
wanted_gathered d x (e ∷ ds) (inr h) w = has_right x (stems (wanted e)) (stems_wanted ds) (wanted_gathered d x ds h w)

drawn_by : (c : Case) (s x : List ℕ) (o : Option Parts) (os : List (Option Parts)) → Among o os → has x (stems_wanted (dependencies_of c s o)) ≡ true
    → has x (flat_map (λ o. stems_wanted (dependencies_of c s o)) os) ≡ true
drawn_by c s x o [] h w = absurd h
drawn_by c s x o (p ∷ os) (inl same) w =
    has_left x (stems_wanted (dependencies_of c s p)) (flat_map (λ o. stems_wanted (dependencies_of c s o)) os) (subst (λ o. has x (stems_wanted (dependencies_of c s o)) ≡ true) (sym same) w)
drawn_by c s x o (p ∷ os) (inr h) w = has_right x (stems_wanted (dependencies_of c s p)) (flat_map (λ o. stems_wanted (dependencies_of c s o)) os) (drawn_by c s x o os h w)

-- what a dependency of a candidate of a stem in reach wants is in reach
pub wanted_in_reach : (c : Case) (reach : List (List ℕ)) (s x : List ℕ) (o : Option Parts) (d : Dependency) → IsReach c reach → has s reach ≡ true
    → Among o (candidates c s) → Among d (dependencies_of c s o) → has x (stems (wanted d)) ≡ true → has x reach ≡ true
wanted_in_reach c reach s x o d r h a b w = in_drawn c reach s x r h (drawn_by c s x o (candidates c s) a (wanted_gathered d x (dependencies_of c s o) b w))

-- ---- out of reach

not_target : (ns : List Naming) (c : Case) (x : List ℕ) → is_named c x ≡ false → is_installed c x ≡ false → is_target_of ns c x ≡ false
not_target [] c x a b = b
not_target (n ∷ ns) c x a b = a

role_apart : (k : Kind) (rejected : Bool) → (role_by k false rejected false false ≡ Gone) ⊎ (role_by k false rejected false false ≡ Free)
role_apart Install true = inl refl
role_apart Install false = inr refl
role_apart Update true = inl refl
role_apart Update false = inr refl
role_apart Uninstall rejected = inr refl
role_apart Keep rejected = inr refl

absent_first : (os : List (Option Parts)) → Contains (None ∷ os) None
absent_first os = (0, omega arith, refl)

-- absence is a candidate of each stem that is out of reach
pub absence_offered : (c : Case) (reach : List (List ℕ)) (x : List ℕ) → IsReach c reach → has x reach ≡ false → Contains (candidates c x) None
absence_offered c reach x r h =
    let not_named = false_from_ne_true (is_named c x) (λ e. both_ways (has x reach) h (named_in_reach c reach x r e)) in
    let not_installed = false_from_ne_true (is_installed c x) (λ e. both_ways (has x reach) h (installed_in_reach c reach x r e)) in
    let target = not_target c.named c x not_named not_installed in
    let same : role c x ≡ role_by c.kind false (has x c.rejected) false false = λ i. role_by c.kind (not_named i) (has x c.rejected) (target i) (not_installed i) in
    let offers = λ (q : Role). candidates_in q c.kind (is_obsolete c x) (is_version (installed_version c x)) (coming c x) in
    elim (role_apart c.kind (has x c.rejected)) [
      | inl e ↦ subst (λ q. Contains (offers q) None) (sym (same ∙ e)) (absent_first [])
      | inr e ↦ subst (λ q. Contains (offers q) None) (sym (same ∙ e)) (absent_first (present (is_obsolete c x) (coming c x)))
    ]
