-- Whether a facet is on is decided.
use Rattle.std.proofs.Common.{◌≡◌, ◌⊎◌, inl, inr, ℕ, Bool, true, false, cond, List, [], ◌∷◌, length, Option, Some, None, refl, sym, ap, ◌∙◌, subst}
use Rattle.std.specs.Str.{bytes_eq, chars}
use Rattle.std.specs.List.{AllByRecursion}
use Rattle.std.specs.Ordering.{nat_cmp}
use Rattle.std.specs.Cmp.Lexicographic.{slice_cmp}
use Rattle.std.specs.declared.cmp.Ordering.{Ordering}
use Rattle.std.specs.declared.cmp.Ordering.TheVariants.{Less, Equal, Greater}
use Rattle.std.proofs.lemmas.Slice.Eq.{bytes_eq-Decides}
use Rattle.std.proofs.lemmas.Option.{none-some, same_Some}
use Rattle.ips_filter.specs.Settings.{Set, value_at}
use Rattle.ips_filter.specs.Facet.{Outranks, IsMet, Decides, HasFacet}
use Rattle.ips_grammar.proofs.Decided.{Decided, with_it, both, either, unless, where_so, unrefuted, is_true, is_below, same_number, one_of}
use Rattle.ips_grammar.proofs.Stars.{matches}
use Rattle.ips_filter.proofs.Facets.{all_at}

abbrev Facets : Type 0
Facets = List (List ℕ × Bool)

-- ---- patterns that are set

-- the pattern is set, and what it is set to has the property
abbrev SetSo : Facets → (List ℕ → Bool → Type 0) → List ℕ → Type 0
SetSo es P q = (v : Bool) × (value_at es q ≡ Some v) × P q v

set_so : (es : Facets) (P : List ℕ → Bool → Type 0) → ((q : List ℕ) (v : Bool) → Decided (P q v)) → (q : List ℕ) → Decided (SetSo es P q)
set_so es P decide q = go (value_at es q) refl
  where
    go : (o : Option Bool) → value_at es q ≡ o → Decided (SetSo es P q)
    go None e = inr (λ w. none-some w.0 (sym e ∙ w.1))
    go (Some v) e = with_it (P q v) (SetSo es P q) (λ p. (v, e, p)) (λ w. subst (P q) (same_Some w.0 v (sym w.1 ∙ e)) w.2) (decide q v)

some_pattern : (es : Facets) (P : List ℕ → Bool → Type 0) → ((q : List ℕ) (v : Bool) → Decided (P q v)) → Decided ((q : List ℕ) × SetSo es P q)
some_pattern es P decide = go (one_of (λ (e : List ℕ × Bool). SetSo es P e.0) (λ e. set_so es P decide e.0) es)
  where
    go : ((e : List ℕ × Bool) × SetSo es P e.0) ⊎ AllByRecursion (λ (e : List ℕ × Bool). SetSo es P e.0 → ⊥) es → Decided ((q : List ℕ) × SetSo es P q)
    go (inl found) = inl (found.0.0, found.1)
    go (inr none) = inr (λ w. all_at (λ q. SetSo es P q → ⊥) es w.0 w.1.0 none w.1.1 w.1)

every_pattern : (es : Facets) (P : List ℕ → Bool → Type 0) → ((q : List ℕ) (v : Bool) → Decided (P q v)) → Decided ((q : List ℕ) (v : Bool) → value_at es q ≡ Some v → P q v)
every_pattern es P decide = go (some_pattern es (λ q v. P q v → ⊥) (λ q v. unless (decide q v)))
  where
    go : Decided ((q : List ℕ) × SetSo es (λ q v. P q v → ⊥) q) → Decided ((q : List ℕ) (v : Bool) → value_at es q ≡ Some v → P q v)
    go (inl w) = inr (λ h. w.1.2 (h w.0 w.1.0 w.1.1))
    go (inr none) = inl (λ q v at. unrefuted (decide q v) (λ no. none (q, (v, at, no))))

-- ---- the pattern that decides

is_greater : (o : Ordering) → Decided (o ≡ Greater)
is_greater Less = inr (λ e. absurd cc)
is_greater Equal = inr (λ e. absurd cc)
is_greater Greater = inl refl

outranks : (p q : List ℕ) → Decided (Outranks p q)
outranks p q = either (is_below (length q) (length p)) (both (same_number (length p) (length q)) (unless (is_greater (slice_cmp nat_cmp p q))))

is_met : (pattern name : List ℕ) → Decided (IsMet pattern name)
is_met pattern name = matches false (chars pattern) (chars name)

abbrev Leads : Set → List ℕ → List ℕ → Bool → Type 0
Leads s name q v = (v ≡ true) × (IsMet q name × ((other : List ℕ) (value : Bool) → value_at s.facets other ≡ Some value → IsMet other name → Outranks q other))

leads : (s : Set) (name q : List ℕ) (v : Bool) → Decided (Leads s name q v)
leads s name q v = both (is_true v) (both (is_met q name) (every_pattern s.facets (λ other value. IsMet other name → Outranks q other) (λ other value. where_so (is_met other name) (outranks q other))))

decides : (s : Set) (name : List ℕ) → Decided ((pattern : List ℕ) × Decides s name pattern true)
decides s name =
    with_it ((q : List ℕ) × SetSo s.facets (Leads s name) q) ((pattern : List ℕ) × Decides s name pattern true)
    (λ w. (w.0, record { set = w.1.1 ∙ ap (λ (v : Bool). Some v) w.1.2.0; matches = w.1.2.1.0; first = w.1.2.1.1 }))
    (λ w. (w.0, (true, w.1.set, (refl, (w.1.matches, w.1.first)))))
    (some_pattern s.facets (Leads s name) (leads s name))

pub has_facet : (s : Set) (name : List ℕ) → Decided (HasFacet s name true)
has_facet s name = either (decides s name) (both (every_pattern s.facets (λ q v. IsMet q name → ⊥) (λ q v. unless (is_met q name))) (is_true true))
