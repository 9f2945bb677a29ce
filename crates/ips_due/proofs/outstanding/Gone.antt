-- What goes with paths at or above it.
use Rattle.std.proofs.Common.{◌≡◌, ℕ, Bool, true, false, ◌||◌, List, [], ◌∷◌, refl, sym, ap, ◌∙◌, inl, inr}
use Rattle.std.specs.List.{list_any}
use Rattle.std.proofs.lemmas.Bool.{cases_Bool, false_from_ne_true, or_cases, or_left, or_right, true≢false}
use Rattle.ips_text.specs.Ancestry.{covers, same_path}
use Rattle.ips_text.proofs.Ancestry.{same_path-true, same_path-self}
use Rattle.ips_action.specs.Attrs.{is_same}
use Rattle.ips_action.proofs.KeyOrder.{same_true}
use Rattle.ips_conflict.proofs.Kept.{is_same_self}
use Rattle.ips_after.specs.Change.{reached}
use Rattle.ips_after.specs.Lists.{listed}
use Rattle.ips_after.proofs.Changed.{reach_of, reached_from}
use Rattle.ips_due.proofs.Same.{alike}

-- either way the paths are one
pub one_path : (p q : List ℕ) → same_path p q ≡ is_same q p
one_path p q = elim (cases_Bool (is_same q p)) [
  | inl same ↦ ap (same_path p) (same_true q p same) ∙ same_path-self p ∙ sym same
  | inr apart ↦ false_from_ne_true _ (λ same. true≢false (sym (is_same_self p) ∙ ap (λ (x : List ℕ). is_same x p) (same_path-true p q same) ∙ apart)) ∙ sym apart
]

any_listed : (paths : List (List ℕ)) (at q : List ℕ) → listed paths at ≡ true → covers at q ≡ true → list_any (λ p. covers p q) paths ≡ true
any_listed [] at q there over = absurd (true≢false (sym there))
any_listed (p ∷ paths) at q there over = elim (or_cases (same_path p at) (listed paths at) there) [
  | inl same ↦ or_left (covers p q) _ (ap (λ (x : List ℕ). covers x q) (same_path-true p at same) ∙ over)
  | inr rest ↦ or_right (covers p q) _ (any_listed paths at q rest over)
]

listed_any : (paths : List (List ℕ)) (q : List ℕ) → list_any (λ p. covers p q) paths ≡ true → (p : List ℕ) × (listed paths p ≡ true) × (covers p q ≡ true)
listed_any [] q any = absurd (true≢false (sym any))
listed_any (p ∷ paths) q any = elim (or_cases (covers p q) (list_any (λ x. covers x q) paths) any) [
  | inl over ↦ (p, or_left (same_path p p) (listed paths p) (same_path-self p), over)
  | inr rest ↦ let w = listed_any paths q rest in (w.0, or_right (same_path p w.0) (listed paths w.0) w.1, w.2)
]

-- what is reached by paths of either list is covered by one of them
pub reached_any : (test : List ℕ → Bool) (a b : List (List ℕ)) → ((x : List ℕ) → test x ≡ (listed a x || listed b x)) → (q : List ℕ) → reached test q ≡ (list_any (λ p. covers p q) a || list_any (λ p. covers p q) b)
reached_any test a b is q = alike (reached test q) (list_any (λ p. covers p q) a || list_any (λ p. covers p q) b) (
  λ yes.
      let r = reach_of test q yes in
      elim (or_cases (listed a r.at) (listed b r.at) (sym (is r.at) ∙ r.holds)) [
        | inl there ↦ or_left (list_any (λ p. covers p q) a) _ (any_listed a r.at q there r.over)
        | inr there ↦ or_right (list_any (λ p. covers p q) a) _ (any_listed b r.at q there r.over)
      ],
  λ any. elim (or_cases (list_any (λ p. covers p q) a) (list_any (λ p. covers p q) b) any) [
    | inl one ↦ let w = listed_any a q one in reached_from test w.0 q w.2 (is w.0 ∙ or_left (listed a w.0) (listed b w.0) w.1)
    | inr one ↦ let w = listed_any b q one in reached_from test w.0 q w.2 (is w.0 ∙ or_right (listed a w.0) (listed b w.0) w.1)
  ],
)

-- one path more is in the set
pub set_more : (new old first : List ℕ → Bool) (paths : List (List ℕ)) (p : List ℕ) → ((q : List ℕ) → new q ≡ (is_same q p || old q)) → ((q : List ℕ) → old q ≡ (first q || listed paths q))
    → (q : List ℕ) → new q ≡ (first q || (listed paths q || same_path p q))
set_more new old first paths p adds so_far q = adds q ∙ ap (λ (b : Bool). is_same q p || b) (so_far q) ∙ go (is_same q p) (first q) (listed paths q) ∙ ap (λ (b : Bool). first q || (listed paths q || b)) (sym (one_path p q))
  where
    go : (a b c : Bool) → (a || (b || c)) ≡ (b || (c || a))
    go true true c = refl
    go true false true = refl
    go true false false = refl
    go false b true = refl
    go false true false = refl
    go false false false = refl
