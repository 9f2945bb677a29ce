-- The least reserved path of the actions so far.
use Rattle.std.proofs.Common.{◌≡◌, ◌≢◌, ◌⊎◌, ℕ, Bool, true, false, cond, List, [], ◌∷◌, ◌++◌, Option, Some, None, Bor, refl, sym, ap, subst, ◌∙◌, inl, inr, arith}
use Rattle.std.specs.Prelude.{option_map}
use Rattle.std.specs.Ordering.{nat_cmp, is_gt}
use Rattle.std.specs.declared.cmp.Ordering.TheVariants.{Greater}
use Rattle.std.specs.Cmp.Lexicographic.{slice_cmp}
use Rattle.std.proofs.lemmas.Bool.{true≢false}
use Rattle.std.proofs.lemmas.Cmp.{nat_list_cmp_total}
use Rattle.std.proofs.lemmas.Option.{none-some, same_Some}
use Rattle.std.proofs.lemmas.List.Elements.{Contains-append_left, Contains-push, Contains-push_cases}
use Rattle.ips_text.specs.Path.{IsPath}
use Rattle.ips_conflict.specs.declared.placed.Placed.{Placed}
use Rattle.ips_conflict.proofs.Ordered.{le_trans, le_self, le_unless}
use Rattle.ips_meaning.specs.Reserved.{is_reserved, TakesReserved, IsFreeOfReserved, IsLeastReserved}
use Rattle.ips_meaning.specs.Places.{given_path}
use Rattle.ips_meaning.specs.Lesser.{if_reserved, reserved_path_of, lesser_of}
use Rattle.ips_meaning.proofs.Given.{given_is, given_from}

-- ---- what one action takes

taken_by : (o : Option (List ℕ)) (path : List ℕ) → (elim o as (λ x. Option (List ℕ)) [ Some q ↦ if_reserved q | None ↦ None ]) ≡ Some path → (o ≡ Some path) × (is_reserved path ≡ true)
taken_by None path e = absurd (none-some path e)
taken_by (Some q) path e = go (is_reserved q) refl e
  where
    go : (t : Bool) → is_reserved q ≡ t → cond t (Some q) None ≡ Some path → (let v : Option (List ℕ) = Some q in v ≡ Some path) × (is_reserved path ≡ true)
    go true is h = (h, subst (λ (x : List ℕ). is_reserved x ≡ true) (same_Some q path h) is)
    go false is h = absurd (none-some path h)

reserved_from : (o : Option (List ℕ)) (path : List ℕ) → o ≡ Some path → is_reserved path ≡ true → (elim o as (λ x. Option (List ℕ)) [ Some q ↦ if_reserved q | None ↦ None ]) ≡ Some path
reserved_from None path e is = absurd (none-some path e)
reserved_from (Some q) path e is = ap (λ (x : List ℕ). if_reserved x) (same_Some q path e) ∙ ap (λ (t : Bool). cond t (Some path) None) is

takes_new : (front : List Placed) (p : Placed) (path : List ℕ) → reserved_path_of p ≡ Some path → TakesReserved (front ++ p ∷ []) path
takes_new front p path e = let w = taken_by (given_path p) path e in ((p, Contains-push front p, given_is p path w.0), w.1)

takes_old : (front : List Placed) (p : Placed) (path : List ℕ) → TakesReserved front path → TakesReserved (front ++ p ∷ []) path
takes_old front p path w = ((w.0.0, Contains-append_left front (p ∷ []) w.0.0 w.0.1, w.0.2), w.1)

takes_cases : (front : List Placed) (p : Placed) (path : List ℕ) → TakesReserved (front ++ p ∷ []) path → TakesReserved front path ⊎ (reserved_path_of p ≡ Some path)
takes_cases front p path w = elim (Contains-push_cases front p w.0.0 w.0.1) [
  | inl had ↦ inl ((w.0.0, had, w.0.2), w.1)
  | inr same ↦ inr (reserved_from (given_path p) path (ap given_path same ∙ given_from w.0.0 path w.0.2) w.1)
]

-- ---- the least so far

abbrev pub LeastTo : List Placed → Option (Bor (List ℕ)) → Type 0
LeastTo front None = IsFreeOfReserved front
LeastTo front (Some path) = IsLeastReserved front path.now × IsPath path.now

pub least_none : LeastTo [] None
least_none path w = absurd (omega (arith, w.0.1.1))

pub least_same : (front : List Placed) (p : Placed) (least : Option (Bor (List ℕ))) → LeastTo front least → reserved_path_of p ≡ None → LeastTo (front ++ p ∷ []) least
least_same front p None so_far none = λ path w. elim (takes_cases front p path w) [ inl had ↦ so_far path had | inr is ↦ none-some path (sym none ∙ is) ]
least_same front p (Some least) so_far none = (
  record {
    taken = takes_old front p least.now so_far.0.taken;
    least = λ other w. elim (takes_cases front p other w) [ inl had ↦ so_far.0.least other had | inr is ↦ absurd (none-some other (sym none ∙ is)) ];
  },
  so_far.1,
)

-- how the new path stands to the least one
lesser_least : (front : List Placed) (p : Placed) (least path : List ℕ) (t : Bool) → is_gt (slice_cmp nat_cmp least path) ≡ t → IsLeastReserved front least → reserved_path_of p ≡ Some path → IsLeastReserved (front ++ p ∷ []) (cond t path least)
lesser_least front p least path true gt so_far is = record {
  taken = takes_new front p path is;
  least = λ other w. elim (takes_cases front p other w) [
    | inl had ↦
        le_trans (slice_cmp nat_cmp) nat_list_cmp_total path least other (le_unless (slice_cmp nat_cmp) nat_list_cmp_total path least (λ less. true≢false (sym gt ∙ ap is_gt less))) (so_far.least other had)
    | inr same ↦ subst (λ (x : List ℕ). slice_cmp nat_cmp path x ≢ Greater) (same_Some path other (sym is ∙ same)) (le_self (slice_cmp nat_cmp) nat_list_cmp_total path)
  ];
}
lesser_least front p least path false gt so_far is = record {
  taken = takes_old front p least so_far.taken;
  least = λ other w. elim (takes_cases front p other w) [
    | inl had ↦ so_far.least other had
    | inr same ↦ subst (λ (x : List ℕ). slice_cmp nat_cmp least x ≢ Greater) (same_Some path other (sym is ∙ same)) (λ more. true≢false (sym (ap is_gt more) ∙ gt))
  ];
}

either_path : (t : Bool) (a b : List ℕ) → IsPath a → IsPath b → IsPath (cond t a b)
either_path true a b x y = x
either_path false a b x y = y

least_by : (front : List Placed) (p : Placed) (least : Option (Bor (List ℕ))) (path : List ℕ) → LeastTo front least → reserved_path_of p ≡ Some path → IsPath path
    → IsLeastReserved (front ++ p ∷ []) (lesser_of (option_map (λ b. b.now) least) path) × IsPath (lesser_of (option_map (λ b. b.now) least) path)
least_by front p None path so_far is proper = (
  record {
    taken = takes_new front p path is;
    least = λ other w. elim (takes_cases front p other w) [
      | inl had ↦ absurd (so_far other had)
      | inr same ↦ subst (λ (x : List ℕ). slice_cmp nat_cmp path x ≢ Greater) (same_Some path other (sym is ∙ same)) (le_self (slice_cmp nat_cmp) nat_list_cmp_total path)
    ];
  },
  proper,
)
least_by front p (Some least) path so_far is proper =
    (lesser_least front p least.now path (is_gt (slice_cmp nat_cmp least.now path)) refl so_far.0 is, either_path (is_gt (slice_cmp nat_cmp least.now path)) path least.now proper so_far.1)

pub least_more : (front : List Placed) (p : Placed) (least : Option (Bor (List ℕ))) (path : List ℕ) (next : Bor (List ℕ)) → LeastTo front least → reserved_path_of p ≡ Some path → IsPath path → next.now ≡ lesser_of (option_map (λ b. b.now) least) path → LeastTo (front ++ p ∷ []) (Some next)
least_more front p least path next so_far is proper e =
    let w = least_by front p least path so_far is proper in
    (subst (IsLeastReserved (front ++ p ∷ [])) (sym e) w.0, subst IsPath (sym e) w.1)
