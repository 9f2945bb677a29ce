-- The least of the paths that are in the way.
use Rattle.std.proofs.Common.{◌≡◌, ◌≢◌, ℕ, zero, suc, ◌+◌, ◌<◌, ◌≤◌, Bool, true, false, not, ◌&&◌, if◌then◌else◌, List, [], ◌∷◌, length, get_or, Option, Some, None, IfSome, refl, sym, ap, subst, ◌∙◌, inl, inr, ◌⊎◌, arith}
use Rattle.std.specs.Prelude.{IfNone, slice_get}
use Rattle.std.specs.List.{Contains}
use Rattle.std.proofs.lemmas.List.{get_or_default, length-map}
use Rattle.std.proofs.lemmas.List.Elements.{Contains-get_or}
use Rattle.std.proofs.lemmas.Option.{slice_get-get_or}
use Rattle.ips_text.specs.Kept.{Kept}
use Rattle.ips_outside.specs.Children.{path_bytes}
use Rattle.std.specs.Ordering.{nat_cmp, is_lt, ordering_reverse}
use Rattle.std.specs.declared.cmp.Ordering.{Ordering}
use Rattle.std.specs.declared.cmp.Ordering.TheVariants.{Less, Equal, Greater}
use Rattle.std.specs.Cmp.Lexicographic.{slice_cmp}
use Rattle.std.proofs.lemmas.Cmp.{nat_list_cmp_total}
use Rattle.std.proofs.lemmas.Bool.{cases_Bool, not-true}
use Rattle.ips_outside.specs.Image.{Image}
use Rattle.ips_ways.specs.Ways.{IsInTheWay, IsFirstInTheWay, IsFree, is_dir_or_free}
use Rattle.ips_ways.specs.First.{is_before, next_first}

abbrev Path : Type 0
Path = List ℕ

abbrev path : List Path → ℕ → Path
path paths k = get_or paths k []

-- of the first so many paths none is in the way, or this is the least that is
abbrev pub IsFirstOf : Image → List (List ℕ) → ℕ → Option ℕ → Type 0
IsFirstOf t paths n None = (k : ℕ) → k < n → IsInTheWay t (get_or paths k []) → ⊥
IsFirstOf t paths n (Some at) = (at < n) × IsInTheWay t (get_or paths at []) × ((k : ℕ) → k < n → IsInTheWay t (get_or paths k []) → slice_cmp nat_cmp (get_or paths k []) (get_or paths at []) ≢ Less)

pub first_none : (t : Image) (paths : List Path) → IsFirstOf t paths 0 None
first_none t paths k lt way = omega (arith, lt)

way_blocked : (t : Image) (p : Path) → not (is_dir_or_free p (t.look p)) ≡ true → IsInTheWay t p
way_blocked t p h = not-true (is_dir_or_free p (t.look p)) h

way_free : (t : Image) (p : Path) → not (is_dir_or_free p (t.look p)) ≡ false → IsInTheWay t p → ⊥
way_free t p h way = go (is_dir_or_free p (t.look p)) h way
  where
    go : (b : Bool) → not b ≡ false → b ≡ false → ⊥
    go true h e = cc
    go false h e = cc

not_self : (p : Path) → slice_cmp nat_cmp p p ≢ Less
not_self p less = let back = nat_list_cmp_total.antisymm p p in go (slice_cmp nat_cmp p p) less back
  where
    go : (o : Ordering) → o ≡ Less → o ≡ ordering_reverse o → ⊥
    go Less e b = cc
    go Equal e b = cc
    go Greater e b = cc

lt_less : (o : Ordering) → is_lt o ≡ true → o ≡ Less
lt_less Less h = refl
lt_less Equal h = cc
lt_less Greater h = cc

not_lt : (o : Ordering) → is_lt o ≡ false → o ≢ Less
not_lt Less h = cc
not_lt Equal h = λ e. cc
not_lt Greater h = λ e. cc

below : (k n : ℕ) → k < n + 1 → (k < n) ⊎ (k ≡ n)
below zero zero lt = inr refl
below zero (suc n) lt = inl (omega arith)
below (suc k) zero lt = absurd (omega (arith, lt))
below (suc k) (suc n) lt = elim (below k n (omega (arith, lt))) [ inl l ↦ inl (omega (arith, l)) | inr e ↦ inr (ap suc e) ]

pub first_more : (t : Image) (paths : List Path) (n : ℕ) (blocked : Bool) (first : Option ℕ) → blocked ≡ not (is_dir_or_free (get_or paths n []) (t.look (get_or paths n []))) → IsFirstOf t paths n first → IsFirstOf t paths (n + 1) (next_first paths n blocked first)
first_more t paths n false None is inv = λ k lt way. elim (below k n lt) [ inl l ↦ inv k l way | inr e ↦ way_free t (path paths n) (sym is) (subst (λ (j : ℕ). IsInTheWay t (path paths j)) e way) ]
first_more t paths n false (Some at) is inv =
    (omega (arith, inv.0), inv.1, λ k lt way. elim (below k n lt) [ inl l ↦ inv.2 k l way | inr e ↦ absurd (way_free t (path paths n) (sym is) (subst (λ (j : ℕ). IsInTheWay t (path paths j)) e way)) ])
first_more t paths n true None is inv =
    (omega arith, way_blocked t (path paths n) (sym is), λ k lt way. elim (below k n lt) [ inl l ↦ absurd (inv k l way) | inr e ↦ subst (λ (j : ℕ). slice_cmp nat_cmp (path paths j) (path paths n) ≢ Less) (sym e) (not_self (path paths n)) ])
first_more t paths n true (Some at) is inv = elim (cases_Bool (is_lt (slice_cmp nat_cmp (path paths n) (path paths at)))) [
  | inl less ↦ subst (IsFirstOf t paths (n + 1)) (sym (ap (λ (b : Bool). if b then (let o : Option ℕ = Some n in o) else Some at) less)) (
    omega arith,
    way_blocked t (path paths n) (sym is),
    λ k lt way. elim (below k n lt) [
      | inl l ↦ (λ under. inv.2 k l way (nat_list_cmp_total.trans (path paths k) (path paths n) (path paths at) under (lt_less (slice_cmp nat_cmp (path paths n) (path paths at)) less)))
      | inr e ↦ subst (λ (j : ℕ). slice_cmp nat_cmp (path paths j) (path paths n) ≢ Less) (sym e) (not_self (path paths n))
    ],
  )
  | inr off ↦ subst (IsFirstOf t paths (n + 1)) (sym (ap (λ (b : Bool). if b then (let o : Option ℕ = Some n in o) else Some at) off)) (
    omega (arith, inv.0),
    inv.1,
    λ k lt way. elim (below k n lt) [
      | inl l ↦ inv.2 k l way
      | inr e ↦ subst (λ (j : ℕ). slice_cmp nat_cmp (path paths j) (path paths at) ≢ Less) (sym e) (not_lt (slice_cmp nat_cmp (path paths n) (path paths at)) off)
    ],
  )
]

pub next_within : (paths : List Path) (n len : ℕ) (blocked : Bool) (first : Option ℕ) → n < len → IfSome first (λ at. at < len) → IfSome (next_first paths n blocked first) (λ at. at < len)
next_within paths n len blocked first lt is = go (blocked && is_before paths n first)
  where
    go : (b : Bool) → IfSome (if b then (let o : Option ℕ = Some n in o) else first) (λ at. at < len)
    go true = lt
    go false = is

member : (paths : List Path) (x : Path) (has : Contains paths x) → path paths has.0 ≡ x
member paths x has = get_or_default paths has.0 [] x has.1 ∙ has.2

module _ (t : Image) (paths : List Kept) (n : ℕ) (all : length paths ≤ n) where
  inside : (k : ℕ) → k < length (path_bytes paths) → k < n
  inside k lt = omega (arith, lt, all, length-map paths (λ (p : Kept). p.bytes))

  pub first_found : (first : Option ℕ) → IfSome first (λ at. at < length paths) → IsFirstOf t (path_bytes paths) n first → IfSome first (λ at. (x : Path) × (slice_get (path_bytes paths) at ≡ Some x) × IsFirstInTheWay t (path_bytes paths) x)
  first_found None is inv = tt
  first_found (Some at) is inv =
      let lt : at < length (path_bytes paths) = omega (arith, is, length-map paths (λ (p : Kept). p.bytes)) in (
        path (path_bytes paths) at,
        slice_get-get_or (path_bytes paths) at [] lt,
        (
          Contains-get_or (path_bytes paths) at [] lt,
          inv.1,
          λ other has way.
              let e = member (path_bytes paths) other has in
              subst (λ (q : Path). slice_cmp nat_cmp q (path (path_bytes paths) at) ≢ Less) e (inv.2 has.0 (inside has.0 has.1) (subst (IsInTheWay t) (sym e) way)),
        ),
      )

  pub none_found : (first : Option ℕ) → IsFirstOf t (path_bytes paths) n first → IfNone first (IsFree t (path_bytes paths))
  none_found None inv = λ other has way. inv has.0 (inside has.0 has.1) (subst (IsInTheWay t) (sym (member (path_bytes paths) other has)) way)
  none_found (Some at) inv = tt
