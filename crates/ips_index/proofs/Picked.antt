-- Rows picked out of others, in their order.
use Rattle.std.proofs.Common.{◌≡◌, ◌⊎◌, inl, inr, zero, suc, List, [], ◌∷◌, ◌++◌, refl, sym, ap, subst, arith}
use Rattle.std.specs.Prelude.{◌↔◌, Contains}
use Rattle.std.specs.List.{AllByRecursion}
use Rattle.std.specs.List.Sorted.{IsStrictlySortedBy}
use Rattle.std.specs.declared.cmp.Ordering.TheVariants.{Less}
use Rattle.std.proofs.lemmas.List.Elements.{Contains-append_right}
use Rattle.ips_index.specs.Rows.{IndexedValue, row_cmp}

-- the first row of a list
pub head_in : (row : IndexedValue) (rest : List IndexedValue) → Contains (row ∷ rest) row
head_in row rest = (0, omega arith, refl)

pub tail_in : (row other : IndexedValue) (rest : List IndexedValue) → Contains rest other → Contains (row ∷ rest) other
tail_in row other rest h = Contains-append_right (row ∷ []) rest other h

pub one_or_rest : (row other : IndexedValue) (rest : List IndexedValue) → Contains (row ∷ rest) other → (row ≡ other) ⊎ Contains rest other
one_or_rest row other rest (zero, lt, e) = inl e
one_or_rest row other rest (suc k, lt, e) = inr (k, omega (arith, lt), e)

module _ (P : IndexedValue → Type 0) where
  -- the second list has the rows of the first of which P holds, in their order
  unfoldable pub Picks : List IndexedValue → List IndexedValue → Type 0
  Picks [] found = found ≡ []
  Picks (row ∷ rows) found = ((rest : List IndexedValue) × (found ≡ row ∷ rest) × P row × Picks rows rest) ⊎ ((P row → ⊥) × Picks rows found)

  pub picks_none : (found : List IndexedValue) → found ≡ [] → Picks [] found
  unfolding Picks
  picks_none found e = e

  pub picks_more : (rows : List IndexedValue) (found : List IndexedValue) (row : IndexedValue) → P row → Picks rows found → Picks (rows ++ row ∷ []) (found ++ row ∷ [])
  unfolding Picks
  picks_more [] found row p h = inl ([], ap (λ (l : List IndexedValue). l ++ row ∷ []) h, p, refl)
  picks_more (x ∷ rows) found row p h = elim h [
    | inl w ↦ inl (w.0 ++ row ∷ [], ap (λ (l : List IndexedValue). l ++ row ∷ []) w.1, w.2, picks_more rows w.0 row p w.3)
    | inr w ↦ inr (w.0, picks_more rows found row p w.1)
  ]

  pub picks_past : (rows : List IndexedValue) (found : List IndexedValue) (row : IndexedValue) → (P row → ⊥) → Picks rows found → Picks (rows ++ row ∷ []) found
  unfolding Picks
  picks_past [] found row differs h = inr (differs, h)
  picks_past (x ∷ rows) found row differs h = elim h [ inl w ↦ inl (w.0, w.1, w.2, picks_past rows w.0 row differs w.3) | inr w ↦ inr (w.0, picks_past rows found row differs w.1) ]

  pub picks_each : (rows : List IndexedValue) (found : List IndexedValue) → Picks rows found → (row : IndexedValue) → Contains found row ↔ (Contains rows row × P row)
  unfolding Picks
  picks_each [] found h row = (λ w. absurd (omega (arith, (subst (λ (l : List IndexedValue). Contains l row) h w).1)), λ w. absurd (omega (arith, w.0.1)))
  picks_each (x ∷ rows) found h row = elim h [
    | inl w ↦ (
      λ c. elim (one_or_rest x row w.0 (subst (λ (l : List IndexedValue). Contains l row) w.1 c)) [
        | inl one ↦ (subst (λ (r : IndexedValue). Contains (x ∷ rows) r) one (head_in x rows), subst P one w.2)
        | inr later ↦ let both = (picks_each rows w.0 w.3 row).0 later in (tail_in x row rows both.0, both.1)
      ],
      λ c. subst (λ (l : List IndexedValue). Contains l row) (sym w.1) (elim (one_or_rest x row rows c.0) [
        | inl one ↦ subst (λ (r : IndexedValue). Contains (x ∷ w.0) r) one (head_in x w.0)
        | inr later ↦ tail_in x row w.0 ((picks_each rows w.0 w.3 row).1 (later, c.1))
      ]),
    )
    | inr w ↦ (
      λ c. let both = (picks_each rows found w.1 row).0 c in (tail_in x row rows both.0, both.1),
      λ c. elim (one_or_rest x row rows c.0) [ inl one ↦ absurd (w.0 (subst P (sym one) c.1)) | inr later ↦ (picks_each rows found w.1 row).1 (later, c.1) ],
    )
  ]

  below_all : (x : IndexedValue) (rows : List IndexedValue) (found : List IndexedValue) → Picks rows found → AllByRecursion (λ y. row_cmp x y ≡ Less) rows → AllByRecursion (λ y. row_cmp x y ≡ Less) found
  unfolding Picks
  below_all x [] found h all = subst (λ (l : List IndexedValue). AllByRecursion (λ y. row_cmp x y ≡ Less) l) (sym h) tt
  below_all x (r ∷ rows) found h all = elim h [
    | inl w ↦ subst (λ (l : List IndexedValue). AllByRecursion (λ y. row_cmp x y ≡ Less) l) (sym w.1) (all.0, below_all x rows w.0 w.3 all.1)
    | inr w ↦ below_all x rows found w.1 all.1
  ]

  pub picks_ascend : (rows : List IndexedValue) (found : List IndexedValue) → Picks rows found → IsStrictlySortedBy row_cmp rows → IsStrictlySortedBy row_cmp found
  unfolding Picks IsStrictlySortedBy
  picks_ascend [] found h sorted = subst (λ (l : List IndexedValue). IsStrictlySortedBy row_cmp l) (sym h) tt
  picks_ascend (x ∷ rows) found h sorted = elim h [
    | inl w ↦ subst (λ (l : List IndexedValue). IsStrictlySortedBy row_cmp l) (sym w.1) (below_all x rows w.0 w.3 sorted.0, picks_ascend rows w.0 w.3 sorted.1)
    | inr w ↦ picks_ascend rows found w.1 sorted.1
  ]
