-- What the table of clashes answers.
use Rattle.std.proofs.Common.{◌≡◌, ℕ, zero, suc, ◌<◌, ◌==◌, Bool, true, List, [], ◌∷◌, slice_index, Option, refl, ap, ◌∙◌, arith, inl, inr}
use mir.Val.{bool_byte}
use Rattle.std.specs.Prelude.{IfSome}
use Rattle.std.proofs.lemmas.Bool.{ltb-true}
use Rattle.ips_action.specs.Action.{Fields}
use Rattle.ips_cases.specs.Cases.{Table, IsKey, HasBadKey, meeting, value_at}
use Rattle.ips_cases.specs.declared.row.Row.{Row}
use Rattle.ips_cases.proofs.EachKey.{each_key, IsTable-from_test, value_at-from_test, byte_below, byte_back}
use Rattle.ips_conflict.specs.Alike.{kind_place, alike, overlaid}
use Rattle.ips_conflict.specs.Verdict.{decision, decision_at, verdict, IsClashTable, has_place}

pub is_table : (rows : List Row) (t : Table) → t ≡ record { rows = rows; sizes = 9 ∷ 9 ∷ 2 ∷ 2 ∷ [] } → each_key 9 9 2 2 (λ key. value_at rows key == decision_at key) ≡ true → IsClashTable t
is_table rows t e all = record {
  sizes = ap (λ (x : Table). x.sizes) e;
  decides = λ key h. ap (λ (x : Table). value_at x.rows key) e ∙ value_at-from_test rows 9 9 2 2 decision_at all key h;
}

-- (what a table would be tells the rows)
pub no_bad_key : (rows : List Row) (t : Option Table) → IfSome t (λ x. x ≡ record { rows = rows; sizes = 9 ∷ 9 ∷ 2 ∷ 2 ∷ [] }) → each_key 9 9 2 2 (λ key. meeting rows key == 1) ≡ true → HasBadKey rows (9 ∷ 9 ∷ 2 ∷ 2 ∷ []) → ⊥
no_bad_key rows t would all w =
    let one = IsTable-from_test rows 9 9 2 2 all w.0 w.1 in elim w.2 [ inl none ↦ absurd (omega (arith, none, one)) | inr two ↦ absurd (omega (arith, two, one)) ]

key_below : (k l x y : ℕ) → k < 9 → l < 9 → x < 2 → y < 2 → (place : ℕ) → place < 4 → slice_index (k ∷ l ∷ x ∷ y ∷ []) place < slice_index (9 ∷ 9 ∷ 2 ∷ 2 ∷ []) place
key_below k l x y hk hl hx hy zero lt = hk
key_below k l x y hk hl hx hy (suc zero) lt = hl
key_below k l x y hk hl hx hy (suc (suc zero)) lt = hx
key_below k l x y hk hl hx hy (suc (suc (suc zero))) lt = hy
key_below k l x y hk hl hx hy (suc (suc (suc (suc n)))) lt = absurd (omega arith)

place_small : (a : Fields) (k : ℕ) → has_place a ≡ true → k ≡ kind_place a.kind → k < 9
place_small a k h e = omega (arith, ltb-true (kind_place a.kind) 9 h, e)

-- what is found is what is said of the two actions
pub found_is : (t : Table) (a b : Fields) (k l x y found : ℕ) (p q : Bool) → IsClashTable t → has_place a ≡ true → has_place b ≡ true → k ≡ kind_place a.kind → l ≡ kind_place b.kind → x ≡ bool_byte p → y ≡ bool_byte q
    → p ≡ alike a b → q ≡ overlaid a b → found ≡ value_at t.rows (k ∷ l ∷ x ∷ y ∷ []) → found ≡ verdict a b
found_is t a b k l x y found p q is ha hb ek el ex ey ep eq e =
    let key : IsKey (9 ∷ 9 ∷ 2 ∷ 2 ∷ []) (k ∷ l ∷ x ∷ y ∷ []) = record {
      places = refl;
      below = key_below k l x y (place_small a k ha ek) (place_small b l hb el) (omega (arith, byte_below p, ex)) (omega (arith, byte_below q, ey));
    } in
    let likeness : (x == 1) ≡ alike a b = ap (λ (n : ℕ). n == 1) ex ∙ byte_back p ∙ ep in
    let overlay : (y == 1) ≡ overlaid a b = ap (λ (n : ℕ). n == 1) ey ∙ byte_back q ∙ eq in
    let same : decision_at (k ∷ l ∷ x ∷ y ∷ []) ≡ verdict a b = λ i. decision (ek i) (el i) (likeness i) (overlay i) in
    e ∙ is.decides (k ∷ l ∷ x ∷ y ∷ []) key ∙ same
