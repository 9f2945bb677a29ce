-- The place of an origin in a list.
use Rattle.std.proofs.Common.{◌≡◌, ℕ, zero, suc, ◌<◌, ◌≤◌, ltb, Bool, true, false, cond, List, [], ◌∷◌, ◌++◌, length, get_or, position, slice_set, Some, None, refl, sym, ap, ◌∙◌, inl, inr, arith, bytes_eq}
use Rattle.std.specs.List.{position_or_len}
use Rattle.std.proofs.lemmas.Bool.{cases_Bool, cond-true}
use Rattle.std.proofs.lemmas.Option.{none-some}
use Rattle.std.proofs.lemmas.List.Quantifiers.{position-Some}
use Rattle.std.proofs.lemmas.List.Sums.{fails_before_first}
use Rattle.ips_state.specs.declared.state.Origin.{Origin}
use Rattle.ips_asked.specs.Origins.{sticky_in, with_origin}

abbrev pub is_named : List ℕ → Origin → Bool
is_named name o = bytes_eq o.name name

-- the origin at the first place of its name takes that place
put_at : (origin : Origin) (os : List Origin) (i : ℕ) (d : Origin) → i < length os → is_named origin.name (get_or os i d) ≡ true → ((k : ℕ) → k < i → is_named origin.name (get_or os k d) ≡ false)
    → slice_set os i origin ≡ with_origin origin os
put_at origin [] i d l here before = absurd (omega arith)
put_at origin (o ∷ os) zero d l here before = sym (ap (λ (b : Bool). cond b (origin ∷ os) (o ∷ with_origin origin os)) here)
put_at origin (o ∷ os) (suc i) d l here before =
    ap (λ (rest : List Origin). o ∷ rest) (put_at origin os i d (omega arith) here (λ k less. before (suc k) (omega arith)))
    ∙ sym (ap (λ (b : Bool). cond b (origin ∷ os) (o ∷ with_origin origin os)) (before zero (omega arith)))

pub put_there : (name : List ℕ) (origin : Origin) (seen os : List Origin) (i : ℕ) → origin.name ≡ name → seen ≡ os → Some i ≡ position (is_named name) seen → slice_set os i origin ≡ with_origin origin os
put_there name origin seen os i own same at =
    let there : position (is_named origin.name) os ≡ Some i = ap (λ (n : List ℕ). position (is_named n) os) own ∙ ap (position (is_named name)) (sym same) ∙ sym at in
    let p = position-Some (is_named origin.name) os i origin there in
    put_at origin os i origin p.0 p.1 p.2

put_behind : (origin : Origin) (os : List Origin) (d : Origin) → ((k : ℕ) → k < length os → is_named origin.name (get_or os k d) ≡ false) → os ++ origin ∷ [] ≡ with_origin origin os
put_behind origin [] d none = refl
put_behind origin (o ∷ os) d none =
    ap (λ (rest : List Origin). o ∷ rest) (put_behind origin os d (λ k less. none (suc k) (omega arith)))
    ∙ sym (ap (λ (b : Bool). cond b (origin ∷ os) (o ∷ with_origin origin os)) (none zero (omega arith)))

sticky_at : (name : List ℕ) (os : List Origin) (i : ℕ) (d : Origin) → i < length os → is_named name (get_or os i d) ≡ true → ((k : ℕ) → k < i → is_named name (get_or os k d) ≡ false)
    → let o : Origin = get_or os i d in o.sticky ≡ sticky_in name os
sticky_at name [] i d l here before = absurd (omega arith)
sticky_at name (o ∷ os) zero d l here before = sym (ap (λ (b : Bool). cond b o.sticky (sticky_in name os)) here)
sticky_at name (o ∷ os) (suc i) d l here before =
    sticky_at name os i d (omega arith) here (λ k less. before (suc k) (omega arith)) ∙ sym (ap (λ (b : Bool). cond b o.sticky (sticky_in name os)) (before zero (omega arith)))

sticky_none : (name : List ℕ) (os : List Origin) (d : Origin) → ((k : ℕ) → k < length os → is_named name (get_or os k d) ≡ false) → true ≡ sticky_in name os
sticky_none name [] d none = refl
sticky_none name (o ∷ os) d none =
    sticky_none name os d (λ k less. none (suc k) (omega arith)) ∙ sym (ap (λ (b : Bool). cond b o.sticky (sticky_in name os)) (none zero (omega arith)))

-- where no place is told, no origin has the name
module _ (name : List ℕ) (os : List Origin) where
  not_below : (n m : ℕ) → ltb n m ≡ false → m ≤ n
  not_below n m h = grind arith

  none_past : (n m : ℕ) → cond (ltb n m) (Some n) None ≡ None → m ≤ n
  none_past n m e = elim (cases_Bool (ltb n m)) [
    | inl h ↦ absurd (none-some n (sym e ∙ cond-true (ltb n m) (Some n) None h))
    | inr h ↦ not_below n m h
  ]

  none_named : position (is_named name) os ≡ None → (d : Origin) (k : ℕ) → k < length os → is_named name (get_or os k d) ≡ false
  none_named e d k l =
      let past = none_past (position_or_len (is_named name) os) (length os) e in
      fails_before_first (is_named name) os k d (omega arith)

pub put_last : (name : List ℕ) (origin : Origin) (seen os : List Origin) → origin.name ≡ name → seen ≡ os → None ≡ position (is_named name) seen → os ++ origin ∷ [] ≡ with_origin origin os
put_last name origin seen os own same e =
    let there : position (is_named origin.name) os ≡ None = ap (λ (n : List ℕ). position (is_named n) os) own ∙ ap (position (is_named name)) (sym same) ∙ sym e in
    put_behind origin os origin (none_named origin.name os there origin)

pub sticky_there : (name : List ℕ) (os : List Origin) (i : ℕ) (o : Origin) → Some i ≡ position (is_named name) os → (let x : Origin = get_or os i o in x.sticky) ≡ sticky_in name os
sticky_there name os i o at = let p = position-Some (is_named name) os i o (sym at) in sticky_at name os i o p.0 p.1 p.2

pub sticky_new : (name : List ℕ) (os : List Origin) → None ≡ position (is_named name) os → true ≡ sticky_in name os
sticky_new name os e = let d : Origin = record { name = name; sticky = true } in sticky_none name os d (none_named name os (sym e) d)
