-- What the map of a tree has at a path, and after an edit.
use Rattle.std.proofs.Common.{◌≡◌, ◌+◌, ◌<◌, if◌then◌else◌, arith, ℕ, Bool, true, false, cond, ◌&&◌, List, [], ◌∷◌, Option, Some, None, refl, sym, ◌∙◌, ap}
use Rattle.std.specs.Map.{lookup, set_value, KeepsOthers}
use Rattle.std.specs.Option.{option_map}
use Rattle.std.specs.BTreeMap.{BTreeMap, is_at, insert_entry, UpdatesBy}
use Rattle.std.specs.Ordering.{nat_cmp, is_eq, match_ordering}
use Rattle.std.specs.declared.cmp.Ordering.{Ordering}
use Rattle.std.specs.declared.cmp.Ordering.TheVariants.{Less, Equal, Greater}
use Rattle.std.specs.declared.alloc.Global.{Global}
use Rattle.std.specs.declared.vec.Vec.{Vec}
use Rattle.std.specs.Cmp.Lexicographic.{slice_cmp}
use Rattle.std.specs.Str.{bytes_eq}
use Rattle.std.proofs.lemmas.Map.Text.{is_eq-slice_cmp}
use Rattle.std.proofs.lemmas.Cmp.{nat_eq_equiv, nat_list_cmp_total, tied_itself}
use Rattle.ips_text.specs.Ancestry.{same_path}
use Rattle.ips_text.proofs.Ancestry.{same_path-true, same_path-self}
use Rattle.ips_outside.specs.Table.{kind_at}
use Rattle.ips_outside.specs.declared.table.Kind.{Kind}

bytes_eq-same_path : (p q : List ℕ) → bytes_eq p q ≡ same_path q p
bytes_eq-same_path [] [] = refl
bytes_eq-same_path [] (b ∷ q) = refl
bytes_eq-same_path (a ∷ p) [] = refl
bytes_eq-same_path (a ∷ p) (b ∷ q) = λ i. nat_eq_equiv.symm a b i && bytes_eq-same_path p q i

-- a key is found by its bytes
pub is_eq-path : (p q : List ℕ) → is_eq (slice_cmp nat_cmp p q) ≡ same_path q p
is_eq-path p q = is_eq-slice_cmp p q ∙ bytes_eq-same_path p q

pub kind_at-get : (entries : List (Vec ℕ Global × Kind)) (q : List ℕ) → lookup (is_at (λ k. slice_cmp nat_cmp q k.items)) entries ≡ kind_at entries q
kind_at-get entries q = λ i. lookup (λ k. is_eq-path q k.items i) entries

-- where the order says so, two keys are one path or two
pub one_path : (p q : List ℕ) → slice_cmp nat_cmp p q ≡ Equal → q ≡ p
one_path p q e = same_path-true q p (sym (is_eq-path p q) ∙ ap is_eq e)

module _ (v : Kind) (q : List ℕ) where
  over : (s : Bool) (x y : Option Kind) → cond s (Some v) x ≡ cond s (Some v) (cond s y x)
  over true x y = refl
  over false x y = refl

  -- a key before the new one, which it isn't
  behind_other : (s t : Bool) (w : Kind) (rest more : Option Kind) → (s ≡ true → t ≡ true → ⊥) → more ≡ cond t (Some v) rest → cond s (Some w) more ≡ cond t (Some v) (cond s (Some w) rest)
  behind_other true true w rest more apart is = absurd (apart refl refl)
  behind_other true false w rest more apart is = refl
  behind_other false t w rest more apart is = is

  pub kind_at-insert : (k : Vec ℕ Global) (entries : List (Vec ℕ Global × Kind)) → kind_at (insert_entry (λ x y. slice_cmp nat_cmp x.items y.items) entries k v) q ≡ cond (same_path k.items q) (Some v) (kind_at entries q)
  kind_at-insert k [] = refl
  kind_at-insert k (e ∷ rest) = go (slice_cmp nat_cmp k.items e.0.items) refl (kind_at-insert k rest)
    where
      go : (o : Ordering) → slice_cmp nat_cmp k.items e.0.items ≡ o
          → kind_at (insert_entry (λ x y. slice_cmp nat_cmp x.items y.items) rest k v) q ≡ cond (same_path k.items q) (Some v) (kind_at rest q)
          → kind_at (match_ordering o ((k, v) ∷ e ∷ rest) ((e.0, v) ∷ rest) (e ∷ insert_entry (λ x y. slice_cmp nat_cmp x.items y.items) rest k v)) q ≡ cond (same_path k.items q) (Some v) (kind_at (e ∷ rest) q)
      go Less is ih = refl
      go Equal is ih =
          let one : e.0.items ≡ k.items = one_path k.items e.0.items is in
          ap (λ (p : List ℕ). cond (same_path p q) (Some v) (kind_at rest q)) one
          ∙ over (same_path k.items q) (kind_at rest q) (Some e.1)
          ∙ ap (λ (p : List ℕ). cond (same_path k.items q) (Some v) (cond (same_path p q) (Some e.1) (kind_at rest q))) (sym one)
      go Greater is ih = behind_other (same_path e.0.items q) (same_path k.items q) e.1 (kind_at rest q) _
          (λ at here.
          let one : e.0.items ≡ k.items = same_path-true e.0.items q at ∙ sym (same_path-true k.items q here) in
          let tied : slice_cmp nat_cmp k.items e.0.items ≡ Equal = ap (slice_cmp nat_cmp k.items) one ∙ tied_itself nat_list_cmp_total k.items in
          let bad : Greater ≡ Equal = sym is ∙ tied in
          cc)
          ih

  -- another value at a path that the map has
  kind_at-set_here : (p : List ℕ) (entries : List (Vec ℕ Global × Kind)) (k' : Kind) → kind_at entries p ≡ Some k' → kind_at (set_value (λ k. same_path k.items p) entries v) q ≡ cond (same_path p q) (Some v) (kind_at entries q)
  kind_at-set_here p [] k' is = cc
  kind_at-set_here p (e ∷ rest) k' is = go (same_path e.0.items p) refl is (kind_at-set_here p rest k')
    where
      go : (s : Bool) → same_path e.0.items p ≡ s → cond s (Some e.1) (kind_at rest p) ≡ Some k'
          → (kind_at rest p ≡ Some k' → kind_at (set_value (λ k. same_path k.items p) rest v) q ≡ cond (same_path p q) (Some v) (kind_at rest q))
          → kind_at (cond s ((e.0, v) ∷ rest) (e ∷ set_value (λ k. same_path k.items p) rest v)) q ≡ cond (same_path p q) (Some v) (kind_at (e ∷ rest) q)
      go true at is ih =
          let one : e.0.items ≡ p = same_path-true e.0.items p at in
          ap (λ (x : List ℕ). cond (same_path x q) (Some v) (kind_at rest q)) one
          ∙ over (same_path p q) (kind_at rest q) (Some e.1)
          ∙ ap (λ (x : List ℕ). cond (same_path p q) (Some v) (cond (same_path x q) (Some e.1) (kind_at rest q))) (sym one)
      go false at is ih = behind_other (same_path e.0.items q) (same_path p q) e.1 (kind_at rest q) _
          (λ here there.
          let one : e.0.items ≡ p = same_path-true e.0.items q here ∙ sym (same_path-true p q there) in
          let self : same_path e.0.items p ≡ true = ap (same_path e.0.items) (sym one) ∙ same_path-self e.0.items in
          cc)
          (ih is)

  pub kind_at-set : (p : List ℕ) (entries : List (Vec ℕ Global × Kind)) (k' : Kind) → kind_at entries p ≡ Some k'
      → kind_at (set_value (is_at (λ k. slice_cmp nat_cmp p k.items)) entries v) q ≡ cond (same_path p q) (Some v) (kind_at entries q)
  kind_at-set p entries k' is = ap (λ (test : Vec ℕ Global → Bool). kind_at (set_value test entries v) q) (λ i k. is_eq-path p k.items i) ∙ kind_at-set_here p entries k' is

-- what an edit of the value at a path makes of the map
pub kind_at-edit : (edit : Kind → Kind) (p q : List ℕ) (entries new : List (Vec ℕ Global × Kind)) (k w : Kind) → kind_at entries p ≡ Some k → w ≡ edit k → new ≡ set_value (is_at (λ k. slice_cmp nat_cmp p k.items)) entries w
    → kind_at new q ≡ cond (same_path p q) (option_map edit (kind_at entries q)) (kind_at entries q)
kind_at-edit edit p q entries new k w at is set = ap (λ (es : List (Vec ℕ Global × Kind)). kind_at es q) set ∙ kind_at-set w q p entries k at ∙ go (same_path p q) refl
  where
    go : (s : Bool) → same_path p q ≡ s → cond s (Some w) (kind_at entries q) ≡ cond s (option_map edit (kind_at entries q)) (kind_at entries q)
    go true s = ap (λ (x : Kind). Some x) is ∙ ap (option_map edit) (sym at ∙ ap (kind_at entries) (same_path-true p q s))
    go false s = refl

-- where nothing stands there is nothing to edit
pub kind_at-no_edit : (edit : Kind → Kind) (p q : List ℕ) (entries : List (Vec ℕ Global × Kind)) → kind_at entries p ≡ None → kind_at entries q ≡ cond (same_path p q) (option_map edit (kind_at entries q)) (kind_at entries q)
kind_at-no_edit edit p q entries none = go (same_path p q) refl
  where
    go : (s : Bool) → same_path p q ≡ s → kind_at entries q ≡ cond s (option_map edit (kind_at entries q)) (kind_at entries q)
    go true s = let at : kind_at entries q ≡ None = ap (kind_at entries) (sym (same_path-true p q s)) ∙ none in at ∙ sym (ap (option_map edit) at)
    go false s = refl

-- ---- what stands at a path, taken away

module _ (old new : BTreeMap (Vec ℕ Global) Kind) (p : List ℕ) (after : UpdatesBy (λ x y. slice_cmp nat_cmp x.items y.items) (λ k. slice_cmp nat_cmp p k.items) old new None) where
  others_kept : (q : List ℕ) → same_path p q ≡ false → kind_at new.entries q ≡ kind_at old.entries q
  unfolding KeepsOthers
  others_kept q apart = after.3 (λ k. same_path k.items q)
      (λ x y at.
      let one : x.items ≡ q = same_path-true x.items q at in
      ap (same_path y.items) (sym one) ∙ sym (is_eq-path x.items y.items))
      (λ k at.
      let one : k.items ≡ p = same_path-true k.items p (sym (is_eq-path p k.items) ∙ at) in
      ap (λ (x : List ℕ). same_path x q) one ∙ apart)

  pub kind_at-taken : (q : List ℕ) → kind_at new.entries q ≡ cond (same_path p q) None (kind_at old.entries q)
  kind_at-taken q = go (same_path p q) refl
    where
      go : (s : Bool) → same_path p q ≡ s → kind_at new.entries q ≡ cond s None (kind_at old.entries q)
      go true s = ap (kind_at new.entries) (sym (same_path-true p q s)) ∙ sym (kind_at-get new.entries p) ∙ after.1
      go false s = others_kept q s

-- one entry less
pub fewer : (b : Bool) (m n : ℕ) → b ≡ true → m + (if b then 1 else 0) ≡ n → m < n
fewer true m n is len = omega arith
fewer false m n is len = cc
