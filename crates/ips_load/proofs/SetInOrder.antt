-- Settings, by what is set at each name.
use Rattle.std.proofs.Common.{◌≡◌, ◌≢◌, ℕ, ◌+◌, ◌<◌, ◌≤◌, length, take, drop, get_or, Bool, true, false, cond, List, [], ◌∷◌, ◌++◌, map, Option, Some, None, refl, sym, ◌∙◌, ap, ap₂, subst}
use Rattle.std.specs.Map.{keys_of}
use Rattle.std.specs.Str.{bytes_eq}
use Rattle.std.specs.Ordering.{nat_cmp, ordering_reverse}
use Rattle.std.specs.List.{AllByRecursion, flat_map}
use Rattle.std.specs.List.Sorted.{IsStrictlySortedBy}
use Rattle.std.specs.Cmp.Lexicographic.{slice_cmp, bytes_decides}
use Rattle.std.specs.declared.cmp.Ordering.{Ordering}
use Rattle.std.specs.declared.cmp.Ordering.TheVariants.{Less, Equal, Greater}
use Rattle.std.proofs.lemmas.Bool.{false_from_ne_true, true≢false}
use Rattle.std.proofs.lemmas.List.{append-nil, take-append-drop, take_all}
use Rattle.std.proofs.lemmas.Grind.{flat_map-append}
use Rattle.ips_text.proofs.Lists.{flat_item}
use Rattle.std.proofs.lemmas.Cmp.{nat_list_cmp_total}
use Rattle.ips_action.proofs.KeyOrder.{equal_is, self_equal, turned}
use Rattle.ips_filter.specs.Settings.{AreByName, value_at, Sets}
use Rattle.ips_state.proofs.Ordered.{IsBefore}
use Rattle.ips_load.specs.declared.head_lines.HeadLine.{HeadLine}
use Rattle.ips_load.specs.HeadLines.{AreSet}

not_equal : {A : Type 0} → Less ≡ Equal → A
not_equal e = absurd (cc)

differs : (a b : List ℕ) → IsBefore a b → bytes_eq a b ≡ false
differs a b before = false_from_ne_true (bytes_eq a b) (λ t. not_equal (sym before ∙ ap (slice_cmp nat_cmp a) (sym ((bytes_decides a b).0 t)) ∙ self_equal a))

differs_back : (a b : List ℕ) → IsBefore a b → bytes_eq b a ≡ false
differs_back a b before = false_from_ne_true (bytes_eq b a) (λ t. not_equal (sym before ∙ ap (slice_cmp nat_cmp a) ((bytes_decides b a).0 t) ∙ self_equal a))

behind_all : (a b : List ℕ) (keys : List (List ℕ)) → IsBefore a b → AllByRecursion (IsBefore b) keys → AllByRecursion (IsBefore a) keys
behind_all a b [] ab all = tt
behind_all a b (k ∷ keys) ab all = (nat_list_cmp_total.trans a b k ab all.0, behind_all a b keys ab all.1)

module _ {V : Type 0} where
  absent : (name : List ℕ) (es : List (List ℕ × V)) → AllByRecursion (IsBefore name) (keys_of es) → value_at es name ≡ None
  absent name [] all = refl
  absent name (e ∷ es) all = ap (λ (t : Bool). cond t (Some e.1) (value_at es name)) (differs name e.0 all.0) ∙ absent name es all.1

  present : (e : List ℕ × V) (es : List (List ℕ × V)) → value_at (e ∷ es) e.0 ≡ Some e.1
  present e es = ap (λ (t : Bool). cond t (Some e.1) (value_at es e.0)) ((bytes_decides e.0 e.0).1 refl)

  tails_alike : (x y : List ℕ × V) (a b : List (List ℕ × V)) → AllByRecursion (IsBefore x.0) (keys_of a) → AllByRecursion (IsBefore y.0) (keys_of b) → x.0 ≡ y.0
      → ((q : List ℕ) → value_at (x ∷ a) q ≡ value_at (y ∷ b) q) → (q : List ℕ) → value_at a q ≡ value_at b q
  tails_alike x y a b ba bb e same q = go (bytes_eq q x.0) refl
    where
      go : (t : Bool) → bytes_eq q x.0 ≡ t → value_at a q ≡ value_at b q
      go true is =
          let one : q ≡ x.0 = (bytes_decides q x.0).0 is in
          absent q a (subst (λ (n : List ℕ). AllByRecursion (IsBefore n) (keys_of a)) (sym one) ba) ∙ sym (absent q b (subst (λ (n : List ℕ). AllByRecursion (IsBefore n) (keys_of b)) (sym (one ∙ e)) bb))
      go false is =
          let other : bytes_eq q y.0 ≡ false = ap (bytes_eq q) (sym e) ∙ is in
          sym (ap (λ (t : Bool). cond t (Some x.1) (value_at a q)) is) ∙ same q ∙ ap (λ (t : Bool). cond t (Some y.1) (value_at b q)) other

  some_one : (v w : V) → (let o : Option V = Some v in o) ≡ Some w → v ≡ w
  some_one v w e = cc

  none_some : (v : V) → (let o : Option V = None in o) ≡ Some v → ⊥
  none_some v e = cc

  -- settings by name with the same values at all names are one
  pub set_alike : (a b : List (List ℕ × V)) → AreByName a → AreByName b → ((q : List ℕ) → value_at a q ≡ value_at b q) → a ≡ b
  unfolding IsStrictlySortedBy
  set_alike [] [] ha hb same = refl
  set_alike [] (y ∷ b) ha hb same = absurd (none_some y.1 (same y.0 ∙ present y b))
  set_alike (x ∷ a) [] ha hb same = absurd (none_some x.1 (sym (same x.0) ∙ present x a))
  set_alike (x ∷ a) (y ∷ b) ha hb same = go (slice_cmp nat_cmp x.0 y.0) refl (set_alike a b ha.1 hb.1)
    where
      go : (o : Ordering) → slice_cmp nat_cmp x.0 y.0 ≡ o → (((q : List ℕ) → value_at a q ≡ value_at b q) → a ≡ b) → x ∷ a ≡ y ∷ b
      go Less is later = absurd (none_some x.1 (sym (absent x.0 (y ∷ b) (is, behind_all x.0 y.0 (keys_of b) is hb.0)) ∙ sym (same x.0) ∙ present x a))
      go Equal is later =
          let one : x.0 ≡ y.0 = equal_is x.0 y.0 is in
          let value : x.1 ≡ y.1 = some_one x.1 y.1 (sym (present x a) ∙ same x.0 ∙ ap (value_at (y ∷ b)) one ∙ present y b) in
          ap₂ (λ (e : List ℕ × V) (l : List (List ℕ × V)). e ∷ l) (ap₂ (λ (n : List ℕ) (v : V). (n, v)) one value) (later (tails_alike x y a b ha.0 hb.0 one same))
      go Greater is later =
          let back : IsBefore y.0 x.0 = turned y.0 x.0 ∙ ap ordering_reverse is in
          absurd (none_some y.1 (sym (absent y.0 (x ∷ a) (back, behind_all y.0 x.0 (keys_of a) back ha.0)) ∙ same y.0 ∙ present y b))

  -- ---- one more

  last_of_all : (a : List ℕ) (front : List (List ℕ × V)) (n : List ℕ × V) → AllByRecursion (IsBefore a) (keys_of (front ++ n ∷ [])) → IsBefore a n.0
  last_of_all a [] n all = all.0
  last_of_all a (f ∷ front) n all = last_of_all a front n all.1

  at_end : (front : List (List ℕ × V)) (n : List ℕ × V) → AreByName (front ++ n ∷ []) → value_at (front ++ n ∷ []) n.0 ≡ Some n.1
  unfolding IsStrictlySortedBy
  at_end [] n order = present n []
  at_end (f ∷ front) n order =
      ap (λ (t : Bool). cond t (Some f.1) (value_at (front ++ n ∷ []) n.0)) (differs_back f.0 n.0 (last_of_all f.0 front n order.0)) ∙ at_end front n order.1

  not_end : (front : List (List ℕ × V)) (n : List ℕ × V) (q : List ℕ) → bytes_eq q n.0 ≡ false → value_at (front ++ n ∷ []) q ≡ value_at front q
  not_end [] n q other = ap (λ (t : Bool). cond t (Some n.1) (let none : Option V = None in none)) other
  not_end (f ∷ front) n q other = ap (λ (v : Option V). cond (bytes_eq q f.0) (Some f.1) v) (not_end front n q other)

  set_one : (n : List ℕ × V) (old new front : List (List ℕ × V)) → Sets n.0 (Some n.1) old new → AreByName (front ++ n ∷ []) → ((q : List ℕ) → value_at old q ≡ value_at front q)
      → (q : List ℕ) → value_at new q ≡ value_at (front ++ n ∷ []) q
  set_one n old new front sets order same q = go (bytes_eq q n.0) refl
    where
      go : (t : Bool) → bytes_eq q n.0 ≡ t → value_at new q ≡ value_at (front ++ n ∷ []) q
      go true is = let one : q ≡ n.0 = (bytes_decides q n.0).0 is in ap (value_at new) one ∙ sets.this ∙ sym (ap (value_at (front ++ n ∷ [])) one ∙ at_end front n order)
      go false is = sets.others q (λ one. true≢false (sym ((bytes_decides q n.0).1 one) ∙ is)) ∙ same q ∙ sym (not_end front n q is)

  -- settings with one more have the value of each name in the list with one more
  pub set_more : (s old new front : List (List ℕ × V)) → AreSet s old new → AreByName (front ++ s) → ((q : List ℕ) → value_at old q ≡ value_at front q) → (q : List ℕ) → value_at new q ≡ value_at (front ++ s) q
  set_more [] old new front set order same q = ap (λ (l : List (List ℕ × V)). value_at l q) set ∙ same q ∙ ap (λ (l : List (List ℕ × V)). value_at l q) (sym (append-nil front))
  set_more (n ∷ more) old new front set order same q =
      let one : n ∷ more ≡ n ∷ [] = ap (λ (l : List (List ℕ × V)). n ∷ l) set.0 in
      set_one n old new front set.1 (subst (λ (l : List (List ℕ × V)). AreByName (front ++ l)) one order) same q ∙ ap (λ (l : List (List ℕ × V)). value_at (front ++ l) q) (sym one)

  left_all : (a : List ℕ) (front rest : List (List ℕ × V)) → AllByRecursion (IsBefore a) (keys_of (front ++ rest)) → AllByRecursion (IsBefore a) (keys_of front)
  left_all a [] rest all = tt
  left_all a (f ∷ front) rest all = (all.0, left_all a front rest all.1)

  pub left_by_name : (front rest : List (List ℕ × V)) → AreByName (front ++ rest) → AreByName front
  unfolding IsStrictlySortedBy
  left_by_name [] rest order = tt
  left_by_name (f ∷ front) rest order = (left_all f.0 front rest order.0, left_by_name front rest order.1)

  -- what is set once one more line was
  pub set_step : (f : HeadLine → List (List ℕ × V)) (lines : List HeadLine) (i : ℕ) (x : HeadLine) (old new : List (List ℕ × V)) → i < length lines → x ≡ get_or lines i x → AreByName (flat_map f lines) → AreSet (f x) old new
      → ((q : List ℕ) → value_at old q ≡ value_at (flat_map f (take i lines)) q) → (q : List ℕ) → value_at new q ≡ value_at (flat_map f (take (i + 1) lines)) q
  set_step f lines i x old new lt e order set same q =
      let one = flat_item f lines i x lt e in
      let whole : flat_map f lines ≡ (flat_map f (take i lines) ++ f x) ++ flat_map f (drop (i + 1) lines) =
      ap (flat_map f) (sym (take-append-drop (i + 1) lines)) ∙ flat_map-append f (take (i + 1) lines) (drop (i + 1) lines) ∙ ap (λ (l : List (List ℕ × V)). l ++ flat_map f (drop (i + 1) lines)) one in
      set_more (f x) old new (flat_map f (take i lines)) set (left_by_name (flat_map f (take i lines) ++ f x) (flat_map f (drop (i + 1) lines)) (subst AreByName whole order)) same q ∙ ap (λ (l : List (List ℕ × V)). value_at l q) (sym one)

  -- all lines were set
  pub set_all : (f : HeadLine → List (List ℕ × V)) (lines : List HeadLine) (i : ℕ) (set : List (List ℕ × V)) → length lines ≤ i → AreByName set → AreByName (flat_map f lines)
      → ((q : List ℕ) → value_at set q ≡ value_at (flat_map f (take i lines)) q) → set ≡ flat_map f lines
  set_all f lines i set past by_name order same = set_alike set (flat_map f lines) by_name order (λ q. same q ∙ ap (λ (l : List HeadLine). value_at (flat_map f l) q) (take_all i lines past))
