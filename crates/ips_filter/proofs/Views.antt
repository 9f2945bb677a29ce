-- What the maps of settings have at a name, as their lists show it.
use Rattle.std.proofs.Common.{◌≡◌, ◌≢◌, ℕ, Bool, true, false, cond, List, [], ◌∷◌, map, Option, Some, String, Global, refl, sym, ap, ◌∙◌}
use Rattle.std.specs.Option.{option_map}
use Rattle.std.specs.Map.{lookup, keys_of}
use Rattle.std.specs.Str.{bytes_eq}
use Rattle.std.specs.String.{string_cmp, string_bytes}
use Rattle.std.specs.Ordering.{nat_cmp}
use Rattle.std.specs.Cmp.Lexicographic.{slice_cmp}
use Rattle.std.specs.declared.cmp.Ordering.TheVariants.{Less}
use Rattle.std.specs.List.{AllByRecursion, AllZip}
use Rattle.std.specs.List.Sorted.{IsStrictlySortedBy}
use Rattle.std.specs.BTreeMap.{BTreeMap, UpdatesBy, get_by_text, is_at}
use Rattle.std.proofs.lemmas.Map.Text.{is_eq-slice_cmp, btree_map_updates_text}
use Rattle.std.proofs.lemmas.Slice.Eq.{bytes_eq-Decides}
use Rattle.std.proofs.lemmas.Bool.{false_from_ne_true}
use Rattle.ips_filter.specs.Settings.{value_at, Sets, AreByName}

module _ {X V : Type 0} (f : X → V) where
  -- the entries as they are seen
  abbrev pub seen : List (String Global × X) → List (List ℕ × V)
  seen es = map (λ e. (string_bytes e.0, f e.1)) es

  cond_map : (b : Bool) (x : X) (o : Option X) → cond b (Some (f x)) (option_map f o) ≡ option_map f (cond b (Some x) o)
  cond_map true x o = refl
  cond_map false x o = refl

  -- what is seen at a name is what the map has there
  pub seen_at : (name : List ℕ) (es : List (String Global × X)) → value_at (seen es) name ≡ option_map f (lookup (is_at (λ k. slice_cmp nat_cmp name (string_bytes k))) es)
  seen_at name [] = refl
  seen_at name (e ∷ es) =
      ap (λ (o : Option V). cond (bytes_eq name (string_bytes e.0)) (Some (f e.1)) o) (seen_at name es)
      ∙ cond_map (bytes_eq name (string_bytes e.0)) e.1 (lookup (is_at (λ k. slice_cmp nat_cmp name (string_bytes k))) es)
      ∙ ap (λ (b : Bool). option_map f (cond b (Some e.1) (lookup (is_at (λ k. slice_cmp nat_cmp name (string_bytes k))) es))) (sym (is_eq-slice_cmp name (string_bytes e.0)))

  -- a change at one name of the map is one of what is seen
  pub sets : (name : List ℕ) (m n : BTreeMap (String Global) X) (w : Option X)
      → UpdatesBy string_cmp (λ k. slice_cmp nat_cmp name (string_bytes k)) m n w → Sets name (option_map f w) (seen m.entries) (seen n.entries)
  sets name m n w updates = record {
    this = seen_at name n.entries ∙ ap (option_map f) (btree_map_updates_text name m n w updates name ∙ ap (λ (b : Bool). cond b w (get_by_text m name)) ((bytes_eq-Decides name name).1 refl));
    others = λ other differs.
        seen_at other n.entries
        ∙ ap (option_map f) (btree_map_updates_text name m n w updates other ∙ ap (λ (b : Bool). cond b w (get_by_text m other)) (apart name other (λ same. differs (sym same))))
        ∙ sym (seen_at other m.entries);
  }
    where
      apart : (a b : List ℕ) → a ≢ b → bytes_eq a b ≡ false
      apart a b differs = false_from_ne_true (bytes_eq a b) (λ is. differs ((bytes_eq-Decides a b).0 is))

  all_seen : (k : String Global) (es : List (String Global × X)) → AllByRecursion (λ y. string_cmp k y ≡ Less) (keys_of es) → AllByRecursion (λ y. slice_cmp nat_cmp (string_bytes k) y ≡ Less) (keys_of (seen es))
  all_seen k [] all = tt
  all_seen k (e ∷ es) all = (all.0, all_seen k es all.1)

  -- names that ascend in the map ascend in what is seen
  pub seen_ascends : (es : List (String Global × X)) → IsStrictlySortedBy string_cmp (keys_of es) → AreByName (seen es)
  unfolding IsStrictlySortedBy
  seen_ascends [] sorted = tt
  seen_ascends (e ∷ es) sorted = (all_seen e.0 es sorted.0, seen_ascends es sorted.1)

  -- clones of entries are seen the same
  pub seen_clone : (es ds : List (String Global × X)) → AllZip (λ p q. (string_bytes q.0 ≡ string_bytes p.0) × (f q.1 ≡ f p.1)) es ds → seen ds ≡ seen es
  seen_clone [] [] same = refl
  seen_clone [] (d ∷ ds) same = absurd same
  seen_clone (e ∷ es) [] same = absurd same
  seen_clone (e ∷ es) (d ∷ ds) same = λ i. (same.0.0 i, same.0.1 i) ∷ seen_clone es ds same.1 i
