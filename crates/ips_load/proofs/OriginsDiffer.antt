-- Origins that differ in their names.
use Rattle.std.proofs.Common.{◌≡◌, ℕ, suc, ◌+◌, ◌<◌, ◌≤◌, Bool, true, false, not, cond, ◌||◌, List, [], ◌∷◌, ◌++◌, length, map, take, drop, get_or, refl, sym, ◌∙◌, ap, subst, arith, length-take, append_assoc}
use Rattle.std.specs.List.{AllByRecursion, list_any}
use Rattle.std.specs.Str.{bytes_eq}
use Rattle.std.specs.Ordering.{nat_cmp, is_eq}
use Rattle.std.specs.Cmp.Lexicographic.{slice_cmp, bytes_decides}
use Rattle.std.specs.declared.cmp.Ordering.{Ordering}
use Rattle.std.specs.declared.cmp.Ordering.TheVariants.{Less, Equal, Greater}
use Rattle.std.specs.BTreeSet.{BTreeSet, contains, Updates}
use Rattle.std.proofs.lemmas.Bool.{true≢false, false≢true, or_parts, false_from_ne_true}
use Rattle.std.proofs.lemmas.List.{map-append, take-append-drop, take_all}
use Rattle.std.proofs.lemmas.List.Folds.{list_any-append}
use Rattle.ips_action.proofs.KeyOrder.{equal_is, self_equal}
use Rattle.ips_state.specs.declared.state.Origin.{Origin}
use Rattle.ips_state.specs.Lawful.{Differ, AreOrigins}
use Rattle.ips_load.specs.HeadLines.{IsOrigin, IsBadOrigin}
use Rattle.ips_text.proofs.Lists.{take_item, all_append}

-- the names of origins
abbrev pub names : List Origin → List (List ℕ)
names os = map (λ (o : Origin). o.name) os

-- the name is among them
abbrev pub has_name : List ℕ → List (List ℕ) → Bool
has_name name all = list_any (bytes_eq name) all

other_name : (a b : List ℕ) → bytes_eq b a ≡ false → a ≡ b → ⊥
other_name a b off e = true≢false (sym ((bytes_decides b a).1 (sym e)) ∙ off)

all_other : (t : List ℕ) (ts : List (List ℕ)) (n : List ℕ) → AllByRecursion (λ (o : List ℕ). t ≡ o → ⊥) ts → bytes_eq n t ≡ false → AllByRecursion (λ (o : List ℕ). t ≡ o → ⊥) (ts ++ n ∷ [])
all_other t ts n all off = all_append (λ (o : List ℕ). t ≡ o → ⊥) ts (n ∷ []) all (other_name t n off, tt)

differ_more : (all : List (List ℕ)) (n : List ℕ) → Differ all → has_name n all ≡ false → Differ (all ++ n ∷ [])
differ_more [] n d off = (tt, tt)
differ_more (t ∷ all) n d off = let w = or_parts (bytes_eq n t) (has_name n all) off in (all_other t all n d.0 w.0, differ_more all n d.1 w.1)

pick : (t : List ℕ) (ts more : List (List ℕ)) (n : List ℕ) → AllByRecursion (λ (o : List ℕ). t ≡ o → ⊥) (ts ++ n ∷ more) → t ≡ n → ⊥
pick t [] more n all = all.0
pick t (s ∷ ts) more n all = pick t ts more n all.1

never_again : (all more : List (List ℕ)) (n : List ℕ) → has_name n all ≡ true → Differ (all ++ n ∷ more) → ⊥
never_again [] more n has d = false≢true has
never_again (t ∷ all) more n has d = go (bytes_eq n t) refl has (λ h. never_again all more n h d.1)
  where
    go : (here : Bool) → bytes_eq n t ≡ here → (here || has_name n all) ≡ true → (has_name n all ≡ true → ⊥) → ⊥
    go true is h later = pick t all more n d.0 (sym ((bytes_decides n t).0 is))
    go false is h later = later h

-- ---- the names that were seen

abbrev Seen : BTreeSet (List ℕ) → List ℕ → Bool
Seen set q = contains (slice_cmp nat_cmp) set q

tied : (k q : List ℕ) → is_eq (slice_cmp nat_cmp k q) ≡ bytes_eq q k
tied k q = go (bytes_eq q k) refl (slice_cmp nat_cmp k q) refl
  where
    go : (t : Bool) → bytes_eq q k ≡ t → (o : Ordering) → slice_cmp nat_cmp k q ≡ o → is_eq o ≡ t
    go true is Less e = absurd (less_no (sym e ∙ ap (slice_cmp nat_cmp k) ((bytes_decides q k).0 is) ∙ self_equal k))
      where
        less_no : Less ≡ Equal → ⊥
        less_no x = cc
    go true is Equal e = refl
    go true is Greater e = absurd (more_no (sym e ∙ ap (slice_cmp nat_cmp k) ((bytes_decides q k).0 is) ∙ self_equal k))
      where
        more_no : Greater ≡ Equal → ⊥
        more_no x = cc
    go false is Less e = refl
    go false is Equal e = absurd (true≢false (sym ((bytes_decides q k).1 (sym (equal_is k q e))) ∙ is))
    go false is Greater e = refl

swap : (a b : Bool) → cond a true b ≡ (b || (a || false))
swap true true = refl
swap true false = refl
swap false true = refl
swap false false = refl

seen_more : (old new : BTreeSet (List ℕ)) (k : List ℕ) (all : List (List ℕ)) → Updates (slice_cmp nat_cmp) old new k true → ((q : List ℕ) → Seen old q ≡ has_name q all) → (q : List ℕ) → Seen new q ≡ has_name q (all ++ k ∷ [])
seen_more old new k all updates same q =
    updates.0 q ∙ ap (λ (t : Bool). cond t true (Seen old q)) (tied k q) ∙ ap (λ (t : Bool). cond (bytes_eq q k) true t) (same q) ∙ swap (bytes_eq q k) (has_name q all) ∙ sym (list_any-append (bytes_eq q) all (k ∷ []))

-- what is so once these many were seen
pub record SeenSoFar (os : List Origin) (count : ℕ) (set : BTreeSet (List ℕ)) : Type 0 where
  pub differ : Differ (names (take count os))
  pub seen : (q : List ℕ) → Seen set q ≡ has_name q (names (take count os))

pub seen_none : (os : List Origin) (set : BTreeSet (List ℕ)) → set.keys ≡ [] → SeenSoFar os 0 set
seen_none os set none = record { differ = tt; seen = λ q. ap (list_any (λ k. is_eq (slice_cmp nat_cmp q k))) none }

next_names : (os : List Origin) (i : ℕ) (o : Origin) → i < length os → o ≡ get_or os i o → names (take (i + 1) os) ≡ names (take i os) ++ o.name ∷ []
next_names os i o lt e = ap names (take_item os i o lt e) ∙ map-append (λ (x : Origin). x.name) (take i os) (o ∷ [])

added_new : (added had : Bool) → added ≡ not had → added ≡ true → had ≡ false
added_new added true is e = absurd (false≢true (sym is ∙ e))
added_new added false is e = refl

added_old : (added had : Bool) → added ≡ not had → added ≡ false → had ≡ true
added_old added true is e = refl
added_old added false is e = absurd (true≢false (sym is ∙ e))

pub seen_next : (os : List Origin) (i : ℕ) (o : Origin) (old new : BTreeSet (List ℕ)) (added : Bool) → i < length os → o ≡ get_or os i o → SeenSoFar os i old → Updates (slice_cmp nat_cmp) old new o.name true → added ≡ not (Seen old o.name) → added ≡ true → SeenSoFar os (i + 1) new
seen_next os i o old new added lt e so updates is told = record {
  differ = subst Differ (sym (next_names os i o lt e)) (differ_more (names (take i os)) o.name so.differ (sym (so.seen o.name) ∙ added_new added (Seen old o.name) is told));
  seen = λ q. subst (λ (all : List (List ℕ)). Seen new q ≡ has_name q all) (sym (next_names os i o lt e)) (seen_more old new o.name (names (take i os)) updates so.seen q);
}

each_taken : (i : ℕ) (os : List Origin) → AllByRecursion IsOrigin os → AllByRecursion IsOrigin (take i os)
each_taken i os all = front (take i os) (drop i os) (subst (AllByRecursion IsOrigin) (sym (take-append-drop i os)) all)
  where
    front : (a b : List Origin) → AllByRecursion IsOrigin (a ++ b) → AllByRecursion IsOrigin a
    front [] b h = tt
    front (x ∷ a) b h = (h.0, front a b h.1)

-- an origin whose name was seen can't stand there
pub seen_again : (format : ℕ) (os : List Origin) (i : ℕ) (o : Origin) (old : BTreeSet (List ℕ)) (added : Bool) → i < length os → o ≡ get_or os i o → AllByRecursion IsOrigin os → (format ≡ 1 → os ≡ []) → SeenSoFar os i old → added ≡ not (Seen old o.name) → added ≡ false → IsBadOrigin format os i
seen_again format os i o old added lt e each none so is told = record {
  front = take i os;
  origin = o;
  rest = drop (i + 1) os;
  cut = sym (take-append-drop (i + 1) os) ∙ ap (λ (l : List Origin). l ++ drop (i + 1) os) (take_item os i o lt e) ∙ append_assoc (take i os) (o ∷ []) (drop (i + 1) os);
  count = omega (arith, lt, length-take i os);
  stand = record { each = each_taken i os each; once = so.differ; none = λ one. let nothing : length os ≡ 0 = ap length (none one) in absurd (omega (arith, lt, nothing)) };
  never = λ more origins. never_again (names (take i os)) (names more) o.name (sym (so.seen o.name) ∙ added_old added (Seen old o.name) is told) (subst Differ (map-append (λ (x : Origin). x.name) (take i os) (o ∷ more)) origins.once);
}

-- all were seen, each once
pub seen_all : (format : ℕ) (os : List Origin) (i : ℕ) (set : BTreeSet (List ℕ)) → length os ≤ i → AllByRecursion IsOrigin os → (format ≡ 1 → os ≡ []) → SeenSoFar os i set → AreOrigins format os
seen_all format os i set past each none so = record { each = each; once = subst (λ (l : List Origin). Differ (names l)) (take_all i os past) so.differ; none = none }

-- in format 1 the first origin can't stand there
pub none_in_first : (format : ℕ) (os : List Origin) → format ≡ 1 → 0 < length os → IsBadOrigin format os 0
none_in_first format [] one some = absurd (omega (arith, some))
none_in_first format (o ∷ os) one some = record {
  front = [];
  origin = o;
  rest = os;
  cut = refl;
  count = refl;
  stand = record { each = tt; once = tt; none = λ e. refl };
  never = λ more origins. cons_no more (origins.none one);
}
  where
    cons_no : (more : List Origin) → o ∷ more ≡ [] → ⊥
    cons_no more e = cc
