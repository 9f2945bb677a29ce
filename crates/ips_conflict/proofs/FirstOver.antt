-- The first clash over a key, over the keys of a text, and of all.
use Rattle.std.proofs.Common.{◌≡◌, ◌≢◌, ℕ, zero, suc, ◌+◌, ◌<◌, Bool, true, false, List, [], ◌∷◌, length, String, Global, Vec, string_bytes, Option, Some, None, refl, sym, ap, subst, ◌∙◌, inl, inr, arith}
use Rattle.std.specs.Prelude.{cond}
use Rattle.std.specs.List.{Contains, AllByRecursion}
use Rattle.std.specs.List.Sorted.{IsStrictlySortedBy}
use Rattle.std.specs.Map.{lookup, keys_of}
use Rattle.std.specs.BTreeMap.{get_by_text}
use Rattle.std.specs.Option.{ForSome, option_map_or}
use Rattle.std.specs.Ordering.{ordering_then, nat_cmp, is_eq, MatchOrdering, on}
use Rattle.std.specs.Cmp.{IsTotalOrder, ranks, then_total, on_total}
use Rattle.std.specs.Cmp.Lexicographic.{slice_cmp}
use Rattle.std.specs.declared.cmp.Ordering.{Ordering}
use Rattle.std.specs.declared.cmp.Ordering.TheVariants.{Less, Equal, Greater}
use Rattle.std.proofs.lemmas.Cmp.{tied_itself, nat_cmp_total, nat_list_cmp_total}
use Rattle.std.proofs.lemmas.Map.Keys.{sorted_head, sorted_tail}
use Rattle.std.proofs.lemmas.Option.{none-some, same_Some, slice_get_within}
use Rattle.ips_conflict.specs.declared.placed.Placed.{Placed}
use Rattle.ips_conflict.specs.declared.placed.Sort.{Sort}
use Rattle.ips_conflict.specs.declared.placed.Sort.TheVariants as sort
use Rattle.ips_conflict.specs.declared.clashing.Rule.{Rule}
use Rattle.ips_conflict.specs.declared.clashing.Rule.TheVariants.{Mediator, Kinds, Attributes, Deliverers, Below, Target}
use Rattle.ips_conflict.specs.declared.clashing.Found.{Found}
use Rattle.ips_conflict.specs.declared.clashing.Clash.{Clash}
use Rattle.ips_conflict.specs.Key.{Key, sort_rank}
use Rattle.ips_conflict.specs.Verdict.{rule_rank}
use Rattle.ips_conflict.specs.Clash.{HasKey, Conflict, IsConflict, IsConflictBy, IsAbove, IsFirst, key_cmp, pair_cmp, conflict_cmp, path_key, told}
use Rattle.ips_conflict.specs.Index.{Groups, IsGroup, AreGroups, places_at}
use Rattle.ips_conflict.specs.Search.{NoneBelow, IsFirstBy, IsFirstOver, IsFirstOfText, conflict}
use Rattle.ips_conflict.proofs.Places.{below_or_last}
use Rattle.ips_conflict.proofs.Kept.{tied}
use Rattle.ips_conflict.proofs.Ordered.{less_or}
use Rattle.ips_conflict.proofs.Grouped.{key_text}
use Rattle.ips_conflict.proofs.FirstPair.{then_le}
use Rattle.ips_text.proofs.Orders.{less_not_greater, last_tie, number_tie}
use Rattle.ips_action.proofs.KeyOrder.{same_true}

-- ---- ranks

rule_at : ℕ → Rule
rule_at zero = Mediator
rule_at (suc zero) = Kinds
rule_at (suc (suc zero)) = Attributes
rule_at (suc (suc (suc zero))) = Deliverers
rule_at (suc (suc (suc (suc zero)))) = Below
rule_at (suc (suc (suc (suc (suc n))))) = Target

rule_is : (r : Rule) → rule_at (rule_rank r) ≡ r
unfolding rule_at
rule_is Mediator = refl
rule_is Kinds = refl
rule_is Attributes = refl
rule_is Deliverers = refl
rule_is Below = refl
rule_is Target = refl

pub same_rule : (r s : Rule) → rule_rank r ≡ rule_rank s → r ≡ s
same_rule r s e = sym (rule_is r) ∙ ap rule_at e ∙ rule_is s

sort_at : ℕ → Sort
sort_at zero = sort.Path
sort_at (suc zero) = sort.User
sort_at (suc (suc zero)) = sort.Group
sort_at (suc (suc (suc zero))) = sort.Driver
sort_at (suc (suc (suc (suc zero)))) = sort.Legacy
sort_at (suc (suc (suc (suc (suc n))))) = sort.License

sort_is : (s : Sort) → sort_at (sort_rank s) ≡ s
unfolding sort_at
sort_is sort.Path = refl
sort_is sort.User = refl
sort_is sort.Group = refl
sort_is sort.Driver = refl
sort_is sort.Legacy = refl
sort_is sort.License = refl

pub same_sort : (r s : Sort) → sort_rank r ≡ sort_rank s → r ≡ s
same_sort r s e = sym (sort_is r) ∙ ap sort_at e ∙ sort_is s

rank_le : (r s : ℕ) → (s < r → ⊥) → nat_cmp r s ≢ Greater
rank_le r s above e = above (subst (λ (o : Ordering). MatchOrdering o (r < s) (r ≡ s) (s < r)) e (ranks r s))

pub key_total : IsTotalOrder key_cmp
key_total = then_total (on_total (λ (k : Key). k.text) nat_list_cmp_total) (on_total (λ (k : Key). sort_rank k.sort) nat_cmp_total)

key_tie : (k l : Key) → l ≡ k → key_cmp k l ≡ Equal
key_tie k l e = subst (λ (x : Key). key_cmp k x ≡ Equal) (sym e) (tied_itself key_total k)

tie_le : (o : Ordering) → o ≡ Equal → o ≢ Greater
tie_le o e f = let no : Equal ≡ Greater = sym e ∙ f in absurd cc

-- what comes first decides
less_then : (o p : Ordering) → o ≡ Less → ordering_then o p ≡ Less
less_then Less p e = refl
less_then Equal p e = absurd cc
less_then Greater p e = absurd cc

-- ---- over a key

module _ (placed : List Placed) (key : Key) where
  none_more : (rule : Rule) (rank : ℕ) → rule_rank rule ≡ rank → NoneBelow placed key rank → IsFirstBy placed key rule None → NoneBelow placed key (rank + 1)
  none_more rule rank is before none d h ek lt = elim (below_or_last (rule_rank d.rule) rank lt) [ inl l ↦ before d h ek l | inr e ↦ none d h ek (same_rule d.rule rule (e ∙ sym is)) ]

  -- the first clash by the first rule that has one is the first
  pub first_over : (found : Found) → NoneBelow placed key (rule_rank found.rule) → IsFirstBy placed key found.rule (Some (found.first, found.second)) → IsFirstOver placed key (Some found)
  first_over found before by = (
    by.0,
    λ d h ek.
        let keys : key_cmp key d.key ≡ Equal = key_tie key d.key ek in
        let rule : Ordering = nat_cmp (rule_rank found.rule) (rule_rank d.rule) in
        then_le (ordering_then (key_cmp key d.key) rule) (pair_cmp placed (conflict key found.rule found.first found.second) d)
        (then_le (key_cmp key d.key) rule (tie_le (key_cmp key d.key) keys) (λ tie. rank_le (rule_rank found.rule) (rule_rank d.rule) (before d h ek)))
        (λ tie. by.1 d h ek (same_rule d.rule found.rule (sym (number_tie (rule_rank found.rule) (rule_rank d.rule) (last_tie (key_cmp key d.key) rule tie))))),
  )

-- where the key is that of a path
module _ (placed : List Placed) (s : Sort) (text : List ℕ) (path : s ≡ sort.Path) where
  at_path : (rank : ℕ) → NoneBelow placed (record { sort = s; text = text }) rank → NoneBelow placed (path_key text) rank
  at_path rank none = subst (λ (x : Sort). NoneBelow placed (record { sort = x; text = text }) rank) path none

  over_path : (found : Found) → IsFirstOver placed (path_key text) (Some found) → IsFirstOver placed (record { sort = s; text = text }) (Some found)
  over_path found h = subst (λ (x : Sort). IsFirstOver placed (record { sort = x; text = text }) (Some found)) (sym path) h

  module _ (none : NoneBelow placed (record { sort = s; text = text }) 4) where
    pub obstacle_over : (first : ℕ) (second : Option ℕ) → IsFirstBy placed (path_key text) Below (Some (first, second)) → IsFirstOver placed (record { sort = s; text = text }) (Some (record { rule = Below; first = first; second = second }))
    obstacle_over first second by = over_path (record { rule = Below; first = first; second = second }) (first_over placed (path_key text) (record { rule = Below; first = first; second = second }) (at_path 4 none) by)

    pub lost_over : IsFirstBy placed (path_key text) Below None → (first : ℕ) (second : Option ℕ) → IsFirstBy placed (path_key text) Target (Some (first, second)) → IsFirstOver placed (record { sort = s; text = text }) (Some (record { rule = Target; first = first; second = second }))
    lost_over free first second by =
        over_path (record { rule = Target; first = first; second = second })
        (first_over placed (path_key text) (record { rule = Target; first = first; second = second }) (none_more placed (path_key text) Below 4 refl (at_path 4 none) free) by)

-- ---- over the keys of a text

key_of_parts : (k : Key) (s : Sort) (text : List ℕ) → k.sort ≡ s → k.text ≡ text → k ≡ record { sort = s; text = text }
key_of_parts k s text es et = λ i. record { sort = es i; text = et i }

-- no clash over a key of the text of a sort before this place
abbrev pub NoneBefore : List Placed → List ℕ → ℕ → Type 0
NoneBefore placed text rank = (d : Conflict) → IsConflict placed d → d.key.text ≡ text → sort_rank d.key.sort < rank → ⊥

module _ (placed : List Placed) (text : List ℕ) where
  pub first_of : (s : Sort) (rank : ℕ) (found : Found) (clash : Clash) → sort_rank s ≡ rank → NoneBefore placed text rank → IsFirstOver placed (record { sort = s; text = text }) (Some found)
      → ((key : Key) → key.text ≡ text → clash ≡ told placed (conflict key found.rule found.first found.second)) → IsFirstOfText placed text (Some clash)
  first_of s rank found clash is before over tells =
      let key : Key = record { sort = s; text = text } in
      let c = conflict key found.rule found.first found.second in (
        c,
        refl,
        over.0,
        λ d h et.
            let texts : slice_cmp nat_cmp text d.key.text ≡ Equal = subst (λ (t : List ℕ). slice_cmp nat_cmp text t ≡ Equal) (sym et) (tied_itself nat_list_cmp_total text) in
            let sorts : Ordering = nat_cmp (sort_rank s) (sort_rank d.key.sort) in
            let le : key_cmp key d.key ≢ Greater = then_le (slice_cmp nat_cmp text d.key.text) sorts (tie_le _ texts) (λ tie. rank_le (sort_rank s) (sort_rank d.key.sort) (λ lt. before d h et (omega (arith, lt, is)))) in
            elim (less_or (key_cmp key d.key) le) [
              | inl less ↦ less_not_greater (conflict_cmp placed c d) (less_then (ordering_then (key_cmp key d.key) (nat_cmp (rule_rank found.rule) (rule_rank d.rule))) (pair_cmp placed c d) (less_then (key_cmp key d.key) (nat_cmp (rule_rank found.rule) (rule_rank d.rule)) less))
              | inr tie ↦ over.1 d h (key_of_parts d.key s text (same_sort d.key.sort s (sym (number_tie (sort_rank s) (sort_rank d.key.sort) (last_tie (slice_cmp nat_cmp text d.key.text) sorts tie)))) et)
            ],
        tells key refl,
      )

-- ---- of all

-- the first action of a clash has its key
first_key : (rule : Rule) (placed : List Placed) (d : Conflict) → IsConflictBy rule placed d → (p : Placed) × HasKey placed d.key d.first p
first_key Mediator placed d h = (h.a, h.a_key)
first_key Kinds placed d h = (h.a, h.a_key)
first_key Attributes placed d h = (h.a, h.a_key)
first_key Deliverers placed d h = (h.a, h.a_key)
first_key Below placed d h = (h.a, h.a_key)
first_key Target placed d h = (h.a, h.a_key)

within_some : (n j : ℕ) (o : Option ℕ) → o ≡ Some j → j < n → ForSome o (λ i. i < n)
within_some n j o e lt i is = subst (λ (k : ℕ). k < n) (same_Some j i (sym e ∙ is)) lt

above_within : (placed : List Placed) (path : List ℕ) (o : Option ℕ) → IsAbove placed path o → ForSome o (λ i. i < length placed)
above_within placed path None above = λ i is. absurd (none-some i is)
above_within placed path (Some j) above = within_some (length placed) j (Some j) refl (slice_get_within placed j above.2 above.3.here)

second_by : (rule : Rule) (placed : List Placed) (d : Conflict) → IsConflictBy rule placed d → ForSome d.second (λ i. i < length placed)
second_by Mediator placed d h = within_some (length placed) h.other d.second h.second (slice_get_within placed h.other h.b h.b_key.here)
second_by Kinds placed d h = within_some (length placed) h.other d.second h.second (slice_get_within placed h.other h.b h.b_key.here)
second_by Attributes placed d h = within_some (length placed) h.other d.second h.second (slice_get_within placed h.other h.b h.b_key.here)
second_by Deliverers placed d h = within_some (length placed) h.other d.second h.second (slice_get_within placed h.other h.b h.b_key.here)
second_by Below placed d h = above_within placed h.path d.second h.above
second_by Target placed d h = within_some (length placed) d.first d.second h.second (slice_get_within placed d.first h.a h.a_key.here)

pub second_within : (placed : List Placed) (d : Conflict) → IsConflict placed d → ForSome d.second (λ i. i < length placed)
second_within placed d h = second_by d.rule placed d h

-- texts and the places that a map has for them
abbrev pub Entries : Type 0
Entries = List (String Global × Vec ℕ Global)

-- the places that are listed for a text
abbrev pub listed : Entries → List ℕ → Option (Vec ℕ Global)
listed entries text = lookup (λ k. is_eq (slice_cmp nat_cmp text (string_bytes k))) entries

-- each clash is over a key of a text of these
abbrev pub AllAmong : List Placed → Entries → Type 0
AllAmong placed rest = (d : Conflict) → IsConflict placed d → (members : Vec ℕ Global) × (listed rest d.key.text ≡ Some members)

all_among : (placed : List Placed) (groups : Groups) → AreGroups placed groups → AllAmong placed groups.entries
all_among placed groups are d h =
    let w = first_key d.rule placed d h in
    let has : Contains (places_at groups d.key.text) d.first = (are d.key.text d.first).1 (w.0, w.1.here, key_text w.0 d.key w.1.key_is) in
    go (get_by_text groups d.key.text) refl has
  where
    go : (o : Option (Vec ℕ Global)) → get_by_text groups d.key.text ≡ o → Contains (option_map_or (λ g. g.items) o []) d.first → (members : Vec ℕ Global) × (listed groups.entries d.key.text ≡ Some members)
    go None e has = absurd (omega (arith, has.1))
    go (Some members) e has = (members, e)

-- a text of the entries behind the first
text_tie : (p q : List ℕ) → is_eq (slice_cmp nat_cmp p q) ≡ true → p ≡ q
text_tie p q e = same_true p q (sym (tied p q) ∙ e)

module _ (placed : List Placed) (text : String Global) (members : Vec ℕ Global) (rest : Entries) where
  among_rest : AllAmong placed ((text, members) ∷ rest) → IsFirstOfText placed (string_bytes text) None → AllAmong placed rest
  among_rest all none d h = let w = all d h in (w.0, go (is_eq (slice_cmp nat_cmp d.key.text (string_bytes text))) refl w.0 w.1)
    where
      go : (t : Bool) → is_eq (slice_cmp nat_cmp d.key.text (string_bytes text)) ≡ t → (m : Vec ℕ Global) → cond t (Some members) (listed rest d.key.text) ≡ Some m → listed rest d.key.text ≡ Some m
      go true e m is = absurd (none d h (text_tie d.key.text (string_bytes text) e))
      go false e m is = is

-- what is listed behind a text stands behind it
listed_after : (low text : List ℕ) (rest : Entries) (m : Vec ℕ Global) → AllByRecursion (λ k. slice_cmp nat_cmp low (string_bytes k) ≡ Less) (keys_of rest) → listed rest text ≡ Some m → slice_cmp nat_cmp low text ≡ Less
listed_after low text [] m all is = absurd (none-some m is)
listed_after low text (e ∷ es) m all is = go (is_eq (slice_cmp nat_cmp text (string_bytes e.0))) refl (listed_after low text es m all.1) is
  where
    go : (t : Bool) → is_eq (slice_cmp nat_cmp text (string_bytes e.0)) ≡ t → (listed es text ≡ Some m → slice_cmp nat_cmp low text ≡ Less) → cond t (Some e.1) (listed es text) ≡ Some m → slice_cmp nat_cmp low text ≡ Less
    go true same more is = subst (λ (q : List ℕ). slice_cmp nat_cmp low q ≡ Less) (sym (text_tie text (string_bytes e.0) same)) all.0
    go false other more is = more is

module _ (placed : List Placed) (text : String Global) (members : Vec ℕ Global) (rest : Entries) where
  first_among : (clash : Clash) → AllAmong placed ((text, members) ∷ rest) → IsStrictlySortedBy (on string_bytes (slice_cmp nat_cmp)) (keys_of ((text, members) ∷ rest)) → IsFirstOfText placed (string_bytes text) (Some clash)
      → (c : Conflict) × IsFirst placed c × (clash ≡ told placed c)
  first_among clash all sorted f = (
    f.0,
    record { conflict = f.2; first = λ d h. let w = all d h in go d h (is_eq (slice_cmp nat_cmp d.key.text (string_bytes text))) refl w.0 w.1 },
    f.4,
  )
    where
      go : (d : Conflict) → IsConflict placed d → (t : Bool) → is_eq (slice_cmp nat_cmp d.key.text (string_bytes text)) ≡ t → (m : Vec ℕ Global) → cond t (Some members) (listed rest d.key.text) ≡ Some m → conflict_cmp placed f.0 d ≢ Greater
      go d h true e m is = f.3 d h (text_tie d.key.text (string_bytes text) e)
      go d h false e m is =
          let c = f.0 in
          let after : slice_cmp nat_cmp (string_bytes text) d.key.text ≡ Less = listed_after (string_bytes text) d.key.text rest m (sorted_head (on string_bytes (slice_cmp nat_cmp)) text (keys_of rest) sorted) is in
          let less : slice_cmp nat_cmp c.key.text d.key.text ≡ Less = subst (λ (t : List ℕ). slice_cmp nat_cmp t d.key.text ≡ Less) (sym f.1) after in
          let sorts = nat_cmp (sort_rank c.key.sort) (sort_rank d.key.sort) in
          let rules = nat_cmp (rule_rank c.rule) (rule_rank d.rule) in
          less_not_greater (conflict_cmp placed c d) (less_then (ordering_then (key_cmp c.key d.key) rules) (pair_cmp placed c d) (less_then (key_cmp c.key d.key) rules (less_then (slice_cmp nat_cmp c.key.text d.key.text) sorts less)))

-- ---- what is left to be looked through

-- each clash is over a key of a text that is left, and these are in order
abbrev pub IsLeft : List Placed → Entries → Type 0
IsLeft placed rest = record { among : AllAmong placed rest; sorted : IsStrictlySortedBy (on string_bytes (slice_cmp nat_cmp)) (keys_of rest) }

pub all_left : (placed : List Placed) (groups : Groups) (rest : Entries) → groups.entries ≡ rest → AreGroups placed groups → IsStrictlySortedBy (on string_bytes (slice_cmp nat_cmp)) (keys_of groups.entries) → IsLeft placed rest
all_left placed groups rest e are sorted = subst (IsLeft placed) e (record { among = all_among placed groups are; sorted = sorted })

-- what was found over the keys of a text, under its other name
pub of_text : (placed : List Placed) (t u : List ℕ) (o p : Option Clash) → t ≡ u → o ≡ p → IsFirstOfText placed t o → IsFirstOfText placed u p
of_text placed t u o p e f h = subst (λ (x : List ℕ). IsFirstOfText placed x p) e (subst (IsFirstOfText placed t) f h)

-- the places at a text that is met
pub group_of : (placed : List Placed) (groups : Groups) (text : String Global) (members : Vec ℕ Global) (t m : List ℕ) → AreGroups placed groups → get_by_text groups (string_bytes text) ≡ Some members → t ≡ string_bytes text → m ≡ members.items → IsGroup placed t m
group_of placed groups text members t m are found e f =
    let at : places_at groups (string_bytes text) ≡ m = ap (λ (o : Option (Vec ℕ Global)). option_map_or (λ g. g.items) o []) found ∙ sym f in
    subst (λ (x : List ℕ). IsGroup placed x m) (sym e) (subst (IsGroup placed (string_bytes text)) at (are (string_bytes text)))

module _ (placed : List Placed) (text : String Global) (members : Vec ℕ Global) (rest now : Entries) (turn : now ≡ (text, members) ∷ rest) (left : IsLeft placed now) where
  at_turn : IsLeft placed ((text, members) ∷ rest)
  at_turn = subst (IsLeft placed) turn left

  pub left_more : IsFirstOfText placed (string_bytes text) None → IsLeft placed rest
  left_more none = record { among = among_rest placed text members rest at_turn.among none; sorted = sorted_tail (on string_bytes (slice_cmp nat_cmp)) text (keys_of rest) at_turn.sorted }

  pub first_left : (clash : Clash) → IsFirstOfText placed (string_bytes text) (Some clash) → (c : Conflict) × IsFirst placed c × (clash ≡ told placed c)
  first_left clash f = first_among placed text members rest clash at_turn.among at_turn.sorted f
