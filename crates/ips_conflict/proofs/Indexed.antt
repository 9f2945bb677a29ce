-- What is looked up among the actions at the places below a number.
use Rattle.std.proofs.Common.{◌≡◌, ◌≢◌, ◌⊎◌, ◌==◌, ℕ, ◌+◌, ◌<◌, ◌≤◌, Bool, true, false, not, cond, List, [], ◌∷◌, ◌++◌, length, Option, Some, None, refl, sym, ap, subst, ◌∙◌, inl, inr, arith}
use mathlib.Core.Bool.{beq}
use Rattle.std.specs.Prelude.{◌↔◌, slice_get, codes, MatchOption, IfSome, option_map}
use Rattle.std.specs.List.{Contains, list_any}
use Rattle.std.specs.Option.{option_map_or, option_eq}
use Rattle.std.specs.Ordering.{is_lt, is_eq, nat_cmp, ordering_then}
use Rattle.std.specs.Cmp.Lexicographic.{slice_cmp}
use Rattle.std.specs.declared.cmp.Ordering.{Ordering}
use Rattle.std.specs.Map.{lookup}
use Rattle.std.specs.String.{string_bytes}
use Rattle.std.proofs.lemmas.Cmp.{tied_itself, nat_cmp_total}
use Rattle.std.specs.declared.cmp.Ordering.TheVariants.{Less, Greater}
use Rattle.std.specs.declared.vec.Vec.{Vec}
use Rattle.std.specs.BTreeMap.{BTreeMap, get_by_text}
use Rattle.std.specs.BTreeSet.{BTreeSet}
use Rattle.std.specs.declared.alloc.Global.{Global}
use Rattle.std.proofs.lemmas.Bool.{true≢false, eq-eqb, and_parts}
use Rattle.std.proofs.lemmas.Option.{slice_get_within, none-some, same_Some}
use Rattle.std.proofs.lemmas.List.Elements.{Contains-append_left, Contains-push, Contains-push_cases}
use Rattle.ips_text.specs.Ancestry.{same_path, covers, is_below}
use Rattle.ips_action.specs.Attrs.{is_same}
use Rattle.ips_action.specs.declared.kind.ActionKind.TheVariants.{File}
use Rattle.ips_conflict.specs.declared.placed.Placed.{Placed}
use Rattle.ips_conflict.specs.declared.placed.Sort.{Sort}
use Rattle.ips_conflict.specs.declared.placed.Sort.TheVariants.{Path, User, Group, Driver, Legacy, License}
use Rattle.ips_conflict.specs.Key.{Key, key_of, sort_of, sort_rank, text_of, value_of}
use Rattle.ips_conflict.specs.Order.{place_cmp}
use Rattle.ips_conflict.specs.Alike.{takes_place}
use Rattle.ips_conflict.specs.Clash.{HasKey, path_key, has_path_key, IsFileAt, Counts, file_rank, file_cmp}
use Rattle.ips_conflict.specs.Index.{Groups, AreGroups, AreAbove, HoldsAbove, AreFiles, places_at, has_text, has_path, place_of, winner_after, first_counted}
use Rattle.ips_conflict.proofs.Places.{one_there, below_or_last}
use Rattle.ips_conflict.proofs.Kept.{is_same_self}
use Rattle.ips_conflict.proofs.Marked.{below_covers}
use Rattle.ips_conflict.proofs.Ordered.{le_trans, le_of_less, le_self, le_unless, file_total}
use Rattle.ips_text.proofs.Orders.{less_is}
use Rattle.ips_action.proofs.KeyOrder.{same_true}

-- ---- groups

-- an action whose key has the text stands at the place
abbrev pub HasTextAt : List Placed → List ℕ → ℕ → Type 0
HasTextAt placed text i = (p : Placed) × (slice_get placed i ≡ Some p) × (has_text p text ≡ true)

abbrev pub GroupsTo : List Placed → ℕ → Groups → Type 0
GroupsTo placed k groups = (text : List ℕ) (i : ℕ) → Contains (places_at groups text) i ↔ ((i < k) × HasTextAt placed text i)

-- the places at a text once one more is put there, where it has the text
abbrev put : Bool → List ℕ → ℕ → List ℕ
put t old k = cond t (old ++ k ∷ []) old

put_one : (placed : List Placed) (k : ℕ) (p : Placed) (text old : List ℕ) (t : Bool) (i : ℕ) → slice_get placed k ≡ Some p → has_text p text ≡ t
    → Contains old i ↔ ((i < k) × HasTextAt placed text i) → Contains (put t old k) i ↔ ((i < k + 1) × HasTextAt placed text i)
put_one placed k p text old true i here has so_far = (
  λ w. elim (Contains-push_cases old k i w) [
    | inl had ↦ let h = so_far.0 had in (omega (arith, h.0), h.1)
    | inr same ↦ (omega (arith, same), (p, subst (λ (j : ℕ). slice_get placed j ≡ Some p) same here, has))
  ],
  λ w. elim (below_or_last i k w.0) [
    | inl lt ↦ Contains-append_left old (k ∷ []) i (so_far.1 (lt, w.1))
    | inr same ↦ subst (λ (j : ℕ). Contains (old ++ k ∷ []) j) (sym same) (Contains-push old k)
  ],
)
put_one placed k p text old false i here has so_far = (
  λ w. let h = so_far.0 w in (omega (arith, h.0), h.1),
  λ w. elim (below_or_last i k w.0) [
    | inl lt ↦ so_far.1 (lt, w.1)
    | inr same ↦
        let q = w.1 in
        let one : q.0 ≡ p = one_there placed k q.0 p (subst (λ (j : ℕ). slice_get placed j ≡ Some q.0) same q.1) here in
        absurd (true≢false (sym q.2 ∙ ap (λ (x : Placed). has_text x text) one ∙ has))
  ],
)

pub groups_more : (placed : List Placed) (k : ℕ) (p : Placed) (old new : Groups) → slice_get placed k ≡ Some p → GroupsTo placed k old
    → ((text : List ℕ) → places_at new text ≡ cond (has_text p text) (places_at old text ++ k ∷ []) (places_at old text)) → GroupsTo placed (k + 1) new
groups_more placed k p old new here so_far puts text i =
    subst (λ (l : List ℕ). Contains l i ↔ ((i < k + 1) × HasTextAt placed text i)) (sym (puts text)) (put_one placed k p text (places_at old text) (has_text p text) i here refl (so_far text i))

pub groups_done : (placed : List Placed) (k : ℕ) (groups : Groups) → length placed ≤ k → GroupsTo placed k groups → AreGroups placed groups
groups_done placed k groups le all text i = (λ w. ((all text i).0 w).1, λ w. (all text i).1 (omega (arith, slice_get_within placed i w.0 w.1), w))

-- ---- keys of paths

pub path_by : (o : Option Sort) (p : Placed) → option_map_or (λ sort. sort_rank sort == 0) o false ≡ true → option_map (λ sort. let k : Key = record { sort = sort; text = text_of sort p } in k) o ≡ Some (path_key (value_of (codes "path") p.action))
path_by None p h = absurd (true≢false (sym h))
path_by (Some Path) p h = refl
path_by (Some User) p h = absurd (true≢false (sym h))
path_by (Some Group) p h = absurd (true≢false (sym h))
path_by (Some Driver) p h = absurd (true≢false (sym h))
path_by (Some Legacy) p h = absurd (true≢false (sym h))
path_by (Some License) p h = absurd (true≢false (sym h))

-- the key of what gives a path is that path
pub path_is : (p : Placed) → has_path_key p ≡ true → key_of p ≡ Some (path_key (value_of (codes "path") p.action))
path_is p h = path_by (sort_of p.action.kind) p h

pub path_of : (o : Option Sort) (p : Placed) (path : List ℕ) → option_map (λ sort. let k : Key = record { sort = sort; text = text_of sort p } in k) o ≡ Some (path_key path) → option_map_or (λ sort. sort_rank sort == 0) o false ≡ true
path_of None p path h = absurd (none-some (path_key path) h)
path_of (Some sort) p path h = eq-eqb (sort_rank sort) 0 (ap (λ (o : Option Key). option_map_or (λ k. sort_rank k.sort) o 0) h)

pub gives_path : (p : Placed) (path : List ℕ) → key_of p ≡ Some (path_key path) → (has_path_key p ≡ true) × (path ≡ value_of (codes "path") p.action)
gives_path p path h =
    let has = path_of (sort_of p.action.kind) p path h in
    let same = same_Some (path_key path) (path_key (value_of (codes "path") p.action)) (sym h ∙ path_is p has) in
    (has, ap (λ (k : Key). k.text) same)

-- ---- what stands above paths

abbrev pub HasBelowAt : List Placed → List ℕ → ℕ → Type 0
HasBelowAt placed path i = (below : List ℕ) × (p : Placed) × HasKey placed (path_key below) i p × (is_below path below ≡ true)

abbrev pub AboveTo : List Placed → ℕ → BTreeSet (Vec ℕ Global) → Type 0
AboveTo placed k set = (path : List ℕ) → (has_path set path ≡ true) ↔ ((i : ℕ) × (i < k) × HasBelowAt placed path i)

pub above_more : (placed : List Placed) (k : ℕ) (p : Placed) (old new : BTreeSet (Vec ℕ Global)) → slice_get placed k ≡ Some p → has_path_key p ≡ true → AboveTo placed k old
    → ((path : List ℕ) → (has_path new path ≡ true) ↔ ((has_path old path ≡ true) ⊎ (is_below path (value_of (codes "path") p.action) ≡ true))) → AboveTo placed (k + 1) new
above_more placed k p old new here has so_far adds path = (
  λ w. elim ((adds path).0 w) [
    | inl had ↦ let h = (so_far path).0 had in (h.0, omega (arith, h.1), h.2)
    | inr below ↦ (k, omega arith, (value_of (codes "path") p.action, p, record { here = here; key_is = path_is p has }, below))
  ],
  λ w. elim (below_or_last w.0 k w.1) [
    | inl lt ↦ (adds path).1 (inl ((so_far path).1 (w.0, lt, w.2)))
    | inr same ↦
        let h = w.2 in
        let one : h.1 ≡ p = one_there placed k h.1 p (subst (λ (j : ℕ). slice_get placed j ≡ Some h.1) same h.2.here) here in
        let at : h.0 ≡ value_of (codes "path") p.action = (gives_path h.1 h.0 h.2.key_is).1 ∙ ap (λ (x : Placed). value_of (codes "path") x.action) one in
        (adds path).1 (inr (subst (λ (x : List ℕ). is_below path x ≡ true) at h.3))
  ],
)

pub above_same : (placed : List Placed) (k : ℕ) (p : Placed) (set : BTreeSet (Vec ℕ Global)) → slice_get placed k ≡ Some p → has_path_key p ≡ false → AboveTo placed k set → AboveTo placed (k + 1) set
above_same placed k p set here has so_far path = (
  λ w. let h = (so_far path).0 w in (h.0, omega (arith, h.1), h.2),
  λ w. elim (below_or_last w.0 k w.1) [
    | inl lt ↦ (so_far path).1 (w.0, lt, w.2)
    | inr same ↦
        let h = w.2 in
        let one : h.1 ≡ p = one_there placed k h.1 p (subst (λ (j : ℕ). slice_get placed j ≡ Some h.1) same h.2.here) here in
        absurd (true≢false (sym (gives_path h.1 h.0 h.2.key_is).0 ∙ ap has_path_key one ∙ has))
  ],
)

-- what stands above something marked is marked
pub above_holds : (placed : List Placed) (k : ℕ) (set : BTreeSet (Vec ℕ Global)) → AboveTo placed k set → HoldsAbove set
above_holds placed k set all p q had upper =
    let w = (all q).0 had in
    (all p).1 (w.0, w.1, (w.2.0, w.2.1, w.2.2, below_covers p q w.2.0 upper (and_parts (covers q w.2.0) (not (same_path q w.2.0)) w.2.3).0))

pub above_done : (placed : List Placed) (k : ℕ) (set : BTreeSet (Vec ℕ Global)) → length placed ≤ k → AboveTo placed k set → AreAbove placed set
above_done placed k set le all path = (
  λ w. let h = (all path).0 w in (h.0, h.2.0, h.2.1, h.2.2, h.2.3),
  λ w. (all path).1 (w.0, omega (arith, slice_get_within placed w.0 w.2 w.3.here), (w.1, w.2, w.3, w.4)),
)

-- ---- files that count

-- the file counts among those below a number
pub record CountsTo (placed : List Placed) (k : ℕ) (path : List ℕ) (i : ℕ) : Type 0 where
  pub p : Placed
  pub within : i < k
  pub at : IsFileAt placed path i p
  pub first : (j : ℕ) (q : Placed) → j < k → IsFileAt placed path j q → file_cmp placed i j ≢ Greater

abbrev pub FileTo : List Placed → ℕ → List ℕ → Option ℕ → Type 0
FileTo placed k path found = MatchOption found ((i : ℕ) (p : Placed) → i < k → IsFileAt placed path i p → ⊥) (λ i. CountsTo placed k path i)

abbrev pub FilesTo : List Placed → ℕ → BTreeMap (Vec ℕ Global) ℕ → Type 0
FilesTo placed k files = (path : List ℕ) → FileTo placed k path (place_of files path)

-- the last one is no file at the path
same_file : (placed : List Placed) (k : ℕ) (path : List ℕ) (found : Option ℕ) → ((q : Placed) → IsFileAt placed path k q → ⊥) → FileTo placed k path found → FileTo placed (k + 1) path found
same_file placed k path None not none = λ i p lt at. elim (below_or_last i k lt) [ inl below ↦ none i p below at | inr same ↦ not p (subst (λ (j : ℕ). IsFileAt placed path j p) same at) ]
same_file placed k path (Some i) not h = record {
  p = h.p;
  within = omega (arith, h.within);
  at = h.at;
  first = λ j q lt at. elim (below_or_last j k lt) [ inl below ↦ h.first j q below at | inr same ↦ absurd (not q (subst (λ (n : ℕ). IsFileAt placed path n q) same at)) ];
}

-- the last one is the only file there
only_file : (placed : List Placed) (k : ℕ) (path : List ℕ) (p : Placed) → IsFileAt placed path k p → ((i : ℕ) (q : Placed) → i < k → IsFileAt placed path i q → ⊥) → CountsTo placed (k + 1) path k
only_file placed k path p at none = record {
  p = p;
  within = omega arith;
  at = at;
  first = λ j q lt there. elim (below_or_last j k lt) [ inl below ↦ absurd (none j q below there) | inr same ↦ subst (λ (n : ℕ). file_cmp placed k n ≢ Greater) (sym same) (le_self (file_cmp placed) (file_total placed) k) ];
}

-- the last one comes before the one that counted
new_file : (placed : List Placed) (k : ℕ) (path : List ℕ) (p : Placed) (i : ℕ) → IsFileAt placed path k p → CountsTo placed k path i → file_cmp placed k i ≡ Less → CountsTo placed (k + 1) path k
new_file placed k path p i at h less = record {
  p = p;
  within = omega arith;
  at = at;
  first = λ j q lt there. elim (below_or_last j k lt) [
    | inl below ↦ le_trans (file_cmp placed) (file_total placed) k i j (le_of_less (file_cmp placed) (file_total placed) k i less) (h.first j q below there)
    | inr same ↦ subst (λ (n : ℕ). file_cmp placed k n ≢ Greater) (sym same) (le_self (file_cmp placed) (file_total placed) k)
  ];
}

-- it doesn't
old_file : (placed : List Placed) (k : ℕ) (path : List ℕ) (i : ℕ) → CountsTo placed k path i → (file_cmp placed k i ≡ Less → ⊥) → CountsTo placed (k + 1) path i
old_file placed k path i h not = record {
  p = h.p;
  within = omega (arith, h.within);
  at = h.at;
  first = λ j q lt there. elim (below_or_last j k lt) [
    | inl below ↦ h.first j q below there
    | inr same ↦ subst (λ (n : ℕ). file_cmp placed i n ≢ Greater) (sym same) (le_unless (file_cmp placed) (file_total placed) i k not)
  ];
}

chosen : (placed : List Placed) (k : ℕ) (path : List ℕ) (p : Placed) (before : Option ℕ) → IsFileAt placed path k p → FileTo placed k path before → CountsTo placed (k + 1) path (first_counted placed before k)
chosen placed k path p None at none = only_file placed k path p at none
chosen placed k path p (Some j) at h = go (is_lt (file_cmp placed k j)) refl
  where
    go : (t : Bool) → is_lt (file_cmp placed k j) ≡ t → CountsTo placed (k + 1) path (cond t k j)
    go true e = new_file placed k path p j at h (less_is (file_cmp placed k j) e)
    go false e = old_file placed k path j h (λ less. true≢false (sym (ap is_lt less) ∙ e))

-- a file's key is its path
pub file_path : (p : Placed) → p.action.kind ≡ File → has_path_key p ≡ true
file_path p is = let P : _ → Type 0 = λ k. option_map_or (λ sort. sort_rank sort == 0) (sort_of k) false ≡ true in subst P (sym is) refl

counted_by : (placed : List Placed) (k : ℕ) (p : Placed) (path : List ℕ) (before : Option ℕ) (t : Bool) → is_same path (value_of (codes "path") p.action) ≡ t → slice_get placed k ≡ Some p → p.action.kind ≡ File → FileTo placed k path before
    → FileTo placed (k + 1) path (cond t (Some (first_counted placed before k)) before)
counted_by placed k p path before true same here file h =
    let at : path ≡ value_of (codes "path") p.action = same_true path (value_of (codes "path") p.action) same in
    let key : key_of p ≡ Some (path_key path) = path_is p (file_path p file) ∙ ap (λ (x : List ℕ). Some (path_key x)) (sym at) in
    chosen placed k path p before (record { at = record { here = here; key_is = key }; file = file }) h
counted_by placed k p path before false same here file h =
    same_file placed k path before (λ q at.
    let one : q ≡ p = one_there placed k q p at.at.here here in
    let is : path ≡ value_of (codes "path") p.action = (gives_path q path at.at.key_is).1 ∙ ap (λ (x : Placed). value_of (codes "path") x.action) one in
    true≢false (sym (subst (λ (x : List ℕ). is_same path x ≡ true) is (is_same_self path)) ∙ same)) h

pub files_more : (placed : List Placed) (k : ℕ) (p : Placed) (old new : BTreeMap (Vec ℕ Global) ℕ) → slice_get placed k ≡ Some p → p.action.kind ≡ File → FilesTo placed k old
    → ((path : List ℕ) → place_of new path ≡ winner_after placed (place_of old path) path p k) → FilesTo placed (k + 1) new
files_more placed k p old new here file so_far counts path =
    subst (λ (o : Option ℕ). FileTo placed (k + 1) path o) (sym (counts path)) (counted_by placed k p path (place_of old path) (is_same path (value_of (codes "path") p.action)) refl here file (so_far path))

pub files_same : (placed : List Placed) (k : ℕ) (p : Placed) (files : BTreeMap (Vec ℕ Global) ℕ) → slice_get placed k ≡ Some p → (p.action.kind ≡ File → ⊥) → FilesTo placed k files → FilesTo placed (k + 1) files
files_same placed k p files here not so_far path =
    same_file placed k path (place_of files path) (λ q at. let one : q ≡ p = one_there placed k q p at.at.here here in not (ap (λ (x : Placed). x.action.kind) (sym one) ∙ at.file)) (so_far path)

pub files_within : (placed : List Placed) (k n : ℕ) (files : BTreeMap (Vec ℕ Global) ℕ) (path : List ℕ) → k ≤ n → FilesTo placed k files → IfSome (place_of files path) (λ j. j < n)
files_within placed k n files path le all = go (place_of files path) (all path)
  where
    go : (o : Option ℕ) → FileTo placed k path o → IfSome o (λ j. j < n)
    go None h = tt
    go (Some i) h = omega (arith, h.within)

pub files_done : (placed : List Placed) (k : ℕ) (files : BTreeMap (Vec ℕ Global) ℕ) → length placed ≤ k → FilesTo placed k files → AreFiles placed files
files_done placed k files le all path = go (place_of files path) (all path)
  where
    go : (o : Option ℕ) → FileTo placed k path o → MatchOption o ((i : ℕ) (p : Placed) → IsFileAt placed path i p → ⊥) (λ i. (p : Placed) × Counts placed path i p)
    go None none = λ i p at. none i p (omega (arith, slice_get_within placed i p at.at.here)) at
    go (Some i) h = (h.p, record { at = h.at; first = λ j q at. h.first j q (omega (arith, slice_get_within placed j q at.at.here)) at })

-- ---- at the start

pub groups_none : (placed : List Placed) (groups : Groups) → groups.entries ≡ [] → GroupsTo placed 0 groups
groups_none placed groups e text i = (λ w. absurd (nothing (places_at groups text) (ap (λ (es : _). option_map_or (λ g. g.items) (lookup (λ k. is_eq (slice_cmp nat_cmp text (string_bytes k))) es) []) e) w), λ w. absurd (omega (arith, w.0)))
  where
    nothing : (l : List ℕ) → l ≡ [] → Contains l i → ⊥
    nothing l none w = omega (arith, w.1, ap length none)

pub above_none : (placed : List Placed) (set : BTreeSet (Vec ℕ Global)) → set.keys ≡ [] → AboveTo placed 0 set
above_none placed set e path = (λ w. absurd (true≢false (sym w ∙ ap (λ (ks : _). list_any (λ k. is_same path k.items) ks) e)), λ w. absurd (omega (arith, w.1)))

pub files_none : (placed : List Placed) (files : BTreeMap (Vec ℕ Global) ℕ) → files.entries ≡ [] → FilesTo placed 0 files
files_none placed files e path =
    subst (λ (o : Option ℕ). FileTo placed 0 path o) (sym (ap (λ (es : _). lookup (λ k. is_same path k.items) es) e)) (λ i p lt at. omega (arith, lt))

-- ---- one more place at a text

pub text_is : (p : Placed) (sort : Sort) (text q : List ℕ) → sort_of p.action.kind ≡ Some sort → text ≡ text_of sort p → has_text p q ≡ is_same text q
text_is p sort text q is e =
    ap (λ (o : Option Sort). option_eq is_same (option_map (λ k. k.text) (option_map (λ s. let k : Key = record { sort = s; text = text_of s p } in k) o)) (Some q)) is ∙ ap (λ (t : List ℕ). is_same t q) (sym e)

pub no_text : (p : Placed) (q : List ℕ) → sort_of p.action.kind ≡ None → has_text p q ≡ false
no_text p q is = ap (λ (o : Option Sort). option_eq is_same (option_map (λ k. k.text) (option_map (λ s. let k : Key = record { sort = s; text = text_of s p } in k) o)) (Some q)) is

-- ---- the first of two files

pub file_rank_at : (placed : List Placed) (i : ℕ) (p : Placed) → slice_get placed i ≡ Some p → file_rank placed i ≡ cond (takes_place p.action) 0 1
file_rank_at placed i p here = ap (λ (o : Option Placed). option_map_or (λ x. cond (takes_place x.action) 0 1) o 1) here

same_bool : (a b : Bool) → not (beq a b) ≡ false → a ≡ b
same_bool true true e = refl
same_bool true false e = absurd (true≢false e)
same_bool false true e = absurd (true≢false e)
same_bool false false e = refl

-- two files that say the same of places go by their own
pub by_places : (placed : List Placed) (i j : ℕ) (p q : Placed) (a b : Bool) → slice_get placed i ≡ Some p → slice_get placed j ≡ Some q → a ≡ takes_place p.action → b ≡ takes_place q.action → not (beq a b) ≡ false → file_cmp placed i j ≡ place_cmp placed i j
by_places placed i j p q a b hi hj ea eb same =
    let ranks : file_rank placed i ≡ file_rank placed j = file_rank_at placed i p hi ∙ ap (λ (t : Bool). cond t 0 1) (sym ea ∙ same_bool a b same ∙ eb) ∙ sym (file_rank_at placed j q hj) in
    ap (λ (n : ℕ). ordering_then (nat_cmp (file_rank placed i) n) (place_cmp placed i j)) (sym ranks) ∙ ap (λ (o : Ordering). ordering_then o (place_cmp placed i j)) (tied_itself nat_cmp_total (file_rank placed i))

-- ---- a place is put behind those at a text

pub put_is : (old new : Groups) (text places : List ℕ) (kept : Vec ℕ Global) → kept.items ≡ places → ((q : List ℕ) → get_by_text new q ≡ cond (is_same text q) (Some kept) (get_by_text old q))
    → (q : List ℕ) → places_at new q ≡ cond (is_same text q) places (places_at old q)
put_is old new text places kept items inserted q = go (is_same text q) (inserted q)
  where
    go : (t : Bool) → get_by_text new q ≡ cond t (Some kept) (get_by_text old q) → places_at new q ≡ cond t places (places_at old q)
    go true e = ap (λ (o : _). option_map_or (λ g. g.items) o []) e ∙ items
    go false e = ap (λ (o : _). option_map_or (λ g. g.items) o []) e

-- the place is the first at its text, or stands behind the others there
pub put_first : (text q before : List ℕ) (i : ℕ) (old : Groups) → places_at old text ≡ before → cond (is_same text q) (before ++ i ∷ []) (places_at old q) ≡ cond (is_same text q) (places_at old q ++ i ∷ []) (places_at old q)
put_first text q before i old is = go (is_same text q) refl
  where
    go : (t : Bool) → is_same text q ≡ t → cond t (before ++ i ∷ []) (places_at old q) ≡ cond t (places_at old q ++ i ∷ []) (places_at old q)
    go true same = ap (λ (l : List ℕ). l ++ i ∷ []) (sym is ∙ ap (places_at old) (same_true text q same))
    go false same = refl

-- what is found at a path once a file is counted
pub counts_as : (placed : List Placed) (files : BTreeMap (Vec ℕ Global) ℕ) (q path : List ℕ) (item : Placed) (i first : ℕ) → path ≡ value_of (codes "path") item.action → first ≡ first_counted placed (place_of files path) i
    → cond (is_same q path) (Some first) (place_of files q) ≡ winner_after placed (place_of files q) q item i
counts_as placed files q path item i first at is = ap (λ (p : List ℕ). cond (is_same q p) (Some first) (place_of files q)) at ∙ go (is_same q (value_of (codes "path") item.action)) refl
  where
    go : (t : Bool) → is_same q (value_of (codes "path") item.action) ≡ t → cond t (Some first) (place_of files q) ≡ cond t (Some (first_counted placed (place_of files q) i)) (place_of files q)
    go true same = ap (λ (n : ℕ). Some n) (is ∙ ap (λ (p : List ℕ). first_counted placed (place_of files p) i) (at ∙ sym (same_true q (value_of (codes "path") item.action) same)))
    go false same = refl

-- the path that is marked, under its name
pub marks_at : (old new : BTreeSet (Vec ℕ Global)) (path at : List ℕ) → path ≡ at → ((p : List ℕ) → (has_path new p ≡ true) ↔ ((has_path old p ≡ true) ⊎ (is_below p path ≡ true)))
    → (p : List ℕ) → (has_path new p ≡ true) ↔ ((has_path old p ≡ true) ⊎ (is_below p at ≡ true))
marks_at old new path at e adds = subst (λ (v : List ℕ). (p : List ℕ) → (has_path new p ≡ true) ↔ ((has_path old p ≡ true) ⊎ (is_below p v ≡ true))) e adds
