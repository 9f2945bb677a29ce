-- The earliest of the places that pass a test.
use Rattle.std.proofs.Common.{◌≡◌, ◌≢◌, ◌==◌, ◌&&◌, ℕ, ◌+◌, ◌<◌, ◌≤◌, Bool, true, false, not, cond, List, [], ◌∷◌, ◌++◌, length, get_or, take, Option, Some, None, refl, sym, ap, subst, ◌∙◌, inl, inr, arith}
use Rattle.std.specs.Prelude.{slice_get, nat_lt}
use Rattle.std.specs.List.{Contains}
use Rattle.std.specs.Option.{ForSome}
use Rattle.std.specs.Ordering.{is_lt, nat_cmp}
use Rattle.std.specs.declared.cmp.Ordering.TheVariants.{Equal, Greater}
use Rattle.std.proofs.lemmas.Bool.{true≢false, not-true, not_from_false, false_from_ne_true}
use Rattle.std.proofs.lemmas.Option.{same_Some}
use Rattle.ips_text.specs.Ancestry.{same_path}
use Rattle.ips_action.specs.Attrs.{is_same}
use Rattle.std.proofs.lemmas.List.{take_more, take_all}
use Rattle.std.proofs.lemmas.List.Elements.{Contains-append_left, Contains-push, Contains-push_cases}
use Rattle.ips_action.specs.declared.kind.ActionKind.{ActionKind}
use Rattle.ips_action.specs.declared.kind.ActionKind.TheVariants.{Set, Depend, Dir, File, Link, Hardlink, User, Group, Driver, License, Legacy, Signature}
use Rattle.ips_action.specs.Action.{Fields}
use Rattle.ips_conflict.specs.declared.placed.Placed.{Placed}
use Rattle.ips_conflict.specs.declared.placed.Sort.{Sort}
use Rattle.ips_conflict.specs.Key.{sort_of}
use Rattle.ips_conflict.specs.Order.{place_cmp}
use Rattle.ips_conflict.specs.Alike.{kind_place, led_to}
use Rattle.ips_conflict.specs.Verdict.{HasPlace}
use Rattle.ips_conflict.specs.declared.earliest.Test.{Test}
use Rattle.ips_conflict.specs.Clash.{Counts, HasSureFile, LeadsToFile, file_cmp, may_be_missing}
use Rattle.ips_conflict.specs.Search.{IsEarliest, MeetsTest, Passes, earlier_of}
use Rattle.ips_conflict.proofs.Places.{one_there}
use Rattle.ips_conflict.proofs.Ordered.{place_total, file_total, le_trans, le_of_less, le_self, le_unless, less_le, le_cases}
use Rattle.ips_text.proofs.Orders.{less_is, last_tie, number_tie}

-- ---- of the first members

-- the earliest of these members that has M
abbrev pub FoundIn : List Placed → (ℕ → Type 0) → List ℕ → Option ℕ → Type 0
FoundIn placed M members found = IsEarliest placed (λ j. Contains members j × M j) found

pub found_none : (placed : List Placed) (M : ℕ → Type 0) → FoundIn placed M [] None
found_none placed M j w = omega (arith, w.0.1)

found_push : (placed : List Placed) (M : ℕ → Type 0) (members : List ℕ) (found : Option ℕ) (j : ℕ) → M j → FoundIn placed M members found → FoundIn placed M (members ++ j ∷ []) (Some (earlier_of placed found j))
found_push placed M members None j m none = (
  (Contains-push members j, m),
  λ k w. elim (Contains-push_cases members j k w.0) [ inl had ↦ absurd (none k (had, w.1)) | inr same ↦ subst (λ (n : ℕ). place_cmp placed j n ≢ Greater) same (le_self (place_cmp placed) (place_total placed) j) ],
)
found_push placed M members (Some i) j m h = go (is_lt (place_cmp placed j i)) refl
  where
    go : (t : Bool) → is_lt (place_cmp placed j i) ≡ t → FoundIn placed M (members ++ j ∷ []) (Some (cond t j i))
    go true e =
        let less = less_is (place_cmp placed j i) e in (
          (Contains-push members j, m),
          λ k w. elim (Contains-push_cases members j k w.0) [
            | inl had ↦ le_trans (place_cmp placed) (place_total placed) j i k (le_of_less (place_cmp placed) (place_total placed) j i less) (h.1 k (had, w.1))
            | inr same ↦ subst (λ (n : ℕ). place_cmp placed j n ≢ Greater) same (le_self (place_cmp placed) (place_total placed) j)
          ],
        )
    go false e = (
      (Contains-append_left members (j ∷ []) i h.0.0, h.0.1),
      λ k w. elim (Contains-push_cases members j k w.0) [
        | inl had ↦ h.1 k (had, w.1)
        | inr same ↦ subst (λ (n : ℕ). place_cmp placed i n ≢ Greater) same (le_unless (place_cmp placed) (place_total placed) i j (λ less. true≢false (sym (ap is_lt less) ∙ e)))
      ],
    )

found_pass : (placed : List Placed) (M : ℕ → Type 0) (members : List ℕ) (found : Option ℕ) (j : ℕ) → (M j → ⊥) → FoundIn placed M members found → FoundIn placed M (members ++ j ∷ []) found
found_pass placed M members None j not none = λ k w. elim (Contains-push_cases members j k w.0) [ inl had ↦ none k (had, w.1) | inr same ↦ not (subst M (sym same) w.1) ]
found_pass placed M members (Some i) j not h = (
  (Contains-append_left members (j ∷ []) i h.0.0, h.0.1),
  λ k w. elim (Contains-push_cases members j k w.0) [ inl had ↦ h.1 k (had, w.1) | inr same ↦ absurd (not (subst M (sym same) w.1)) ],
)

next_member : (members : List ℕ) (k j : ℕ) → k < length members → j ≡ get_or members k 0 → take k members ++ j ∷ [] ≡ take (k + 1) members
next_member members k j lt e = ap (λ (n : ℕ). take k members ++ n ∷ []) e ∙ sym (take_more members k 0 lt)

pub found_more : (placed : List Placed) (M : ℕ → Type 0) (members : List ℕ) (found : Option ℕ) (k j : ℕ) → k < length members → j ≡ get_or members k 0 → M j → FoundIn placed M (take k members) found → FoundIn placed M (take (k + 1) members) (Some (earlier_of placed found j))
found_more placed M members found k j lt e m h = subst (λ (l : List ℕ). FoundIn placed M l (Some (earlier_of placed found j))) (next_member members k j lt e) (found_push placed M (take k members) found j m h)

pub found_same : (placed : List Placed) (M : ℕ → Type 0) (members : List ℕ) (found : Option ℕ) (k j : ℕ) → k < length members → j ≡ get_or members k 0 → (M j → ⊥) → FoundIn placed M (take k members) found → FoundIn placed M (take (k + 1) members) found
found_same placed M members found k j lt e not h = subst (λ (l : List ℕ). FoundIn placed M l found) (next_member members k j lt e) (found_pass placed M (take k members) found j not h)

pub found_done : (placed : List Placed) (M : ℕ → Type 0) (members : List ℕ) (found : Option ℕ) (k : ℕ) → length members ≤ k → FoundIn placed M (take k members) found → FoundIn placed M members found
found_done placed M members found k le h = subst (λ (l : List ℕ). FoundIn placed M l found) (take_all k members le) h

pub earlier_within : (placed : List Placed) (n : ℕ) (found : Option ℕ) (j : ℕ) → ForSome found (λ i. i < n) → j < n → earlier_of placed found j < n
earlier_within placed n None j w lt = lt
earlier_within placed n (Some i) j w lt = go (is_lt (place_cmp placed j i))
  where
    go : (t : Bool) → cond t j i < n
    go true = lt
    go false = w i refl

-- ---- kinds that have keys

pub keyed_place : (kind : ActionKind) (sort : Sort) → sort_of kind ≡ Some sort → nat_lt (kind_place kind) 9 ≡ true
keyed_place Set sort e = absurd cc
keyed_place Depend sort e = absurd cc
keyed_place Dir sort e = refl
keyed_place File sort e = refl
keyed_place Link sort e = refl
keyed_place Hardlink sort e = refl
keyed_place User sort e = refl
keyed_place Group sort e = refl
keyed_place Driver sort e = refl
keyed_place License sort e = refl
keyed_place Legacy sort e = refl
keyed_place Signature sort e = absurd cc

-- ---- one file counts

file_tie : (placed : List Placed) (i j : ℕ) → file_cmp placed i j ≡ Equal → i ≡ j
file_tie placed i j e = number_tie i j (last_tie _ (nat_cmp i j) (last_tie _ (place_cmp placed i j) e))

pub one_counts : (placed : List Placed) (path : List ℕ) (i j : ℕ) (p q : Placed) → Counts placed path i p → Counts placed path j q → i ≡ j
one_counts placed path i j p q a b =
    elim (le_cases (file_cmp placed) (file_total placed) i j (a.first j q b.at)) [
      | inl less ↦ absurd (b.first i p a.at (less_le (file_cmp placed) (file_total placed) i j less))
      | inr tie ↦ file_tie placed i j tie
    ]

-- what the file that counts tells
pub sure_by : (placed : List Placed) (path : List ℕ) (i : ℕ) (p : Placed) (missing : Bool) → Counts placed path i p → missing ≡ may_be_missing p.action → (missing ≡ false → HasSureFile placed path) × (HasSureFile placed path → missing ≡ false)
sure_by placed path i p missing counts is = (
  λ e. record { i = i; p = p; counts = counts; sure = sym is ∙ e },
  λ h.
      let same : i ≡ h.i = one_counts placed path i h.i p h.p counts h.counts in
      let one : p ≡ h.p = one_there placed i p h.p counts.at.at.here (subst (λ (n : ℕ). slice_get placed n ≡ Some h.p) (sym same) h.counts.at.at.here) in
      is ∙ ap (λ (x : Placed). may_be_missing x.action) one ∙ h.sure,
)

-- a hardlink that leads to this path is lost where no sure file is there
pub lost_is : (placed : List Placed) (action : Fields) (end at : List ℕ) (sure : Bool) → led_to action ≡ Some end → at ≡ end → (sure ≡ true → HasSureFile placed at) → (HasSureFile placed at → sure ≡ true)
    → (not sure ≡ true → LeadsToFile placed action → ⊥) × ((LeadsToFile placed action → ⊥) → not sure ≡ true)
lost_is placed action end at sure led same to from = (
  λ is l.
      let here : l.path ≡ at = same_Some l.path end (sym l.led ∙ led) ∙ sym same in
      true≢false (sym (from (subst (HasSureFile placed) here l.file)) ∙ not-true sure is),
  λ lost. not_from_false sure (false_from_ne_true sure (λ is. lost (record { path = end; led = led; file = subst (HasSureFile placed) same (to is) }))),
)

pub not_missing : (missing : Bool) (F : Type 0) → (missing ≡ false → F) × (F → missing ≡ false) → (not missing ≡ true → F) × (F → not missing ≡ true)
not_missing missing F h = (λ is. h.0 (not-true missing is), λ f. not_from_false missing (h.1 f))

-- two spellings of one test
pub same_path_is : (p q : List ℕ) → is_same p q ≡ same_path p q
same_path_is [] [] = refl
same_path_is [] (b ∷ q) = refl
same_path_is (a ∷ p) [] = refl
same_path_is (a ∷ p) (b ∷ q) = ap (λ (x : Bool). (a == b) && x) (same_path_is p q)

-- ---- what is met

pub within_more : (placed : List Placed) (n : ℕ) (found : Option ℕ) (j : ℕ) → ForSome found (λ i. i < n) → j < n → ForSome (Some (earlier_of placed found j)) (λ i. i < n)
within_more placed n found j w lt x e = let same = same_Some (earlier_of placed found j) x e in subst (λ (i : ℕ). i < n) same (earlier_within placed n found j w lt)

pub meets_is : (placed : List Placed) (sort : Sort) (test : Test) (j : ℕ) (item : Placed) (r : Bool) → slice_get placed j ≡ Some item → sort_of item.action.kind ≡ Some sort → (r ≡ true → Passes placed test j item) → (Passes placed test j item → r ≡ true)
    → (r ≡ true → MeetsTest placed sort test j) × (MeetsTest placed sort test j → r ≡ true)
meets_is placed sort test j item r here of_sort to from = (
  λ is. record { p = item; here = here; of_sort = of_sort; passes = to is },
  λ m. from (let P : Placed → Type 0 = λ p. Passes placed test j p in subst P (one_there placed j m.p item m.here here) m.passes),
)

pub not_of_sort : (placed : List Placed) (sort : Sort) (test : Test) (j : ℕ) (item : Placed) → slice_get placed j ≡ Some item → (sort_of item.action.kind ≡ Some sort → ⊥) → MeetsTest placed sort test j → ⊥
not_of_sort placed sort test j item here not m = not (subst (λ (p : Placed). sort_of p.action.kind ≡ Some sort) (one_there placed j m.p item m.here here) m.of_sort)

pub has_place_there : (placed : List Placed) (j : ℕ) (item : Placed) (sort : Sort) → slice_get placed j ≡ Some item → sort_of item.action.kind ≡ Some sort → HasPlace placed j
has_place_there placed j item sort here of_sort = (item, here, keyed_place item.action.kind sort of_sort)
