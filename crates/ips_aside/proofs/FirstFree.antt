-- Names with a suffix put on again and again, and names that are taken.
use Rattle.std.proofs.Common.{◌≡◌, ◌⊎◌, ℕ, zero, suc, ◌+◌, ◌<◌, Bool, true, false, ◌||◌, ◌==◌, List, [], ◌∷◌, ◌++◌, cond, map, take, length, get_or, Vec, Global, inl, inr, refl, sym, ◌∙◌, ap, subst, arith}
use Rattle.std.specs.Prelude.{◌↔◌}
use Rattle.std.specs.BTreeSet.{BTreeSet}
use Rattle.std.proofs.Math.Numerals.{add-one}
use Rattle.std.proofs.lemmas.Bool.{and_parts, eqb-false, eqb-true, or_left, or_right}
use Rattle.std.proofs.lemmas.List.{map-append}
use Rattle.std.proofs.lemmas.List.Folds.{list_any-append}
use Rattle.ips_text.specs.Ancestry.{covers}
use Rattle.ips_text.proofs.Ancestry.{covers_trans}
use Rattle.ips_text.proofs.Lists.{map_item, take_item}
use Rattle.ips_text.proofs.Truths.{or_false}
use Rattle.ips_after.specs.Salvage.{with_suffix}
use Rattle.ips_conflict.specs.Index.{HoldsAbove, has_path}
use Rattle.ips_found.specs.Found.{thing_paths}
use Rattle.ips_found.specs.declared.found.Thing.{Thing}
use Rattle.ips_aside.specs.declared.sides.side.Side.{Side}
use Rattle.ips_aside.specs.sides.Sides.{ending_of}
use Rattle.ips_aside.specs.declared.lost.Lost.{Lost}
use Rattle.ips_aside.specs.declared.lost.LostName.{LostName}
use Rattle.ips_aside.specs.Lost.{AreFirstFree, IsFirstFree, IsMarked, first_name_of, folder_paths, in_folder, is_lost_name, is_taken, lost_of, lost_seen, names_of}

-- ---- one suffix more

suffix_more : (n : ℕ) (s x : List ℕ) → with_suffix (suc n) s x ≡ with_suffix n s x ++ s
suffix_more zero s x = refl
suffix_more (suc n) s x = suffix_more n s (x ++ s)

-- the name after one turn more
grown_name : (n : ℕ) (s start name new : List ℕ) → name ≡ with_suffix n s start → new ≡ name ++ s → new ≡ with_suffix (n + 1) s start
grown_name n s start name new is more = rw add-one (more ∙ ap (λ (l : List ℕ). l ++ s) is ∙ sym (suffix_more n s start))

-- all names so far are taken
taken_more : (test : List ℕ → Bool) (n : ℕ) (s start name : List ℕ) → name ≡ with_suffix n s start → test name ≡ true → ((k : ℕ) → k < n → test (with_suffix k s start) ≡ true) → (k : ℕ) → k < n + 1 → test (with_suffix k s start) ≡ true
taken_more test n s start name is here before k less = go (k == n) refl
  where
    go : (b : Bool) → (k == n) ≡ b → test (with_suffix k s start) ≡ true
    go true e = ap (λ (m : ℕ). test (with_suffix m s start)) (eqb-true k n e) ∙ ap test (sym is) ∙ here
    go false e = before k (omega (arith, less, eqb-false k n e))

-- The name is the suffix put on so many times, and all names before it pass the test.
pub record IsTried (test : List ℕ → Bool) (s start name : List ℕ) : Type 0 where
  pub times : ℕ
  pub is : name ≡ with_suffix times s start
  pub first : (k : ℕ) → k < times → test (with_suffix k s start) ≡ true

pub tried_none : (test : List ℕ → Bool) (s start : List ℕ) → IsTried test s start start
tried_none test s start = record { times = 0; is = refl; first = λ k less. absurd (omega (arith, less)) }

pub tried_more : (test : List ℕ → Bool) (s start name new : List ℕ) → IsTried test s start name → new ≡ name ++ s → test name ≡ true → IsTried test s start new
tried_more test s start name new so_far more taken = record {
  times = so_far.times + 1;
  is = grown_name so_far.times s start name new so_far.is more;
  first = taken_more test so_far.times s start name so_far.is taken so_far.first;
}

pub tried_free : (test : List ℕ → Bool) (s start name : List ℕ) → IsTried test s start name → test name ≡ false → IsFirstFree test s start name
tried_free test s start name so_far free = record { times = so_far.times; is = so_far.is; free = free; first = so_far.first }

-- ---- names that are marked with all above them

taken_above : (names : List (List ℕ)) (p q : List ℕ) → is_taken names q ≡ true → covers p q ≡ true → is_taken names p ≡ true
taken_above [] p q taken up = cc
taken_above (n ∷ names) p q taken up = go (covers q n) refl taken (λ h. taken_above names p q h up)
  where
    go : (b : Bool) → covers q n ≡ b → (b || is_taken names q) ≡ true → (is_taken names q ≡ true → is_taken names p ≡ true) → (covers p n || is_taken names p) ≡ true
    go true e h rest = or_left (covers p n) (is_taken names p) (covers_trans p q n up e)
    go false e h rest = or_right (covers p n) (is_taken names p) (rest h)

pub marks_above : (set : BTreeSet (Vec ℕ Global)) (names : List (List ℕ)) → IsMarked set names → HoldsAbove set
marks_above set names marked p q had below = marked p ∙ taken_above names p q (sym (marked q) ∙ had) (and_parts (covers p q) _ below).0

pub either_is : (a b c : Bool) → (a ≡ true) ↔ ((b ≡ true) ⊎ (c ≡ true)) → a ≡ (b || c)
either_is true true c both = refl
either_is true false true both = refl
either_is true false false both = elim (both.0 refl) [ inl e ↦ cc | inr e ↦ cc ]
either_is false true c both = both.1 (inl refl)
either_is false false true both = both.1 (inr refl)
either_is false false false both = refl

taken_one : (names : List (List ℕ)) (n q : List ℕ) → is_taken (names ++ n ∷ []) q ≡ (is_taken names q || covers q n)
taken_one names n q = list_any-append (covers q) names (n ∷ []) ∙ ap (λ (b : Bool). is_taken names q || b) (sym (or_false (covers q n)))

pub marked_more : (old new : BTreeSet (Vec ℕ Global)) (names : List (List ℕ)) (n m : List ℕ) → m ≡ n → ((p : List ℕ) → (has_path new p ≡ true) ↔ ((has_path old p ≡ true) ⊎ (covers p m ≡ true))) → IsMarked old names → IsMarked new (names ++ n ∷ [])
marked_more old new names n m same more marked q =
    either_is (has_path new q) (has_path old q) (covers q m) (more q) ∙ ap (λ (b : Bool). b || covers q m) (marked q) ∙ ap (λ (l : List ℕ). is_taken names q || covers q l) same ∙ sym (taken_one names n q)

-- ---- one name after another

pub assoc : {A : Type 0} (a b c : List A) → (a ++ b) ++ c ≡ a ++ (b ++ c)
assoc [] b c = refl
assoc (x ∷ a) b c = ap (λ (l : List _). x ∷ l) (assoc a b c)

pub none_behind : (a : List (List ℕ)) → a ++ [] ≡ a
none_behind [] = refl
none_behind (x ∷ a) = ap (λ (l : List (List ℕ)). x ∷ l) (none_behind a)

pub free_more : (root : List ℕ) (before : List (List ℕ)) (names : List LostName) (x : LostName) → AreFirstFree root before names
    → IsFirstFree (is_taken (before ++ names_of names)) (ending_of x.put) (first_name_of root x.path.now.bytes x.put) x.name.items → AreFirstFree root before (names ++ x ∷ [])
free_more root before [] x are one = (subst (λ (l : List (List ℕ)). IsFirstFree (is_taken l) (ending_of x.put) (first_name_of root x.path.now.bytes x.put) x.name.items) (none_behind before) one, tt)
free_more root before (y ∷ names) x are one = (
  are.0,
  free_more root (before ++ y.name.items ∷ []) names x are.1
      (subst (λ (l : List (List ℕ)). IsFirstFree (is_taken l) (ending_of x.put) (first_name_of root x.path.now.bytes x.put) x.name.items) (sym (assoc before (y.name.items ∷ []) (names_of names))) one),
)

-- a test that says the same
pub free_as : (f g : List ℕ → Bool) (s start name : List ℕ) → ((q : List ℕ) → f q ≡ g q) → IsFirstFree f s start name → IsFirstFree g s start name
free_as f g s start name same one = record {
  times = one.times;
  is = one.is;
  free = sym (same name) ∙ one.free;
  first = λ n less. sym (same (with_suffix n s start)) ∙ one.first n less;
}

-- ---- things and files, one more

pub one_thing : (root : List ℕ) (things : List Thing) (i : ℕ) (x : Thing) → i < length things → x ≡ get_or things i x
    → folder_paths root (thing_paths (take (i + 1) things)) ≡ folder_paths root (thing_paths (take i things)) ++ in_folder root x.path.bytes ∷ []
one_thing root things i x lt is = ap (map (in_folder root)) (map_item (λ (y : Thing). y.path.bytes) things i x lt is) ∙ map-append (in_folder root) (thing_paths (take i things)) (x.path.bytes ∷ [])

pub lost_more : (front : List Side) (s : Side) → lost_of (front ++ s ∷ []) ≡ lost_of front ++ lost_of (s ∷ [])
lost_more [] s = refl
lost_more (x ∷ front) s = go (is_lost_name x.name) (lost_more front s)
  where
    go : (b : Bool) → lost_of (front ++ s ∷ []) ≡ lost_of front ++ lost_of (s ∷ [])
        → cond b (record { path = x.path; put = x.put } ∷ lost_of (front ++ s ∷ [])) (lost_of (front ++ s ∷ [])) ≡ cond b (record { path = x.path; put = x.put } ∷ lost_of front) (lost_of front) ++ lost_of (s ∷ [])
    go true rest = ap (λ (l : List Lost). record { path = x.path; put = x.put } ∷ l) rest
    go false rest = rest

-- ---- names so far

pub seen_none : (names : List LostName) → names ≡ [] → map lost_seen names ≡ []
seen_none names none = ap (map lost_seen) none

pub marked_none : (set : BTreeSet (Vec ℕ Global)) (before : List (List ℕ)) (names : List LostName) → names ≡ [] → IsMarked set before → IsMarked set (before ++ names_of names)
marked_none set before names none marked = subst (IsMarked set) (sym (ap (λ (l : List LostName). before ++ names_of l) none ∙ none_behind before)) marked

pub free_none : (root : List ℕ) (before : List (List ℕ)) (names : List LostName) → names ≡ [] → AreFirstFree root before names
free_none root before names none = subst (AreFirstFree root before) (sym none) tt

pub marked_names : (old new : BTreeSet (Vec ℕ Global)) (before : List (List ℕ)) (names more : List LostName) (x : LostName) (m : List ℕ) → more ≡ names ++ x ∷ [] → m ≡ x.name.items
    → ((p : List ℕ) → (has_path new p ≡ true) ↔ ((has_path old p ≡ true) ⊎ (covers p m ≡ true))) → IsMarked old (before ++ names_of names) → IsMarked new (before ++ names_of more)
marked_names old new before names more x m is same both marked =
    subst (IsMarked new) (assoc before (names_of names) (x.name.items ∷ []) ∙ ap (λ (l : List (List ℕ)). before ++ l) (sym (ap names_of is ∙ map-append (λ (y : LostName). y.name.items) names (x ∷ []))))
    (marked_more old new (before ++ names_of names) x.name.items m same both marked)

pub gathered : (sides : List Side) (i : ℕ) (s : Side) (old mid new : List Lost) → i < length sides → s ≡ get_or sides i s → mid ≡ old ++ lost_of (take i sides) → new ≡ mid ++ lost_of (s ∷ []) → new ≡ old ++ lost_of (take (i + 1) sides)
gathered sides i s old mid new lt is before one =
    one ∙ ap (λ (l : List Lost). l ++ lost_of (s ∷ [])) before ∙ assoc old (lost_of (take i sides)) (lost_of (s ∷ []))
    ∙ ap (λ (l : List Lost). old ++ l) (sym (ap lost_of (take_item sides i s lt is) ∙ lost_more (take i sides) s))
