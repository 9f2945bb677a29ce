-- The action that tells the owner of a path, one more action at a time.
use Rattle.std.proofs.Common.{◌≡◌, ◌&&◌, Bool, true, false, cond, not, ℕ, List, [], ◌∷◌, ◌++◌, Vec, Global, Option, Some, None, nat_cmp, refl, sym, ap, ap₂, subst, ◌∙◌}
use Rattle.std.specs.Prelude.{IfSome}
use Rattle.std.specs.Map.{lookup}
use Rattle.std.specs.BTreeMap.{insert_entry}
use Rattle.std.specs.List.{find, AllByRecursion}
use Rattle.std.specs.Option.{option_or}
use Rattle.std.specs.Cmp.Lexicographic.{slice_cmp}
use Rattle.std.proofs.lemmas.Bool.{and_parts, and_right}
use Rattle.std.proofs.lemmas.List.Folds.{find-append}
use Rattle.std.proofs.lemmas.Option.{none-some, same_Some}
use Rattle.ips_text.specs.Path.{IsPath}
use Rattle.ips_action.specs.Attrs.{is_same}
use Rattle.ips_action.proofs.KeyOrder.{same_self, same_true}
use Rattle.ips_conflict.specs.declared.placed.Placed.{Placed}
use Rattle.ips_conflict.specs.Alike.{has_mode, takes_place}
use Rattle.ips_conflict.proofs.Kept.{found_insert}
use Rattle.ips_delivered.specs.delivered.Delivering.{owned_path, owning, owns, owns_first}
use Rattle.ips_delivered.specs.delivered.Kept.{PathOwners, owner_at, owner_of_two, owner_with}

-- ---- what is found

first_takes : (path : List ℕ) (xs : List Placed) (first : Placed) → find (owns_first path) xs ≡ Some first → takes_place first.action ≡ true
first_takes path [] first is = absurd (none-some first is)
first_takes path (x ∷ xs) first is = go (owns path x) (takes_place x.action) refl (first_takes path xs first) is
  where
    go : (o t : Bool) → takes_place x.action ≡ t → (find (owns_first path) xs ≡ Some first → takes_place first.action ≡ true) → cond (o && t) (Some x) (find (owns_first path) xs) ≡ Some first → takes_place first.action ≡ true
    go true true takes later is = ap (λ (p : Placed). takes_place p.action) (sym (same_Some x first is)) ∙ takes
    go true false takes later is = later is
    go false t takes later is = later is

first_leaves : (path : List ℕ) (xs : List Placed) (first : Placed) → find (owns_first path) xs ≡ None → find (owns path) xs ≡ Some first → takes_place first.action ≡ false
first_leaves path [] first none is = absurd (none-some first is)
first_leaves path (x ∷ xs) first none is = go (owns path x) (takes_place x.action) refl (first_leaves path xs first) none is
  where
    go : (o t : Bool) → takes_place x.action ≡ t → (find (owns_first path) xs ≡ None → find (owns path) xs ≡ Some first → takes_place first.action ≡ false) → cond (o && t) (Some x) (find (owns_first path) xs) ≡ None → cond o (Some x) (find (owns path) xs) ≡ Some first → takes_place first.action ≡ false
    go true true takes later none is = absurd (none-some x (sym none))
    go true false takes later none is = ap (λ (p : Placed). takes_place p.action) (sym (same_Some x first is)) ∙ takes
    go false t takes later none is = later none is

pub one_more : (path : List ℕ) (xs : List Placed) (p : Placed) → owning (xs ++ p ∷ []) path ≡ owner_with path (owning xs path) p
one_more path xs p =
    ap₂ (λ (a b : Option Placed). option_or a b) (find-append (owns_first path) xs (p ∷ [])) (find-append (owns path) xs (p ∷ []))
    ∙ go (find (owns_first path) xs) refl (find (owns path) xs) refl (owns path p) (takes_place p.action) refl
  where
    go : (a : Option Placed) → find (owns_first path) xs ≡ a → (b : Option Placed) → find (owns path) xs ≡ b → (o t : Bool) → takes_place p.action ≡ t
        → option_or (option_or a (cond (o && t) (Some p) None)) (option_or b (cond o (Some p) None)) ≡ cond o (Some (owner_of_two (option_or a b) p)) (option_or a b)
    go (Some x) is b at true t takes =
        sym (ap (λ (n : Bool). Some (cond (takes_place p.action && not n) p x)) (first_takes path xs x is) ∙ ap (λ (n : Bool). Some (cond n p x)) (and_right (takes_place p.action) false refl))
    go (Some x) is b at false t takes = refl
    go None is (Some y) at true true takes =
        sym (ap (λ (n : Bool). Some (cond (takes_place p.action && not n) p y)) (first_leaves path xs y is at) ∙ ap (λ (n : Bool). Some (cond (n && true) p y)) takes)
    go None is (Some y) at true false takes = sym (ap (λ (n : Bool). Some (cond (n && not (takes_place y.action)) p y)) takes)
    go None is (Some y) at false t takes = refl
    go None is None at true true takes = refl
    go None is None at true false takes = refl
    go None is None at false t takes = refl

find_all : (P : Placed → Type 0) (test : Placed → Bool) (xs : List Placed) (p : Placed) → AllByRecursion P xs → find test xs ≡ Some p → P p
find_all P test [] p all is = absurd (none-some p is)
find_all P test (x ∷ xs) p all is = go (test x) (find_all P test xs p all.1) is
  where
    go : (t : Bool) → (find test xs ≡ Some p → P p) → cond t (Some x) (find test xs) ≡ Some p → P p
    go true later is = subst P (same_Some x p is) all.0
    go false later is = later is

-- what all actions are, the one that tells an owner is
pub owning_all : (P : Placed → Type 0) (xs : List Placed) (path : List ℕ) (p : Placed) → AllByRecursion P xs → owning xs path ≡ Some p → P p
owning_all P xs path p all is = go (find (owns_first path) xs) refl is
  where
    go : (a : Option Placed) → find (owns_first path) xs ≡ a → option_or a (find (owns path) xs) ≡ Some p → P p
    go (Some x) at is = find_all P (owns_first path) xs p all (at ∙ is)
    go None at is = find_all P (owns path) xs p all is

-- ---- what is kept

owns_is : (path q : List ℕ) (p : Placed) → owns path p ≡ true → owns q p ≡ is_same q path
owns_is path q p own =
    let parts = and_parts (has_mode p.action) (is_same path (owned_path p)) own in
    ap (λ (m : Bool). m && is_same q (owned_path p)) parts.0 ∙ ap (is_same q) (sym (same_true path (owned_path p) parts.1))

abbrev pub IsOwnerPut : PathOwners → PathOwners → Vec ℕ Global → Placed → Type 0
IsOwnerPut old new key p = new.entries ≡ insert_entry (λ a b. slice_cmp nat_cmp a.items b.items) old.entries key p

pub owner_put : (old new : PathOwners) (key : Vec ℕ Global) (path : List ℕ) (p : Placed) → IsOwnerPut old new key p → key.items ≡ path → owns path p ≡ true → owner_of_two (owner_at old path) p ≡ p
    → (q : List ℕ) → owner_at new q ≡ owner_with q (owner_at old q) p
owner_put old new key path p is at own two q =
    ap (λ (es : List (Vec ℕ Global × Placed)). lookup (λ k. is_same q k.items) es) is
    ∙ found_insert key p q old.entries
    ∙ ap (λ (k : List ℕ). cond (is_same q k) (Some p) (owner_at old q)) at
    ∙ go (is_same q path) refl
    ∙ ap (λ (o : Bool). cond o (Some (owner_of_two (owner_at old q) p)) (owner_at old q)) (sym (owns_is path q p own))
  where
    go : (t : Bool) → is_same q path ≡ t → cond t (Some p) (owner_at old q) ≡ cond t (Some (owner_of_two (owner_at old q) p)) (owner_at old q)
    go true same = ap (λ (x : Placed). Some x) (sym two) ∙ ap (λ (r : List ℕ). Some (owner_of_two (owner_at old r) p)) (sym (same_true q path same))
    go false same = refl

pub owner_kept : (old : PathOwners) (path : List ℕ) (p first : Placed) → owns path p ≡ true → owner_at old path ≡ Some first → (takes_place p.action && not (takes_place first.action)) ≡ false
    → (q : List ℕ) → owner_at old q ≡ owner_with q (owner_at old q) p
owner_kept old path p first own is stays q = go (is_same q path) refl ∙ ap (λ (o : Bool). cond o (Some (owner_of_two (owner_at old q) p)) (owner_at old q)) (sym (owns_is path q p own))
  where
    go : (t : Bool) → is_same q path ≡ t → owner_at old q ≡ cond t (Some (owner_of_two (owner_at old q) p)) (owner_at old q)
    go true same =
        let here : owner_at old q ≡ Some first = ap (owner_at old) (same_true q path same) ∙ is in
        here ∙ sym (ap (λ (o : Option Placed). Some (owner_of_two o p)) here ∙ ap (λ (n : Bool). Some (cond n p first)) stays)
    go false same = refl

pub two_without : (kept : Option Placed) (p : Placed) → kept ≡ None → owner_of_two kept p ≡ p
two_without kept p is = ap (λ (o : Option Placed). owner_of_two o p) is

pub two_first : (kept : Option Placed) (p first : Placed) → kept ≡ Some first → (takes_place p.action && not (takes_place first.action)) ≡ true → owner_of_two kept p ≡ p
two_first kept p first is comes = ap (λ (o : Option Placed). owner_of_two o p) is ∙ ap (λ (n : Bool). cond n p first) comes

pub owns_self : (path : List ℕ) (p : Placed) → has_mode p.action ≡ true → path ≡ owned_path p → owns path p ≡ true
owns_self path p mode is = ap (λ (m : Bool). m && is_same path (owned_path p)) mode ∙ same_self path (owned_path p) is

pub owns_none : (p : Placed) → has_mode p.action ≡ false → (path : List ℕ) (kept : Option Placed) → kept ≡ owner_with path kept p
owns_none p mode path kept = sym (ap (λ (m : Bool). cond (m && is_same path (owned_path p)) (Some (owner_of_two kept p)) kept) mode)

-- ---- paths of owners

-- The action has an owner, and the path is one.
abbrev pub HasOwnPath : List ℕ → Placed → Type 0
HasOwnPath path p = (has_mode p.action ≡ true) × IsPath path

two_all : (P : Placed → Type 0) (kept : Option Placed) (p : Placed) → IfSome kept P → P p → P (owner_of_two kept p)
two_all P None p all one = one
two_all P (Some first) p all one = go (takes_place p.action && not (takes_place first.action))
  where
    go : (t : Bool) → P (cond t p first)
    go true = one
    go false = all

pub path_with : (path own : List ℕ) (kept : Option Placed) (p : Placed) → IfSome kept (HasOwnPath path) → owns own p ≡ true → IsPath own → IfSome (owner_with path kept p) (HasOwnPath path)
path_with path own kept p so_far owned is = subst (λ (o : Bool). IfSome (cond o (Some (owner_of_two kept p)) kept) (HasOwnPath path)) (sym (owns_is own path p owned)) (go (is_same path own) refl)
  where
    go : (t : Bool) → is_same path own ≡ t → IfSome (cond t (Some (owner_of_two kept p)) kept) (HasOwnPath path)
    go true same = two_all (HasOwnPath path) kept p so_far ((and_parts (has_mode p.action) (is_same own (owned_path p)) owned).0, subst IsPath (sym (same_true path own same)) is)
    go false same = so_far
