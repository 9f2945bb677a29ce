-- How often paths stand in a list, whatever its order, and in a sorted one.
use Rattle.std.proofs.Common.{◌≡◌, ◌⊎◌, ℕ, zero, suc, ◌+◌, ◌-◌, ◌<◌, ◌≤◌, Bool, true, false, cond, List, [], ◌∷◌, length, map, ◌++◌, drop, get_or, slice_index_or, Bor, Option, Some, None, nat_cmp, refl, sym, ap, ◌∙◌, subst, inl, inr, arith}
use Rattle.std.specs.Prelude.{max}
use Rattle.std.specs.Ordering.{is_lt, ordering_reverse}
use Rattle.std.specs.declared.cmp.Ordering.{Ordering}
use Rattle.std.specs.declared.cmp.Ordering.TheVariants.{Less, Equal, Greater}
use Rattle.std.specs.Cmp.Lexicographic.{slice_cmp}
use Rattle.std.specs.List.{sum_by}
use Rattle.std.specs.List.Sorted.{IsPermutation, IsSorted}
use Rattle.std.specs.Option.{option_map}
use Rattle.std.proofs.Math.Nat.{le-max_left, le-max_right, max-le}
use Rattle.std.proofs.lemmas.Cmp.{nat_list_cmp_total, tied_itself}
use Rattle.std.proofs.lemmas.Map.Lookups.{exact_bytes}
use Rattle.std.proofs.lemmas.List.Sums.{sum_by-cons}
use Rattle.std.proofs.lemmas.List.Sorted.{sum_by-IsPermutation}
use Rattle.ips_text.specs.Ancestry.{same_path}
use Rattle.ips_text.proofs.Ancestry.{same_path-self, same_path-true}
use Rattle.std.proofs.lemmas.List.{append_assoc, drop_more, length-map}
use Rattle.ips_steps.specs.View.{step_of}
use Rattle.ips_steps.specs.Steps.{Step, Gone, Fresh, Mode, Put, Symlink, Hard}
use Rattle.ips_steps.specs.declared.step.Step as declared
use Rattle.ips_plan_limits.specs.Names.{times, most_times, is_next, targets_of}

most_first : (p x : List ℕ) (xs : List (List ℕ)) → times p xs ≤ most_times xs → (b : Bool) → same_path p x ≡ b → times p (x ∷ xs) ≤ most_times (x ∷ xs)
most_first p x xs later true e =
    let like : times p xs ≡ times x xs = ap (λ (q : List ℕ). times q xs) (same_path-true p x e) in
    let most : times x xs + 1 ≤ most_times (x ∷ xs) = le-max_left (times x xs + 1) (most_times xs) in
    rw e (omega (arith, like, most))
most_first p x xs later false e =
    let most : most_times xs ≤ most_times (x ∷ xs) = le-max_right (times x xs + 1) (most_times xs) in
    rw e (omega (arith, later, most))

-- a path stands at most so often as the one that stands most often
pub times_most : (p : List ℕ) (xs : List (List ℕ)) → times p xs ≤ most_times xs
times_most p [] = omega arith
times_most p (x ∷ xs) = most_first p x xs (times_most p xs) (same_path p x) refl

-- a bound of them all bounds the most
pub most_least : (xs : List (List ℕ)) (n : ℕ) → ((p : List ℕ) → times p xs ≤ n) → most_times xs ≤ n
most_least [] n h = omega arith
most_least (x ∷ xs) n h =
    let here : times x (x ∷ xs) ≤ n = h x in
    let first : times x xs + 1 ≤ n = let P : Bool → Type 0 = λ b. cond b 1 0 + times x xs ≤ n in let one : 1 + times x xs ≤ n = subst P (same_path-self x) here in omega (arith, one) in
    max-le first (most_least xs n (λ p. let all : cond (same_path p x) 1 0 + times p xs ≤ n = h p in omega (arith, all)))

-- two lists in which each path stands equally often have one such number
pub most_alike : (xs ys : List (List ℕ)) → ((p : List ℕ) → times p xs ≡ times p ys) → most_times xs ≡ most_times ys
most_alike xs ys h =
    let up : most_times xs ≤ most_times ys = most_least xs (most_times ys) (λ p. rw (h p) (times_most p ys)) in
    let down : most_times ys ≤ most_times xs = most_least ys (most_times xs) (λ p. rw (sym (h p)) (times_most p xs)) in
    omega (arith, up, down)

module _ {X : Type 0} (at : X → List ℕ) where
  pub times_sum : (p : List ℕ) (xs : List X) → times p (map at xs) ≡ sum_by (λ (x : X). cond (same_path p (at x)) 1 0) xs
  times_sum p [] = refl
  times_sum p (x ∷ xs) = ap (λ (n : ℕ). cond (same_path p (at x)) 1 0 + n) (times_sum p xs) ∙ sym (sum_by-cons (λ (y : X). cond (same_path p (at y)) 1 0) x xs)

  -- in another order it is the same
  pub most_permuted : (xs ys : List X) → IsPermutation xs ys → most_times (map at ys) ≡ most_times (map at xs)
  most_permuted xs ys h = most_alike (map at ys) (map at xs) (λ p. times_sum p ys ∙ sum_by-IsPermutation (λ (x : X). cond (same_path p (at x)) 1 0) xs ys h ∙ sym (times_sum p xs))

-- none is less than the one before it
abbrev pub Ascend : List (List ℕ) → Type 0
Ascend [] = Unit {0}
Ascend (x ∷ []) = Unit {0}
Ascend (x ∷ y ∷ xs) = (is_lt (slice_cmp nat_cmp y x) ≡ false) × Ascend (y ∷ xs)

pub ascend_from : (xs : List (List ℕ)) → ((k : ℕ) (d : List ℕ) → suc k < length xs → is_lt (slice_cmp nat_cmp (get_or xs (suc k) d) (get_or xs k d)) ≡ false) → Ascend xs
ascend_from [] h = tt
ascend_from (x ∷ []) h = tt
ascend_from (x ∷ y ∷ xs) h = (h 0 x (omega arith), ascend_from (y ∷ xs) (λ k d lt. h (suc k) d (omega (arith, lt))))

pub ascend_tail : (x : List ℕ) (xs : List (List ℕ)) → Ascend (x ∷ xs) → Ascend xs
ascend_tail x [] h = tt
ascend_tail x (y ∷ xs) h = h.1

-- what is less than a path is another one
apart : (x y : List ℕ) → slice_cmp nat_cmp x y ≡ Less → (b : Bool) → same_path x y ≡ b → same_path x y ≡ false
apart x y less false e = e
apart x y less true e = let bad : Less ≡ Equal = sym less ∙ ap (slice_cmp nat_cmp x) (sym (same_path-true x y e)) ∙ tied_itself nat_list_cmp_total x in absurd cc

-- and it is less than what isn't less than that
above : (x y z : List ℕ) → slice_cmp nat_cmp x y ≡ Less → is_lt (slice_cmp nat_cmp z y) ≡ false → (o : Ordering) → slice_cmp nat_cmp y z ≡ o → slice_cmp nat_cmp x z ≡ Less
above x y z less up Less e = nat_list_cmp_total.trans x y z less e
above x y z less up Equal e = ap (slice_cmp nat_cmp x) (sym (exact_bytes y z e)) ∙ less
above x y z less up Greater e = let bad : true ≡ false = sym (ap is_lt (nat_list_cmp_total.antisymm z y ∙ ap ordering_reverse e)) ∙ up in absurd cc

nothing_more : (n : ℕ) → n ≡ 0 → 0 + n ≡ 0
nothing_more n h = omega (arith, h)

-- a path that is less than the first of an ascending list isn't in it
none_above : (x y : List ℕ) (xs : List (List ℕ)) → slice_cmp nat_cmp x y ≡ Less → Ascend (y ∷ xs) → times x (y ∷ xs) ≡ 0
none_above x y [] less h = rw (apart x y less (same_path x y) refl) refl
none_above x y (z ∷ zs) less h =
    let rest : times x (z ∷ zs) ≡ 0 = none_above x z zs (above x y z less h.0 (slice_cmp nat_cmp y z) refl) h.1 in
    ap (λ (b : Bool). cond b 1 0 + times x (z ∷ zs)) (apart x y less (same_path x y) refl) ∙ nothing_more (times x (z ∷ zs)) rest

-- of two paths in order that differ the first is less
less_than : (x y : List ℕ) → is_lt (slice_cmp nat_cmp y x) ≡ false → same_path x y ≡ false → (o : Ordering) → slice_cmp nat_cmp x y ≡ o → slice_cmp nat_cmp x y ≡ Less
less_than x y up e Less k = k
less_than x y up e Equal k = let bad : true ≡ false = sym (same_path-self x) ∙ ap (same_path x) (exact_bytes x y k) ∙ e in absurd cc
less_than x y up e Greater k = let bad : true ≡ false = sym (ap is_lt (nat_list_cmp_total.antisymm y x ∙ ap ordering_reverse k)) ∙ up in absurd cc

-- behind the first of an ascending list it stands so often as the next one does, where they are one, and else not at all
pub first_run : (x y : List ℕ) (xs : List (List ℕ)) → Ascend (x ∷ y ∷ xs) → (b : Bool) → same_path x y ≡ b → times x (y ∷ xs) ≡ cond b (times y (y ∷ xs)) 0
first_run x y xs h true e = ap (λ (q : List ℕ). times q (y ∷ xs)) (same_path-true x y e)
first_run x y xs h false e = none_above x y xs (less_than x y h.0 e (slice_cmp nat_cmp x y) refl) h.1

-- the first path of a list
abbrev pub first_of : List (List ℕ) → Option (List ℕ)
first_of [] = None
first_of (x ∷ xs) = Some x

-- how often the first path of a list stands in it
abbrev pub first_times : List (List ℕ) → ℕ
first_times [] = 0
first_times (x ∷ xs) = times x (x ∷ xs)

-- one path more in front of an ascending list: how often it stands there
pub run_more : (x : List ℕ) (xs : List (List ℕ)) → Ascend (x ∷ xs) → 1 + cond (is_next x (first_of xs)) (first_times xs) 0 ≡ first_times (x ∷ xs)
run_more x [] h = rw (same_path-self x) refl
run_more x (y ∷ xs) h = rw (same_path-self x) (ap (λ (n : ℕ). 1 + n) (sym (first_run x y xs h (same_path x y) refl)))

-- and the most often of all
pub most_more : (x : List ℕ) (xs : List (List ℕ)) → max (most_times xs) (first_times (x ∷ xs)) ≡ most_times (x ∷ xs)
most_more x xs = rw (same_path-self x) (omega arith)

ascend_drop : (n : ℕ) (xs : List (List ℕ)) → Ascend xs → Ascend (drop n xs)
ascend_drop zero xs h = h
ascend_drop (suc n) [] h = tt
ascend_drop (suc n) (x ∷ xs) h = ascend_drop n xs (ascend_tail x xs h)

-- one turn of a count from the last path on
pub one_more : (texts : List (List ℕ)) (i run most : ℕ) (path : List ℕ) (next : Option (List ℕ)) → i < length texts → path ≡ get_or texts i path → Ascend texts
    → next ≡ first_of (drop (i + 1) texts) → run ≡ first_times (drop (i + 1) texts) → most ≡ most_times (drop (i + 1) texts)
    → (Some path ≡ first_of (drop i texts)) × (1 + cond (is_next path next) run 0 ≡ first_times (drop i texts)) × (max most (1 + cond (is_next path next) run 0) ≡ most_times (drop i texts))
one_more texts i run most path next lt at up first counted so_far =
    let rest = drop (i + 1) texts in
    let cut : drop i texts ≡ path ∷ rest = drop_more texts i path lt ∙ ap (λ (p : List ℕ). p ∷ rest) (sym at) in
    let ascends : Ascend (path ∷ rest) = subst Ascend cut (ascend_drop i texts up) in
    let here : 1 + cond (is_next path next) run 0 ≡ first_times (path ∷ rest) =
    ap (λ (o : Option (List ℕ)). 1 + cond (is_next path o) run 0) first ∙ ap (λ (n : ℕ). 1 + cond (is_next path (first_of rest)) n 0) counted ∙ run_more path rest ascends in
    let most_here : max most (1 + cond (is_next path next) run 0) ≡ most_times (path ∷ rest) =
    ap (λ (n : ℕ). max n (1 + cond (is_next path next) run 0)) so_far ∙ ap (λ (n : ℕ). max (most_times rest) n) here ∙ most_more path rest in
    (ap first_of (sym cut), here ∙ ap first_times (sym cut), most_here ∙ ap most_times (sym cut))

-- ---- the targets

targets_cons : (s : Step) (later : List Step) → targets_of (s ∷ later) ≡ targets_of (s ∷ []) ++ targets_of later
targets_cons (Gone p) later = refl
targets_cons (Fresh m p) later = refl
targets_cons (Mode m p) later = refl
targets_cons (Put n m p) later = refl
targets_cons (Symlink p target) later = refl
targets_cons (Hard p to) later = refl

-- one step's target more
pub gathered : (steps : List declared.Step) (i : ℕ) (x : declared.Step) (was now all : List (List ℕ)) → i < length steps → x ≡ get_or steps i x → was ++ targets_of (map step_of (drop i steps)) ≡ all
    → now ≡ was ++ targets_of (step_of x ∷ []) → now ++ targets_of (map step_of (drop (i + 1) steps)) ≡ all
gathered steps i x was now all lt at so_far added =
    let rest = targets_of (map step_of (drop (i + 1) steps)) in
    let cut : drop i steps ≡ x ∷ drop (i + 1) steps = drop_more steps i x lt ∙ ap (λ (s : declared.Step). s ∷ drop (i + 1) steps) (sym at) in
    ap (λ (l : List (List ℕ)). l ++ rest) added ∙ append_assoc was (targets_of (step_of x ∷ [])) rest
    ∙ ap (λ (l : List (List ℕ)). was ++ l) (sym (targets_cons (step_of x) (map step_of (drop (i + 1) steps))))
    ∙ ap (λ (l : List declared.Step). was ++ targets_of (map step_of l)) (sym cut) ∙ so_far

-- ---- lent paths

-- a place of lent paths is that of the paths
at_lent : (paths : List (Bor (List ℕ))) (i : ℕ) (d : Bor (List ℕ)) → i < length paths → (slice_index_or paths i d).now ≡ get_or (map (λ (p : Bor (List ℕ)). p.now) paths) i (slice_index_or paths i d).now
at_lent [] i d lt = absurd (omega (arith, lt))
at_lent (x ∷ paths) zero d lt = refl
at_lent (x ∷ paths) (suc i) d lt = at_lent paths i d (omega (arith, lt))

lent_ascend : (paths : List (Bor (List ℕ))) → ((k : ℕ) (d : Bor (List ℕ)) → suc k < length paths → is_lt (slice_cmp nat_cmp (slice_index_or paths (suc k) d).now (slice_index_or paths k d).now) ≡ false) → Ascend (map (λ (p : Bor (List ℕ)). p.now) paths)
lent_ascend [] h = tt
lent_ascend (x ∷ []) h = tt
lent_ascend (x ∷ y ∷ paths) h = (h 0 x (omega arith), lent_ascend (y ∷ paths) (λ k d lt. h (suc k) d (omega (arith, lt))))

-- lent paths that a sort has put in order
pub sorted_ascend : (paths : List (Bor (List ℕ))) → IsSorted (λ (a b : Bor (List ℕ)). slice_cmp nat_cmp a.now b.now) paths → Ascend (map (λ (p : Bor (List ℕ)). p.now) paths)
sorted_ascend paths h = lent_ascend paths (λ k d lt.
    let e : k + 1 ≡ suc k = omega arith in
    subst (λ (n : ℕ). is_lt (slice_cmp nat_cmp (slice_index_or paths n d).now (slice_index_or paths k d).now) ≡ false) e (h k d (omega arith) (omega (arith, lt))))

-- a turn adds one at most
pub one_at_most : (b : Bool) (run here : ℕ) → here ≡ 1 + cond b run 0 → here ≤ run + 1
one_at_most true run here h = omega (arith, h)
one_at_most false run here h = omega (arith, h)

-- one turn, over lent paths
pub one_turn : (paths : List (Bor (List ℕ))) (at run most here new : ℕ) (d : Bor (List ℕ)) (next : Option (Bor (List ℕ))) → 0 < at → at ≤ length paths → IsSorted (λ (a b : Bor (List ℕ)). slice_cmp nat_cmp a.now b.now) paths
    → option_map (λ (n : Bor (List ℕ)). n.now) next ≡ first_of (drop at (map (λ (p : Bor (List ℕ)). p.now) paths)) → run ≡ first_times (drop at (map (λ (p : Bor (List ℕ)). p.now) paths)) → most ≡ most_times (drop at (map (λ (p : Bor (List ℕ)). p.now) paths))
    → here ≡ 1 + cond (is_next (slice_index_or paths (at - 1) d).now (option_map (λ (n : Bor (List ℕ)). n.now) next)) run 0 → new ≡ max most here
    → (Some (slice_index_or paths (at - 1) d).now ≡ first_of (drop (at - 1) (map (λ (p : Bor (List ℕ)). p.now) paths))) × (here ≡ first_times (drop (at - 1) (map (λ (p : Bor (List ℕ)). p.now) paths)))
    × (new ≡ most_times (drop (at - 1) (map (λ (p : Bor (List ℕ)). p.now) paths)))
one_turn paths at run most here new d next some within up first counted so_far is is_new =
    let texts = map (λ (p : Bor (List ℕ)). p.now) paths in
    let path = (slice_index_or paths (at - 1) d).now in
    let e : at ≡ at - 1 + 1 = omega (arith, some) in
    let lt : at - 1 < length paths = omega (arith, some, within) in
    let long : length texts ≡ length paths = length-map paths (λ (p : Bor (List ℕ)). p.now) in
    let turn = one_more texts (at - 1) run most path (option_map (λ (n : Bor (List ℕ)). n.now) next) (omega (arith, lt, long)) (at_lent paths (at - 1) d lt) (sorted_ascend paths up)
    (subst (λ (n : ℕ). option_map (λ (n : Bor (List ℕ)). n.now) next ≡ first_of (drop n texts)) e first) (subst (λ (n : ℕ). run ≡ first_times (drop n texts)) e counted) (subst (λ (n : ℕ). most ≡ most_times (drop n texts)) e so_far) in
    (turn.0, is ∙ turn.1, is_new ∙ ap (λ (n : ℕ). max most n) is ∙ turn.2)
