-- Numbers joined by dots, cut at the dots.
use Rattle.std.proofs.Common.{◌≡◌, ℕ, suc, ◌+◌, ◌-◌, ◌<◌, ◌≤◌, ◌^◌, Bool, true, false, cond, eqb, ltb, not, List, [], ◌∷◌, ◌++◌, length, take, drop, map, Option, Some, None, Bor, IsTrue, refl, sym, ap, subst, ◌∙◌, arith}
use Rattle.std.specs.Prelude.{MatchOption, is_some}
use Rattle.std.specs.List.{AllByRecursion, position_or_len, onto_first}
use Rattle.std.specs.Str.Parse.{digits_value}
use Rattle.std.specs.Fmt.{decimal}
use Rattle.std.specs.declared.cmp.Ordering.{Ordering}
use Rattle.std.specs.declared.cmp.Ordering.TheVariants.{Less, Equal, Greater}
use Rattle.std.specs.Ordering.{MatchOrdering, nat_cmp, ordering_then}
use Rattle.std.specs.Cmp.{ranks}
use Rattle.std.specs.Cmp.Lexicographic.{slice_cmp}
use Rattle.std.proofs.lemmas.Bool.{ltb-true, ltb-false, true≢false}
use Rattle.std.proofs.lemmas.Cmp.{tied_itself, nat_cmp_total}
use Rattle.std.proofs.lemmas.Fmt.{decimal_is_IsNumeral}
use Rattle.std.proofs.lemmas.List.{append-nil, take_all, length-drop, length-append}
use Rattle.std.proofs.lemmas.List.Splits.{slice_split_at, slice_split_none, slice_split_first, length-slice_split}
use Rattle.ips_fmri.specs.Version.{AreNumbers, numerals}
use Rattle.ips_action.specs.Check.{IsNumber, IsNumerals}
use Rattle.ips_mediate.specs.Mediation.{dotted, numbers_of}
use Rattle.ips_action.proofs.Numbers.{dotless}

-- ---- the parts of numbers joined by dots are numbers

abbrev AllNumbers : List (List ℕ) → Type 0
AllNumbers parts = AllByRecursion IsNumber parts

parts_numbers : (ns : List ℕ) → AreNumbers ns → AllNumbers (dotted (numerals ns))
parts_numbers [] h = absurd h
parts_numbers (n ∷ []) h = subst AllNumbers (sym (slice_split_none (λ b. eqb b 46) (decimal n) (dotless n h))) ((n, h, refl), tt)
parts_numbers (n ∷ m ∷ ns) h =
    subst AllNumbers (sym (slice_split_at (λ b. eqb b 46) (decimal n) 46 (numerals (m ∷ ns)) (dotless n h.0) refl)) ((n, h.0, refl), parts_numbers (m ∷ ns) h.1)

pub numerals_parts : (text : List ℕ) → IsNumerals text → AllByRecursion IsNumber (dotted text)
numerals_parts text h = let P : List ℕ → Type 0 = λ t. AllNumbers (dotted t) in subst P (sym h.2) (parts_numbers h.0 h.1)

pub number_is : (part : List ℕ) (n : ℕ) → n < 2 ^ 64 → part ≡ decimal n → n ≡ digits_value 10 part
number_is part n fits e = sym (ap (digits_value 10) e ∙ (decimal_is_IsNumeral n fits).1)

-- ---- the first part

-- it ends at the first dot
pub first_here : (text : List ℕ) (i : ℕ) → Some i ≡ cond (ltb (position_or_len (λ b. eqb b 46) text) (length text)) (Some (position_or_len (λ b. eqb b 46) text)) None
    → dotted text ≡ take i text ∷ dotted (take (length text - (i + 1)) (drop (i + 1) text))
first_here text i e = go (ltb (position_or_len (λ b. eqb b 46) text) (length text)) refl e
  where
    go : (t : Bool) → ltb (position_or_len (λ b. eqb b 46) text) (length text) ≡ t → Some i ≡ cond t (Some (position_or_len (λ b. eqb b 46) text)) None
        → dotted text ≡ take i text ∷ dotted (take (length text - (i + 1)) (drop (i + 1) text))
    go true t h =
        let at : i ≡ position_or_len (λ b. eqb b 46) text = cc in
        let rest : take (length text - (i + 1)) (drop (i + 1) text) ≡ drop (i + 1) text = take_all (length text - (i + 1)) (drop (i + 1) text) (omega (arith, length-drop (i + 1) text)) in
        rw (rest, at) (slice_split_first (λ b. eqb b 46) text 0 (ltb-true _ _ t))
    go false t h = absurd cc

no_dot_at_all : (text : List ℕ) → length text ≤ position_or_len (λ b. eqb b 46) text → dotted text ≡ text ∷ []
no_dot_at_all [] h = refl
no_dot_at_all (b ∷ text) h = go (eqb b 46) (no_dot_at_all text) h
  where
    go : (t : Bool) → (length text ≤ position_or_len (λ b. eqb b 46) text → dotted text ≡ text ∷ []) → suc (length text) ≤ cond (not t) (1 + position_or_len (λ b. eqb b 46) text) 0
        → cond t ([] ∷ dotted text) (onto_first b (dotted text)) ≡ (b ∷ text) ∷ []
    go true rest n = absurd (omega arith)
    go false rest n = rw (rest (omega arith)) refl

-- the only part is the whole
pub first_all : (text : List ℕ) → None ≡ cond (ltb (position_or_len (λ b. eqb b 46) text) (length text)) (Some (position_or_len (λ b. eqb b 46) text)) None → dotted text ≡ text ∷ []
first_all text e = go (ltb (position_or_len (λ b. eqb b 46) text) (length text)) refl e
  where
    go : (t : Bool) → ltb (position_or_len (λ b. eqb b 46) text) (length text) ≡ t → None ≡ cond t (Some (position_or_len (λ b. eqb b 46) text)) None → dotted text ≡ text ∷ []
    go true t h = absurd cc
    go false t h = no_dot_at_all text (ltb-false _ _ t)

-- ---- the first number

-- the first part, and the rest where there is one
abbrev pub Cut : List ℕ → List ℕ → Option (Bor (List ℕ)) → Type 0
Cut text part rest = MatchOption rest (dotted text ≡ part ∷ []) (λ r. dotted text ≡ part ∷ dotted r.now)

pub first_is_number : (text part : List ℕ) (rest : Option (Bor (List ℕ))) → Cut text part rest → AllByRecursion IsNumber (dotted text) → IsNumber part
first_is_number text part None cut all = (subst AllNumbers cut all).0
first_is_number text part (Some r) cut all = (subst AllNumbers cut all).0

pub rest_numbers : (text part : List ℕ) (rest : Option (Bor (List ℕ))) → Cut text part rest → AllByRecursion IsNumber (dotted text) → MatchOption rest (Unit {0}) (λ r. AllByRecursion IsNumber (dotted r.now))
rest_numbers text part None cut all = tt
rest_numbers text part (Some r) cut all = (subst AllNumbers cut all).1

pub numbers_cut : (text part : List ℕ) (n : ℕ) (rest : Option (Bor (List ℕ))) → Cut text part rest → n ≡ digits_value 10 part → MatchOption rest (numbers_of text ≡ n ∷ []) (λ r. numbers_of text ≡ n ∷ numbers_of r.now)
numbers_cut text part n None cut is = ap (map (digits_value 10)) cut ∙ ap (λ (x : ℕ). x ∷ []) (sym is)
numbers_cut text part n (Some r) cut is = ap (map (digits_value 10)) cut ∙ ap (λ (x : ℕ). x ∷ numbers_of r.now) (sym is)

-- ---- two lists of numbers

abbrev pub compared : List ℕ → List ℕ → Ordering
compared = slice_cmp nat_cmp

same_first : (x y : ℕ) (xs ys : List ℕ) → x ≡ y → compared (x ∷ xs) (y ∷ ys) ≡ compared xs ys
same_first x y xs ys e = ap (λ (o : Ordering). ordering_then o (compared xs ys)) (ap (nat_cmp x) (sym e) ∙ tied_itself nat_cmp_total x)

-- equal numbers are passed
pub both_passed : (a b left right more others : List ℕ) (x y : ℕ) → compared left right ≡ compared a b → left ≡ x ∷ more → right ≡ y ∷ others → x ≡ y → compared more others ≡ compared a b
both_passed a b left right more others x y so_far l r e = sym (same_first x y more others e) ∙ ap (λ (k : List ℕ). compared (x ∷ more) k) (sym r) ∙ ap (λ (k : List ℕ). compared k right) (sym l) ∙ so_far

-- unequal ones decide
pub first_decides : (a b left right more others : List ℕ) (x y : ℕ) → compared left right ≡ compared a b → left ≡ x ∷ more → right ≡ y ∷ others → (x ≡ y → ⊥) → nat_cmp x y ≡ compared a b
first_decides a b left right more others x y so_far l r ne = apart (nat_cmp x y) refl ∙ ap (λ (k : List ℕ). compared (x ∷ more) k) (sym r) ∙ ap (λ (k : List ℕ). compared k right) (sym l) ∙ so_far
  where
    apart : (t : Ordering) → nat_cmp x y ≡ t → nat_cmp x y ≡ compared (x ∷ more) (y ∷ others)
    apart Less e = e ∙ ap (λ (o : Ordering). ordering_then o (compared more others)) (sym e)
    apart Equal e = absurd (ne (subst (λ (o : Ordering). MatchOrdering o (x < y) (x ≡ y) (y < x)) e (ranks x y)))
    apart Greater e = e ∙ ap (λ (o : Ordering). ordering_then o (compared more others)) (sym e)

-- the numbers of what is left
abbrev pub behind : Option (Bor (List ℕ)) → List ℕ
behind None = []
behind (Some r) = numbers_of r.now

pub numbers_next : (text : List ℕ) (n : ℕ) (rest : Option (Bor (List ℕ))) → MatchOption rest (numbers_of text ≡ n ∷ []) (λ r. numbers_of text ≡ n ∷ numbers_of r.now) → numbers_of text ≡ n ∷ behind rest
numbers_next text n None e = e
numbers_next text n (Some r) e = e

pub some_number : (text : List ℕ) → (n : ℕ) × (ns : List ℕ) × (numbers_of text ≡ n ∷ ns)
some_number text = go (dotted text) refl
  where
    go : (parts : List (List ℕ)) → dotted text ≡ parts → (n : ℕ) × (ns : List ℕ) × (numbers_of text ≡ n ∷ ns)
    go [] e = absurd (omega (arith, ap length e, length-slice_split (λ b. eqb b 46) text))
    go (part ∷ parts) e = (digits_value 10 part, map (digits_value 10) parts, ap (map (digits_value 10)) e)

-- the first has no more numbers, the second has
pub shorter : (text : List ℕ) → compared [] (numbers_of text) ≡ Less
shorter text = let some = some_number text in ap (compared []) some.2

pub longer : (text : List ℕ) → compared (numbers_of text) [] ≡ Greater
longer text = let some = some_number text in ap (λ (k : List ℕ). compared k []) some.2

-- what is left is numbers
abbrev pub AllBehind : Option (Bor (List ℕ)) → Type 0
AllBehind None = Unit {0}
AllBehind (Some r) = AllByRecursion IsNumber (dotted r.now)

pub all_behind : (rest : Option (Bor (List ℕ))) → MatchOption rest (Unit {0}) (λ r. AllByRecursion IsNumber (dotted r.now)) → AllBehind rest
all_behind None h = tt
all_behind (Some r) h = h

-- ---- the ends

-- all numbers are passed: they are those of the text where nothing is left
pub numbers_done : (text numbers : List ℕ) (i : ℕ) (left : Option (Bor (List ℕ))) (r : Bool) → numbers_of text ≡ take i numbers ++ behind left → length numbers ≤ i → is_some left ≡ not r
    → (IsTrue r → numbers_of text ≡ numbers) × (numbers_of text ≡ numbers → IsTrue r)
numbers_done text numbers i None true so_far le none = (λ _. so_far ∙ append-nil (take i numbers) ∙ take_all i numbers le, λ _. refl)
numbers_done text numbers i None false so_far le none = absurd (true≢false (sym none))
numbers_done text numbers i (Some x) true so_far le none = absurd (true≢false none)
numbers_done text numbers i (Some x) false so_far le none = (
  λ h. absurd (true≢false (sym h)),
  λ e.
      let some = some_number x.now in
      let all : take i numbers ≡ numbers = take_all i numbers le in
      let same : numbers ≡ take i numbers ++ numbers_of x.now = sym e ∙ so_far in
      absurd (omega (arith, ap length same, length-append (take i numbers) (numbers_of x.now), ap length all, ap length some.2)),
)

pub second_ends : (a b left right : List ℕ) (x y : ℕ) (more : List ℕ) → compared left right ≡ compared a b → left ≡ x ∷ numbers_of more → right ≡ y ∷ [] → x ≡ y → Greater ≡ compared a b
second_ends a b left right x y more so_far l r e = sym (longer more) ∙ both_passed a b left right (numbers_of more) [] x y so_far l r e

pub first_ends : (a b left right : List ℕ) (x y : ℕ) (others : List ℕ) → compared left right ≡ compared a b → left ≡ x ∷ [] → right ≡ y ∷ numbers_of others → x ≡ y → Less ≡ compared a b
first_ends a b left right x y others so_far l r e = sym (shorter others) ∙ both_passed a b left right [] (numbers_of others) x y so_far l r e
