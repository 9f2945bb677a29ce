-- The longest of texts, and tests of steps, one step after the other.
use Rattle.std.proofs.Common.{◌≡◌, ⊎_elim, ℕ, zero, suc, ◌+◌, ◌<◌, ◌≤◌, Bool, true, false, cond, not, ◌||◌, ◌&&◌, nat_lt, List, [], ◌∷◌, length, take, get_or, map, refl, sym, ◌∙◌, ap, subst, arith}
use Rattle.std.specs.List.{list_any}
use Rattle.std.proofs.lemmas.Bool.{or_cases, or_left, or_right}
use Rattle.std.proofs.lemmas.Bool.Decides.{nat_tests}
use Rattle.std.proofs.lemmas.List.Elements.{All-more, All-weaker}
use Rattle.std.proofs.lemmas.List.Folds.{list_any_more}
use Rattle.ips_text.specs.Ancestry.{same_path}
use Rattle.ips_text.proofs.Ancestry.{same_path-self}
use Rattle.ips_steps.specs.Journal.{IsProper, AllProper}
use Rattle.ips_steps.specs.View.{step_of}
use Rattle.ips_steps.specs.declared.step.Step.{Step}
use Rattle.ips_rehearse.specs.Asked.{IsLongest, gives_mode, works_first, works_in}

shorter : (a b : ℕ) → nat_lt a b ≡ true → a ≤ b
shorter a b is = grind (arith, nat_tests)

no_longer : (a b : ℕ) → nat_lt a b ≡ false → b ≤ a
no_longer a b is = grind (arith, nat_tests)

module _ {A : Type 0} (text : A → List ℕ) (all : List A) (i : ℕ) (x : A) (lt : i < length all) (is : x ≡ get_or all i x) where
  at : text x ≡ text (get_or all i x)
  at = ap text is

  pub longest_more : (one two next : List ℕ) → two ≡ text x → next ≡ cond (nat_lt (length one) (length two)) two one → IsLongest text (take i all) one → IsLongest text (take (i + 1) all) next
  longest_more one two next says made so_far = go (nat_lt (length one) (length two)) refl made
    where
      here : two ≡ text (get_or all i x)
      here = says ∙ at

      go : (b : Bool) → nat_lt (length one) (length two) ≡ b → next ≡ cond b two one → IsLongest text (take (i + 1) all) next
      go true lt_2 is_2 = subst (IsLongest text (take (i + 1) all)) (sym is_2) (record {
        among = or_right (same_path two []) _ (list_any_more (λ y. same_path two (text y)) all i x lt ∙ or_right _ _ (ap (same_path two) (sym here) ∙ same_path-self two));
        longest = All-more (λ y. length (text y) ≤ length two) all i x lt
            (All-weaker (λ y. length (text y) ≤ length one) (λ y. length (text y) ≤ length two) (λ y le. let up = shorter (length one) (length two) lt_2 in omega (arith, le, up)) (take i all) so_far.longest)
            (omega (arith, ap length here));
      })
      go false lt_2 is_2 = subst (IsLongest text (take (i + 1) all)) (sym is_2) (record {
        among = ⊎_elim
            (λ none. or_left (same_path one []) _ none)
            (λ some. or_right (same_path one []) _ (list_any_more (λ y. same_path one (text y)) all i x lt ∙ or_left _ _ some))
            (or_cases (same_path one []) _ so_far.among);
        longest = All-more (λ y. length (text y) ≤ length one) all i x lt so_far.longest (let le = no_longer (length one) (length two) lt_2 in omega (arith, le, ap length here));
      })

pub longest_none : {A : Type 0} (text : A → List ℕ) → IsLongest text [] []
longest_none text = record { among = refl; longest = λ k d lt. absurd (omega (arith, lt)) }

module _ {A : Type 0} (p : A → Bool) (all : List A) (i : ℕ) (x : A) (lt : i < length all) (is : x ≡ get_or all i x) where
  next : list_any p (take (i + 1) all) ≡ (list_any p (take i all) || p x)
  next = list_any_more p all i x lt ∙ ap (λ (y : A). list_any p (take i all) || p y) (sym is)

  turn : (a b c : Bool) → (a || (b || c)) ≡ ((b || a) || c)
  turn true true c = refl
  turn true false c = refl
  turn false true c = refl
  turn false false c = refl

  pub any_more : (old mid now : Bool) → mid ≡ (list_any p (take i all) || old) → now ≡ (p x || mid) → now ≡ (list_any p (take (i + 1) all) || old)
  any_more old mid now so_far one = one ∙ ap (λ (b : Bool). p x || b) so_far ∙ turn (p x) (list_any p (take i all)) old ∙ ap (λ (b : Bool). b || old) (sym next)

  swap : (a b : Bool) → (a || b) ≡ (b || a)
  swap true true = refl
  swap true false = refl
  swap false true = refl
  swap false false = refl

  pub any_next : (mid now : Bool) → mid ≡ list_any p (take i all) → now ≡ (p x || mid) → now ≡ list_any p (take (i + 1) all)
  any_next mid now so_far one = one ∙ ap (λ (b : Bool). p x || b) so_far ∙ swap (p x) (list_any p (take i all)) ∙ sym next

  pub none_next : list_any p (take i all) ≡ false → p x ≡ false → list_any p (take (i + 1) all) ≡ false
  none_next so_far off = next ∙ ap (λ (b : Bool). b || p x) so_far ∙ off

  pub some_here : p x ≡ true → list_any p all ≡ true
  some_here on = any_at all i lt is on
    where
      any_at : (all : List A) (i : ℕ) → i < length all → x ≡ get_or all i x → p x ≡ true → list_any p all ≡ true
      any_at [] i lt is on = absurd (omega (arith, lt))
      any_at (y ∷ all) zero lt is on = or_left (p y) _ (ap p (sym is) ∙ on)
      any_at (y ∷ all) (suc i) lt is on = or_right (p y) _ (any_at all i (omega (arith, lt)) is on)

pub proper_at : (steps : List Step) (i : ℕ) (s : Step) → AllProper (map step_of steps) → i < length steps → s ≡ get_or steps i s → IsProper (step_of s)
proper_at [] i s proper lt is = absurd (omega (arith, lt))
proper_at (x ∷ steps) zero s proper lt is = subst (λ (y : Step). IsProper (step_of y)) (sym is) proper.0
proper_at (x ∷ steps) (suc i) s proper lt is = proper_at steps i s proper.1 (omega (arith, lt)) is

-- ---- what is worked in before it is given a mode

split_or : (w g r p x : Bool) → (w || (not g && (r || (not p && x)))) ≡ ((w || (not g && r)) || (not (g || p) && x))
split_or true g r p x = refl
split_or false true r p x = refl
split_or false false true p x = refl
split_or false false false p x = refl

first_turn : (q : List ℕ) (steps : List Step) (i : ℕ) (s : Step) → i < length steps → s ≡ get_or steps i s
    → works_first q (map step_of (take (i + 1) steps)) ≡ (works_first q (map step_of (take i steps)) || (not (list_any (λ x. gives_mode q (step_of x)) (take i steps)) && works_in q (step_of s)))
first_turn q [] i s lt is = absurd (omega (arith, lt))
first_turn q (x ∷ steps) zero s lt is = alone (works_in q (step_of x)) (gives_mode q (step_of x)) ∙ ap (λ (y : Step). works_in q (step_of y)) (sym is)
  where
    alone : (w g : Bool) → (w || (not g && false)) ≡ w
    alone true g = refl
    alone false true = refl
    alone false false = refl
first_turn q (x ∷ steps) (suc i) s lt is =
    let more : suc i + 1 ≡ suc (i + 1) = omega arith in
    ap (λ (n : ℕ). works_first q (map step_of (take n (x ∷ steps)))) more ∙ ap (λ (b : Bool). works_in q (step_of x) || (not (gives_mode q (step_of x)) && b)) (first_turn q steps i s (omega (arith, lt)) is)
    ∙ split_or (works_in q (step_of x)) (gives_mode q (step_of x)) (works_first q (map step_of (take i steps))) (list_any (λ y. gives_mode q (step_of y)) (take i steps)) (works_in q (step_of s))

pub first_more : (q : List ℕ) (steps : List Step) (i : ℕ) (s : Step) → i < length steps → s ≡ get_or steps i s → (old given mid now : Bool)
    → given ≡ list_any (λ x. gives_mode q (step_of x)) (take i steps) → mid ≡ (works_first q (map step_of (take i steps)) || old) → now ≡ ((not given && works_in q (step_of s)) || mid)
    → now ≡ (works_first q (map step_of (take (i + 1) steps)) || old)
first_more q steps i s lt is old given mid now of so_far one =
    one ∙ ap (λ (b : Bool). (not given && works_in q (step_of s)) || b) so_far ∙ ap (λ (b : Bool). (not b && works_in q (step_of s)) || (works_first q (map step_of (take i steps)) || old)) of
    ∙ turned (not (list_any (λ x. gives_mode q (step_of x)) (take i steps)) && works_in q (step_of s)) (works_first q (map step_of (take i steps))) old ∙ ap (λ (b : Bool). b || old) (sym (first_turn q steps i s lt is))
  where
    turned : (a b c : Bool) → (a || (b || c)) ≡ ((b || a) || c)
    turned true true c = refl
    turned true false c = refl
    turned false true c = refl
    turned false false c = refl
