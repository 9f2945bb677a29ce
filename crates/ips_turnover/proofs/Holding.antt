-- Sets of what actions say.
use Rattle.std.proofs.Common.{◌≡◌, ℕ, ◌+◌, ◌<◌, ◌≤◌, Bool, true, false, cond, ◌||◌, List, [], ◌∷◌, ◌++◌, length, get_or, take, filter, Vec, Global, refl, sym, ap, ◌∙◌}
use Rattle.std.specs.List.{list_any}
use Rattle.std.specs.BTreeSet.{BTreeSet}
use Rattle.std.proofs.lemmas.List.{take_all}
use Rattle.std.proofs.lemmas.List.Elements.{filter-append}
use Rattle.std.proofs.lemmas.List.Folds.{list_any-append}
use Rattle.ips_text.proofs.Lists.{take_item}
use Rattle.ips_text.proofs.Truths.{or_false}
use Rattle.ips_action.specs.Attrs.{is_same}
use Rattle.ips_action.specs.Action.{Fields}
use Rattle.ips_turnover.specs.Seen.{is_in}

pub turned : (a b : Bool) → (a || b) ≡ (b || (a || false))
turned true true = refl
turned true false = refl
turned false true = refl
turned false false = refl

pub filter_item : {X : Type 0} (test : X → Bool) (xs : List X) (i : ℕ) (x : X) → i < length xs → x ≡ get_or xs i x → filter test (take (i + 1) xs) ≡ filter test (take i xs) ++ filter test (x ∷ [])
filter_item test xs i x lt is = ap (filter test) (take_item xs i x lt is) ∙ filter-append test (take i xs) (x ∷ [])

-- The set has what f says of the actions that pass.
pub record HasAll (f : Fields → List ℕ) (test : Fields → Bool) (actions : List Fields) (set : BTreeSet (Vec ℕ Global)) : Type 0 where
  pub has : (text : List ℕ) → is_in set text ≡ list_any (λ a. is_same text (f a)) (filter test actions)

pub has_none : (f : Fields → List ℕ) (test : Fields → Bool) (actions : List Fields) (set : BTreeSet (Vec ℕ Global)) → set.keys ≡ [] → HasAll f test (take 0 actions) set
has_none f test actions set e = record { has = λ text. ap (λ (keys : List (Vec ℕ Global)). list_any (λ k. is_same text k.items) keys) e }

pub has_more : (f : Fields → List ℕ) (test : Fields → Bool) (actions : List Fields) (i : ℕ) (a : Fields) (old new : BTreeSet (Vec ℕ Global)) → i < length actions → a ≡ get_or actions i a
    → ((text : List ℕ) → is_in new text ≡ (list_any (λ b. is_same text (f b)) (filter test (a ∷ [])) || is_in old text)) → HasAll f test (take i actions) old → HasAll f test (take (i + 1) actions) new
has_more f test actions i a old new lt is more so_far = record {
  has = λ text.
      more text ∙ ap (λ (b : Bool). list_any (λ b. is_same text (f b)) (filter test (a ∷ [])) || b) (so_far.has text)
      ∙ turned (list_any (λ b. is_same text (f b)) (filter test (a ∷ []))) (list_any (λ b. is_same text (f b)) (filter test (take i actions)))
      ∙ ap (λ (b : Bool). list_any (λ b. is_same text (f b)) (filter test (take i actions)) || b) (sym (or_false (list_any (λ b. is_same text (f b)) (filter test (a ∷ [])))))
      ∙ sym (list_any-append (λ b. is_same text (f b)) (filter test (take i actions)) (filter test (a ∷ [])))
      ∙ sym (ap (list_any (λ b. is_same text (f b))) (filter_item test actions i a lt is));
}

pub has_done : (f : Fields → List ℕ) (test : Fields → Bool) (actions : List Fields) (i : ℕ) (set : BTreeSet (Vec ℕ Global)) → length actions ≤ i → HasAll f test (take i actions) set → (text : List ℕ) → is_in set text ≡ list_any (λ a. is_same text (f a)) (filter test actions)
has_done f test actions i set past so_far text = so_far.has text ∙ ap (λ (l : List Fields). list_any (λ a. is_same text (f a)) (filter test l)) (take_all i actions past)

-- what an action adds to a set, by whether it passes
pub adds_none : (f : Fields → List ℕ) (test : Fields → Bool) (a : Fields) (set : BTreeSet (Vec ℕ Global)) → test a ≡ false → (text : List ℕ) → is_in set text ≡ (list_any (λ b. is_same text (f b)) (filter test (a ∷ [])) || is_in set text)
adds_none f test a set fails text = sym (ap (λ (t : Bool). list_any (λ b. is_same text (f b)) (cond t (a ∷ []) []) || is_in set text) fails)

pub adds_one : (f : Fields → List ℕ) (test : Fields → Bool) (a : Fields) (said : List ℕ) (old new : BTreeSet (Vec ℕ Global)) → test a ≡ true → said ≡ f a → ((text : List ℕ) → is_in new text ≡ (is_same text said || is_in old text))
    → (text : List ℕ) → is_in new text ≡ (list_any (λ b. is_same text (f b)) (filter test (a ∷ [])) || is_in old text)
adds_one f test a said old new passes is more text =
    more text ∙ ap (λ (t : List ℕ). is_same text t || is_in old text) is ∙ ap (λ (b : Bool). b || is_in old text) (or_false (is_same text (f a)))
    ∙ sym (ap (λ (t : Bool). list_any (λ b. is_same text (f b)) (cond t (a ∷ []) []) || is_in old text) passes)
