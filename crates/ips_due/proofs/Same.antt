-- What is due is told by what is due at each path.
use Rattle.std.proofs.Common.{◌≡◌, ℕ, Bool, true, false, ◌||◌, List, is_some, refl, sym, ◌∙◌, ap}
use Rattle.std.specs.Prelude.{◌↔◌}
use Rattle.std.specs.List.{list_any}
use Rattle.ips_text.specs.Ancestry.{covers}
use Rattle.ips_outside.specs.Image.{Image}
use Rattle.ips_after.specs.Lists.{listed}
use Rattle.ips_after.specs.Request.{Over}
use Rattle.ips_after.proofs.Fits.{any_from, any_of}
use Rattle.ips_due.specs.Due.{Due, HasProperDue, IsDue, IsOverOf, MeansSame, account_at, goes_with, is_due, record_at, said, said_by, said_rest}

-- what holds just where another does is the same
pub alike : (a b : Bool) → (a ≡ true) ↔ (b ≡ true) → a ≡ b
alike true true both = refl
alike true false both = sym (both.0 refl)
alike false true both = both.1 refl
alike false false both = refl

any_in : (xs ys : List (List ℕ)) (test : List ℕ → Bool) → ((q : List ℕ) → listed xs q ≡ listed ys q) → list_any test xs ≡ true → list_any test ys ≡ true
any_in xs ys test same h = let some = any_of test xs h in any_from test ys some.path (sym (same some.path) ∙ some.in_list) some.holds

-- what holds of a path of one list holds of one of the other, where both list the same
any_alike : (xs ys : List (List ℕ)) (test : List ℕ → Bool) → ((q : List ℕ) → listed xs q ≡ listed ys q) → list_any test xs ≡ list_any test ys
any_alike xs ys test same = alike (list_any test xs) (list_any test ys) (any_in xs ys test same, any_in ys xs test (λ q. sym (same q)))

module _ (a b : Due) (same : MeansSame a b) where
  goes : (q : List ℕ) → goes_with a q ≡ goes_with b q
  goes q = λ i. any_alike a.renewed b.renewed (λ p. covers p q) same.renewed i || any_alike a.gone b.gone (λ p. covers p q) same.gone i

  pub said_same : (bytes : List ℕ → List ℕ) (holds : List ℕ → List ℕ → Bool) (t : Image) (q : List ℕ) → said bytes holds a t q ≡ said bytes holds b t q
  said_same bytes holds t q = λ i. said_by bytes holds (same.accounts q i) (same.records q i) (goes q i) (said_rest (same.renewed q i) (same.folders q i) (same.gone q i) (t.look q)) (t.look q)

  pub over_same : (bytes : List ℕ → List ℕ) (holds : List ℕ → List ℕ → Bool) (t : Image) (o : Over) → IsOverOf bytes holds a t o → IsOverOf bytes holds b t o
  over_same bytes holds t o of = record {
    at = λ q. of.at q ∙ said_same bytes holds t q;
    accounts = of.accounts;
    keyed = of.keyed;
    closed = of.closed;
    only = of.only;
    by_bytes = of.by_bytes;
  }

  pub due_same : (q : List ℕ) → is_due a q ≡ is_due b q
  due_same q = λ i. is_some (same.accounts q i) || (is_some (same.records q i) || (same.renewed q i || same.folders q i))

  own_same : (q : List ℕ) → (is_some (record_at a.records q) || (listed a.renewed q || (listed a.folders q || listed a.gone q))) ≡ (is_some (record_at b.records q) || (listed b.renewed q || (listed b.folders q || listed b.gone q)))
  own_same q = λ i. is_some (same.records q i) || (same.renewed q i || (same.folders q i || same.gone q i))

  flat_same : (q : List ℕ) → (is_some (account_at a.accounts q) || (is_some (record_at a.records q) || listed a.gone q)) ≡ (is_some (account_at b.accounts q) || (is_some (record_at b.records q) || listed b.gone q))
  flat_same q = λ i. is_some (same.accounts q i) || (is_some (same.records q i) || same.gone q i)

  pub together_same : IsDue a → IsDue b
  together_same is = record {
    accounts = λ q h. is.accounts q (ap is_some (same.accounts q) ∙ h);
    own = λ q h. is.own q (own_same q ∙ h);
    flat = λ p q up h. sym (flat_same p) ∙ is.flat p q up (due_same q ∙ h);
  }

  pub proper_same : HasProperDue a → HasProperDue b
  proper_same proper = record {
    paths = λ q h. proper.paths q ((λ i. due_same q i || same.gone q i) ∙ h);
    modes = λ q m file h. proper.modes q m file (same.accounts q ∙ h);
  }
