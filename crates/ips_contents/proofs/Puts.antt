-- Steps that put contents, one after another.
use Rattle.std.proofs.Common.{◌≡◌, ℕ, zero, suc, ◌+◌, ◌<◌, ◌≤◌, ◌^◌, true, ◌==◌, List, [], ◌∷◌, ◌++◌, length, map, take, get_or, slice_get, Option, Some, None, refl, sym, ◌∙◌, ap, subst, arith, inl, inr, take_all}
use Rattle.std.proofs.lemmas.Bool.{and_parts, eqb-true, cases_lt}
use Rattle.std.proofs.lemmas.List.{length-map}
use Rattle.std.proofs.lemmas.Option.{slice_get_read}
use Rattle.ips_text.specs.Ancestry.{covers}
use Rattle.ips_outside.specs.Image.{Image, File, Agrees}
use Rattle.ips_outside.specs.State.{nowhere}
use Rattle.ips_steps.specs.Steps.{Step, Gone, Fresh, Mode, Put, Symlink, Hard, stage_path}
use Rattle.ips_steps.specs.Journal.{IsJournal, IsProper, AllProper, numbered}
use Rattle.ips_steps.specs.View.{step_of}
use Rattle.ips_steps.specs.declared.step.Step as program
use Rattle.ips_steps.proofs.Numbered.{contents_apart}
use Rattle.ips_journal.specs.Reading.{puts_in}
use Rattle.ips_journal.proofs.Journals.{puts_more}
use Rattle.ips_contents.specs.Contents.{HaveModes, IsNextPut, mode_put}

-- ---- the number of a put

put_number : (from : ℕ) (steps : List Step) (k n m : ℕ) (p : List ℕ) → numbered from steps ≡ true → slice_get steps k ≡ Some (Put n m p) → n ≡ from + puts_in (take k steps)
put_number from [] k n m p num at = cc
put_number from (Gone q ∷ rest) zero n m p num at = cc
put_number from (Gone q ∷ rest) (suc k) n m p num at = put_number from rest k n m p num at
put_number from (Fresh o q ∷ rest) zero n m p num at = cc
put_number from (Fresh o q ∷ rest) (suc k) n m p num at = put_number from rest k n m p num at
put_number from (Mode o q ∷ rest) zero n m p num at = cc
put_number from (Mode o q ∷ rest) (suc k) n m p num at = put_number from rest k n m p num at
put_number from (Put j o q ∷ rest) zero n m p num at =
    let first : j ≡ from = eqb-true j from (and_parts (j == from) _ num).0 in
    let same : j ≡ n = cc in
    omega (arith, first, same)
put_number from (Put j o q ∷ rest) (suc k) n m p num at =
    let later : n ≡ from + 1 + puts_in (take k rest) = put_number (from + 1) rest k n m p (and_parts (j == from) _ num).1 at in
    omega (arith, later)
put_number from (Symlink q target ∷ rest) zero n m p num at = cc
put_number from (Symlink q target ∷ rest) (suc k) n m p num at = put_number from rest k n m p num at
put_number from (Hard q to ∷ rest) zero n m p num at = cc
put_number from (Hard q to ∷ rest) (suc k) n m p num at = put_number from rest k n m p num at

-- none behind it has the number of the first
first_again : (from j x : ℕ) (r : List ℕ) (rest : List Step) (l n m o : ℕ) (p q : List ℕ) → numbered from (Put j x r ∷ rest) ≡ true → Some (Put j x r) ≡ Some (Put n m p) → slice_get rest l ≡ Some (Put n o q) → ⊥
first_again from j x r rest l n m o p q num at there =
    let nums = and_parts (j == from) _ num in
    let first : j ≡ from = eqb-true j from nums.0 in
    let same : j ≡ n = cc in
    let later : n ≡ from + 1 + puts_in (take l rest) = put_number (from + 1) rest l n o q nums.1 there in
    omega (arith, first, same, later)

-- a content is put once
put_once : (from : ℕ) (steps : List Step) (k l n m o : ℕ) (p q : List ℕ) → numbered from steps ≡ true → slice_get steps k ≡ Some (Put n m p) → slice_get steps l ≡ Some (Put n o q) → m ≡ o
put_once from [] k l n m o p q num at there = cc
put_once from (Gone r ∷ rest) zero l n m o p q num at there = cc
put_once from (Gone r ∷ rest) (suc k) zero n m o p q num at there = cc
put_once from (Gone r ∷ rest) (suc k) (suc l) n m o p q num at there = put_once from rest k l n m o p q num at there
put_once from (Fresh x r ∷ rest) zero l n m o p q num at there = cc
put_once from (Fresh x r ∷ rest) (suc k) zero n m o p q num at there = cc
put_once from (Fresh x r ∷ rest) (suc k) (suc l) n m o p q num at there = put_once from rest k l n m o p q num at there
put_once from (Mode x r ∷ rest) zero l n m o p q num at there = cc
put_once from (Mode x r ∷ rest) (suc k) zero n m o p q num at there = cc
put_once from (Mode x r ∷ rest) (suc k) (suc l) n m o p q num at there = put_once from rest k l n m o p q num at there
put_once from (Put j x r ∷ rest) zero zero n m o p q num at there = cc
put_once from (Put j x r ∷ rest) zero (suc l) n m o p q num at there = absurd (first_again from j x r rest l n m o p q num at there)
put_once from (Put j x r ∷ rest) (suc k) zero n m o p q num at there = absurd (first_again from j x r rest k n o m q p num there at)
put_once from (Put j x r ∷ rest) (suc k) (suc l) n m o p q num at there = put_once (from + 1) rest k l n m o p q (and_parts (j == from) _ num).1 at there
put_once from (Symlink r target ∷ rest) zero l n m o p q num at there = cc
put_once from (Symlink r target ∷ rest) (suc k) zero n m o p q num at there = cc
put_once from (Symlink r target ∷ rest) (suc k) (suc l) n m o p q num at there = put_once from rest k l n m o p q num at there
put_once from (Hard r to ∷ rest) zero l n m o p q num at there = cc
put_once from (Hard r to ∷ rest) (suc k) zero n m o p q num at there = cc
put_once from (Hard r to ∷ rest) (suc k) (suc l) n m o p q num at there = put_once from rest k l n m o p q num at there

-- ---- how many puts there are

put_within : (steps : List Step) (k n m : ℕ) (p : List ℕ) → slice_get steps k ≡ Some (Put n m p) → puts_in (take k steps) < puts_in steps
put_within [] k n m p at = cc
put_within (Gone q ∷ rest) zero n m p at = cc
put_within (Gone q ∷ rest) (suc k) n m p at = put_within rest k n m p at
put_within (Fresh o q ∷ rest) zero n m p at = cc
put_within (Fresh o q ∷ rest) (suc k) n m p at = put_within rest k n m p at
put_within (Mode o q ∷ rest) zero n m p at = cc
put_within (Mode o q ∷ rest) (suc k) n m p at = put_within rest k n m p at
put_within (Put j o q ∷ rest) zero n m p at = omega arith
put_within (Put j o q ∷ rest) (suc k) n m p at = omega (arith, put_within rest k n m p at)
put_within (Symlink q target ∷ rest) zero n m p at = cc
put_within (Symlink q target ∷ rest) (suc k) n m p at = put_within rest k n m p at
put_within (Hard q to ∷ rest) zero n m p at = cc
put_within (Hard q to ∷ rest) (suc k) n m p at = put_within rest k n m p at

-- one step more
puts_at : (steps : List Step) (k : ℕ) (s : Step) → slice_get steps k ≡ Some s → puts_in (take (k + 1) steps) ≡ puts_in (take k steps) + puts_in (s ∷ [])
puts_at steps k s at =
    let one_more : k + 1 ≡ suc k = omega arith in
    ap (λ (n : ℕ). puts_in (take n steps)) one_more ∙ ap puts_in (taken steps k s at) ∙ puts_more (take k steps) (s ∷ [])
  where
    taken : (l : List Step) (k : ℕ) (s : Step) → slice_get l k ≡ Some s → take (suc k) l ≡ take k l ++ s ∷ []
    taken [] k s at = cc
    taken (x ∷ l) zero s at = let same : x ≡ s = cc in ap (λ (y : Step). y ∷ []) same
    taken (x ∷ l) (suc k) s at = ap (λ (r : List Step). x ∷ r) (taken l k s at)

none_put : (s : Step) → mode_put s ≡ None → puts_in (s ∷ []) ≡ 0
none_put (Gone p) none = refl
none_put (Fresh m p) none = refl
none_put (Mode m p) none = refl
none_put (Put n m p) none = cc
none_put (Symlink p target) none = refl
none_put (Hard p to) none = refl

-- The step puts a content with this mode.
record Puts (s : Step) (m : ℕ) : Type 0 where
  number : ℕ
  path : List ℕ
  is : s ≡ Put number m path

some_put : (s : Step) (m : ℕ) → mode_put s ≡ Some m → Puts s m
some_put (Gone p) m is = cc
some_put (Fresh o p) m is = cc
some_put (Mode o p) m is = cc
some_put (Put n o p) m is = let same : o ≡ m = cc in record { number = n; path = p; is = ap (λ (x : ℕ). Put n x p) same }
some_put (Symlink p target) m is = cc
some_put (Hard p to) m is = cc

proper_at : (steps : List Step) (k : ℕ) (s : Step) → AllProper steps → slice_get steps k ≡ Some s → IsProper s
proper_at [] k s proper at = cc
proper_at (x ∷ rest) zero s proper at = let same : x ≡ s = cc in subst IsProper same proper.0
proper_at (x ∷ rest) (suc k) s proper at = proper_at rest k s proper.1 at

-- ---- the next put

module _ (items : List program.Step) where
  abbrev all : List Step
  all = map step_of items

  -- a step of the program, among what they mean
  item_at : (k : ℕ) (x : program.Step) → k < length items → x ≡ get_or items k x → slice_get all k ≡ Some (step_of x)
  item_at k x lt is = mapped items k x (slice_get_read items (length items) k x refl lt is)
    where
      mapped : (l : List program.Step) (k : ℕ) (x : program.Step) → slice_get l k ≡ Some x → slice_get (map step_of l) k ≡ Some (step_of x)
      mapped [] k x at = cc
      mapped (y ∷ l) zero x at = let same : y ≡ x = cc in ap (λ (z : program.Step). Some (step_of z)) same
      mapped (y ∷ l) (suc k) x at = mapped l k x at

  module _ (place k : ℕ) (so_far : puts_in (take k all) ≡ puts_in (take place all)) (x : program.Step) (lt : k < length items) (is : x ≡ get_or items k x) where
    pub not_next : (e : Option ℕ) → e ≡ mode_put (step_of x) → e ≡ None → puts_in (take (k + 1) all) ≡ puts_in (take place all)
    not_next e told none =
        let more = puts_at all k (step_of x) (item_at k x lt is) in
        let zero_more = none_put (step_of x) (sym told ∙ none) in
        omega (arith, more, zero_more, so_far)

    pub is_next : (m : ℕ) → IsJournal all → Some m ≡ mode_put (step_of x) → IsNextPut all place m (k + 1)
    is_next m lists told =
        let puts = some_put (step_of x) m (sym told) in
        let at : slice_get all k ≡ Some (Put puts.number m puts.path) = item_at k x lt is ∙ ap (λ (s : Step). Some s) puts.is in
        let long = length-map items step_of in
        record {
          small = (proper_at all k (Put puts.number m puts.path) lists.proper at).1;
          within = omega (arith, long, lt);
          found = λ more. (k, puts.number, puts.path, at, so_far, refl);
        }

  -- none is put any more
  pub none_next : (place k : ℕ) → length items ≤ k → puts_in (take k all) ≡ puts_in (take place all) → IsNextPut all place 384 (length items)
  none_next place k past so_far =
      let long = length-map items step_of in
      let whole : puts_in (take k all) ≡ puts_in all = ap puts_in (take_all k all (omega (arith, long, past))) in
      record {
        small = omega arith;
        within = omega (arith, long);
        found = λ more. absurd (omega (arith, whole, so_far, more));
      }

-- ---- one content more has the mode of its put

module _ (steps : List Step) (lists : IsJournal steps) (i place mode next : ℕ) (is : IsNextPut steps place mode next) (counted : puts_in (take place steps) ≡ i) (more : i < puts_in steps) where
  goes_on : puts_in (take place steps) < puts_in steps
  goes_on = omega (arith, counted, more)

  pub counted_more : puts_in (take next steps) ≡ i + 1
  counted_more =
      let found = is.found goes_on in
      let one = puts_at steps found.0 (Put found.1 mode found.2) found.3 in
      let same : puts_in (take next steps) ≡ puts_in (take (found.0 + 1) steps) = ap (λ (k : ℕ). puts_in (take k steps)) found.5 in
      omega (arith, one, same, found.4, counted)

  -- the put of this number has that mode
  its_mode : (k n m : ℕ) (p : List ℕ) → n ≡ i → slice_get steps k ≡ Some (Put n m p) → m ≡ mode
  its_mode k n m p here at =
      let found = is.found goes_on in
      let number = put_number 0 steps found.0 found.1 mode found.2 lists.numbers found.3 in
      let same : n ≡ found.1 = omega (arith, number, found.4, counted, here) in
      put_once 0 steps k found.0 n m mode p found.2 lists.numbers at (subst (λ (j : ℕ). slice_get steps found.0 ≡ Some (Put j mode found.2)) (sym same) found.3)

  pub modes_more : (u v : Image) → i < 2 ^ 64 → Agrees (covers (stage_path i)) nowhere u v → (bytes : List ℕ) → v.look (stage_path i) ≡ Some (File mode bytes)
      → ((k n m : ℕ) (p : List ℕ) → n < i → slice_get steps k ≡ Some (Put n m p) → (b : List ℕ) × (u.look (stage_path n) ≡ Some (File m b)))
      → (k n m : ℕ) (p : List ℕ) → n < i + 1 → slice_get steps k ≡ Some (Put n m p) → (b : List ℕ) × (v.look (stage_path n) ≡ Some (File m b))
  modes_more u v few wrote bytes file before k n m p lt at = elim (cases_lt n i) [
    | inl less ↦
        let old = before k n m p less at in
        (old.0, wrote.look (stage_path n) (contents_apart i n few (omega (arith, less, few)) (λ e. omega (arith, less, e))) refl ∙ old.1)
    | inr over ↦
        let here : n ≡ i = omega (arith, lt, over) in
        (bytes, ap (λ (j : ℕ). v.look (stage_path j)) here ∙ file ∙ ap (λ (x : ℕ). Some (File x bytes)) (sym (its_mode k n m p here at)))
  ]

-- all of them
pub have_modes : (steps : List Step) (lists : IsJournal steps) (count i : ℕ) (t : Image) → puts_in steps ≡ count → count ≤ i
    → ((k n m : ℕ) (p : List ℕ) → n < i → slice_get steps k ≡ Some (Put n m p) → (b : List ℕ) × (t.look (stage_path n) ≡ Some (File m b))) → HaveModes steps t
have_modes steps lists count i t counted past are k n m p at =
    let number = put_number 0 steps k n m p lists.numbers at in
    let inside = put_within steps k n m p at in
    are k n m p (omega (arith, number, inside, counted, past)) at
