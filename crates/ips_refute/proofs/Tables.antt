-- Looking for a pair.
use Rattle.std.proofs.Common.{◌≡◌, ℕ, suc, ◌<◌, ◌↔◌, inl, inr, Bool, true, false, IsTrue, List, ◌∷◌, length, get_or, Contains, refl, sym, ap, ◌∙◌, arith, eqb, eqb-true, eq-eqb}
use Rattle.std.proofs.lemmas.Bool.{cases_lt}
use Rattle.std.proofs.lemmas.List.{get_or_default}
use Rattle.ips_refute.specs.declared.nogoods.Pair.{Pair}
use Rattle.ips_refute.specs.Meaning.{OnePerStem}
use Rattle.ips_refute.specs.Table.{chosen}
use Rattle.ips_refute.specs.Laws.{contains_chosen, chosen_contains, same_pair}
use Rattle.ips_refute.proofs.Checks.{contains_more, contains_rest}

-- where the stem stands, the candidate decides
pub has_here : (set : List Pair) (i : ℕ) (q d : Pair) → OnePerStem set → i < length set → (get_or set i d).stem ≡ q.stem → IsTrue (eqb (get_or set i d).candidate q.candidate) ↔ Contains set q
has_here set i q d one lt at =
    let same : get_or set i d ≡ get_or set i q = get_or_default set i d q lt in (
      λ t. (i, lt, sym same ∙ same_pair (get_or set i d) q at (eqb-true (get_or set i d).candidate q.candidate t)),
      λ (k, l, e).
          let stem_k : (get_or set k q).stem ≡ q.stem = ap (λ (p : Pair). p.stem) e in
          let stem_i : (get_or set i q).stem ≡ q.stem = ap (λ (p : Pair). p.stem) (sym same) ∙ at in
          elim (cases_lt k i) [
            | inl h ↦ absurd (one k i q h lt (stem_k ∙ sym stem_i))
            | inr g ↦ elim (cases_lt i k) [
              | inl h ↦ absurd (one i k q h l (stem_i ∙ sym stem_k))
              | inr f ↦
                  let here : k ≡ i = omega arith in
                  eq-eqb (get_or set i d).candidate q.candidate (ap (λ (p : Pair). p.candidate) (same ∙ ap (λ n. get_or set n q) (sym here) ∙ e))
            ]
          ],
    )

pub one_rest : (p : Pair) (set : List Pair) → OnePerStem (p ∷ set) → OnePerStem set
one_rest p set one i j d l h e = one (suc i) (suc j) d (omega arith) (omega arith) e

same_bool : (r t : Bool) → (r ≡ true → t ≡ true) → (t ≡ true → r ≡ true) → r ≡ t
same_bool true t f g = sym (f refl)
same_bool false true f g = g refl
same_bool false false f g = refl

-- a pair of the stem of `more` is chosen where it is `more`
pub chosen_of_stem : (r : Bool) (set : List Pair) (p more : Pair) → OnePerStem (more ∷ set) → p.stem ≡ more.stem → (IsTrue r ↔ (p.candidate ≡ more.candidate)) → r ≡ chosen (more ∷ set) p
chosen_of_stem r set p more one stem (to, from) =
    same_bool r (chosen (more ∷ set) p)
    (λ t. contains_chosen (more ∷ set) p (0, omega arith, same_pair more p (sym stem) (sym (to t))))
    (λ t. elim (contains_more p more set (chosen_contains (more ∷ set) p t)) [
      | inl same ↦ from (ap (λ (q : Pair). q.candidate) (sym same))
      | inr h ↦
          let (k, l, e) = h in
          absurd (one 0 (suc k) p (omega arith) (omega arith) (sym stem ∙ sym (ap (λ (q : Pair). q.stem) e)))
    ])

-- a pair of another stem is chosen where it is in the set
pub chosen_of_others : (r : Bool) (set : List Pair) (p more : Pair) → (p.stem ≡ more.stem → ⊥) → (IsTrue r ↔ Contains set p) → r ≡ chosen (more ∷ set) p
chosen_of_others r set p more other (to, from) =
    same_bool r (chosen (more ∷ set) p)
    (λ t. contains_chosen (more ∷ set) p (contains_rest p more set (to t)))
    (λ t. elim (contains_more p more set (chosen_contains (more ∷ set) p t)) [
      | inl same ↦ absurd (other (ap (λ (q : Pair). q.stem) (sym same)))
      | inr h ↦ from h
    ])
