-- A table's tests are facts about the pairs of their stems.
use Rattle.std.proofs.Common.{◌≡◌, ℕ, zero, suc, ◌<◌, ◌≤◌, true, false, ◌&&◌, List, [], ◌∷◌, All, Contains, length, slice_get, Option, Some, None, refl, ap, ◌∙◌, inl, inr, arith, eqb-true, eq-eqb, leb}
use Rattle.std.proofs.lemmas.Bool.{both_ways, or_cases, and_parts, and_from, or_left, or_right, leb-true}
use Rattle.std.proofs.lemmas.List.Elements.{All-contains}
use Rattle.ips_refute.specs.declared.nogoods.Pair.{Pair}
use Rattle.ips_refute.specs.declared.table.Rule.{Rule}
use Rattle.ips_refute.specs.declared.table.Table.{Table}
use Rattle.ips_refute.specs.Meaning.{Lawful}
use Rattle.ips_refute.specs.Table.{EndBelow, all_chosen, breaks_at, chosen, last_of, rules_of, table_meaning}

pub contains_chosen : (set : List Pair) (q : Pair) → Contains set q → chosen set q ≡ true
contains_chosen [] q (k, l, e) = absurd (omega arith)
contains_chosen (p ∷ set) q (zero, l, e) = or_left _ _ (and_from _ _ (eq-eqb p.stem q.stem (ap (λ (x : Pair). x.stem) e)) (eq-eqb p.candidate q.candidate (ap (λ (x : Pair). x.candidate) e)))
contains_chosen (p ∷ set) q (suc k, l, e) = or_right _ _ (contains_chosen set q (k, omega arith, e))

abbrev paired : ℕ → ℕ → Pair
paired s c = record { stem = s; candidate = c }

pub same_pair : (p q : Pair) → p.stem ≡ q.stem → p.candidate ≡ q.candidate → p ≡ q
same_pair p q e f = ap (λ (n : ℕ). paired n p.candidate) e ∙ ap (λ (n : ℕ). paired q.stem n) f

pub chosen_contains : (set : List Pair) (q : Pair) → chosen set q ≡ true → Contains set q
chosen_contains [] q e = absurd (both_ways false refl e)
chosen_contains (p ∷ set) q e = elim (or_cases _ _ e) [
  | inl h ↦
      let r = and_parts _ _ h in
      (0, omega arith, same_pair p q (eqb-true p.stem q.stem r.0) (eqb-true p.candidate q.candidate r.1))
  | inr h ↦ let (k, l, f) = chosen_contains set q h in (suc k, omega arith, f)
]

known_at : (stems : ℕ) (rules : List Rule) (t : ℕ) → EndBelow stems rules → t < length rules → last_of (slice_get rules t) < stems
known_at stems [] t h lt = absurd (omega arith)
known_at stems (r ∷ rules) zero h lt = h 0 r (omega arith)
known_at stems (r ∷ rules) (suc t) h lt = known_at stems rules t (λ k d l. h (suc k) d (omega arith)) (omega arith)

decided_at : (o : Option Rule) (set : List Pair) → breaks_at o set ≡ true → (q : Pair) × Contains set q × (q.stem ≡ last_of o)
decided_at None set e = absurd (both_ways false refl e)
decided_at (Some r) set e = (r.last, chosen_contains set r.last (and_parts (chosen set r.last) (all_chosen set r.last.stem r.others.items) e).0, refl)

abbrev Keeps : ℕ → List Pair → List Pair → Type 0
Keeps last set other = All (λ q. q.stem ≤ last → Contains other q) set

keeps_all : (last : ℕ) (others set other : List Pair) → all_chosen set last others ≡ true → Keeps last set other → all_chosen other last others ≡ true
keeps_all last [] set other e w = refl
keeps_all last (q ∷ others) set other e w =
    let r = and_parts (leb q.stem last && chosen set q) (all_chosen set last others) e in
    let h = and_parts (leb q.stem last) (chosen set q) r.0 in
    let has : Contains other q = All-contains (λ (p : Pair). p.stem ≤ last → Contains other p) set q w (chosen_contains set q h.1) (leb-true q.stem last h.0) in
    and_from (leb q.stem last && chosen other q) (all_chosen other last others) (and_from (leb q.stem last) (chosen other q) h.0 (contains_chosen other q has)) (keeps_all last others set other r.1 w)

keeps_at : (o : Option Rule) (set other : List Pair) → breaks_at o set ≡ true → Keeps (last_of o) set other → breaks_at o other ≡ true
keeps_at None set other e w = e
keeps_at (Some r) set other e w =
    let h = and_parts (chosen set r.last) (all_chosen set r.last.stem r.others.items) e in
    let has : Contains other r.last = All-contains (λ (p : Pair). p.stem ≤ r.last.stem → Contains other p) set r.last w (chosen_contains set r.last h.0) (omega arith) in
    and_from (chosen other r.last) (all_chosen other r.last.stem r.others.items) (contains_chosen other r.last has) (keeps_all r.last.stem r.others.items set other h.1 w)

pub table_lawful : (table : Table) → Lawful (table_meaning table)
table_lawful table = record {
  known = λ t lt. let k = known_at _ (rules_of table) t table.known lt in omega (arith, k, table.counts.ok.0);
  decided = λ t set lt one e. decided_at (slice_get (rules_of table) t) set e;
  keeps = λ t set other lt a b e w. keeps_at (slice_get (rules_of table) t) set other e w;
}
