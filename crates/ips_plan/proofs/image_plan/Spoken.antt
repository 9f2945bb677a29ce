-- A request in which is said of paths just what is told of them.
use Rattle.std.proofs.Common.{◌≡◌, ℕ, Bool, true, false, cond, not, List, [], ◌∷◌, map, Option, Some, None, refl, sym, ap, subst, ◌∙◌, ◌<◌, arith, inl, inr}
use Rattle.std.proofs.lemmas.Bool.{and_parts, not-true, or_cases, or_parts}
use Rattle.std.specs.List.{AllByRecursion}
use Rattle.std.specs.List.Sorted.{IsStrictlySortedBy}
use Rattle.std.specs.Ordering.{nat_cmp}
use Rattle.std.specs.Cmp.Lexicographic.{slice_cmp}
use Rattle.ips_steps.proofs.Laid.{flip}
use Rattle.ips_text.specs.Path.{IsPath}
use Rattle.ips_text.specs.Ancestry.{same_path}
use Rattle.ips_text.proofs.Ancestry.{same_path-self, same_path-true}
use Rattle.ips_outside.specs.Image.{Dir, Entry}
use Rattle.ips_after.specs.Findings.{is_account_path}
use Rattle.ips_after.specs.Lists.{listed, unrepeated}
use Rattle.ips_after.specs.Planned.{HasEntryParts}
use Rattle.ips_after.specs.Request.{Over}
use Rattle.ips_after.proofs.Sorted.{sorted_once}
use Rattle.ips_change.specs.survey.Said.{said_as}
use Rattle.ips_change.specs.survey.Tables.{AreSpoken, spoken_paths}
use Rattle.ips_change.specs.declared.survey.said.Said.{Said}
use Rattle.ips_change.specs.declared.survey.said.Said.TheVariants.{Lays, Takes}
use Rattle.ips_change.specs.declared.survey.said.Spoken.{Spoken}

-- what is said of a path
abbrev said_in : List Spoken → List ℕ → Option Said
said_in [] q = None
said_in (s ∷ spoken) q = cond (same_path s.path.now.bytes q) s.said (said_in spoken q)

-- a directory is laid where something is
abbrev entry_for : Option Said → Option (Option Entry)
entry_for (Some Lays) = Some (Some (Dir 493 false))
entry_for (Some Takes) = Some None
entry_for None = None

abbrev pub over_spoken : List Spoken → Over
over_spoken spoken = record { at = λ q. entry_for (said_in spoken q); is_account = is_account_path; keys = spoken_paths spoken }

said_back : (o : Option Said) → said_as (entry_for o) ≡ o
said_back (Some Lays) = refl
said_back (Some Takes) = refl
said_back None = refl

-- of other paths is said what was said before
kept : (s : Spoken) (spoken : List Spoken) (xs : List (List ℕ)) → listed xs s.path.now.bytes ≡ false → map (λ p. said_as (entry_for (said_in spoken p))) xs ≡ map (λ p. said_as (entry_for (said_in (s ∷ spoken) p))) xs
kept s spoken [] none = refl
kept s spoken (p ∷ xs) none =
    let parts = or_parts (same_path p s.path.now.bytes) (listed xs s.path.now.bytes) none in
    let one : same_path s.path.now.bytes p ≡ false = flip p s.path.now.bytes parts.0 in
    let head : said_as (entry_for (said_in spoken p)) ≡ said_as (entry_for (said_in (s ∷ spoken) p)) = ap (λ (b : Bool). said_as (entry_for (cond b s.said (said_in spoken p)))) (sym one) in
    let rest = kept s spoken xs parts.1 in
    cc

-- a path in order isn't among those behind it
none_behind : (x : List ℕ) (xs : List (List ℕ)) → IsStrictlySortedBy (slice_cmp nat_cmp) (x ∷ xs) → listed xs x ≡ false
none_behind x xs order = not-true (listed xs x) (and_parts (not (listed xs x)) (unrepeated xs) (sorted_once (x ∷ xs) order)).0

all_said : (spoken : List Spoken) → IsStrictlySortedBy (slice_cmp nat_cmp) (spoken_paths spoken) → map (λ s. s.said) spoken ≡ map (λ p. said_as (entry_for (said_in spoken p))) (spoken_paths spoken)
unfolding IsStrictlySortedBy
all_said [] order = refl
all_said (s ∷ spoken) order =
    let p = s.path.now.bytes in
    let rest : map (λ (x : Spoken). x.said) spoken ≡ map (λ q. said_as (entry_for (said_in (s ∷ spoken) q))) (spoken_paths spoken) = all_said spoken order.1 ∙ kept s spoken (spoken_paths spoken) (none_behind p (spoken_paths spoken) order) in
    let head : said_as (entry_for (said_in (s ∷ spoken) p)) ≡ s.said = ap (λ (b : Bool). said_as (entry_for (cond b s.said (said_in spoken p)))) (same_path-self p) ∙ said_back s.said in
    cc

none_said : (spoken : List Spoken) (q : List ℕ) → listed (spoken_paths spoken) q ≡ false → entry_for (said_in spoken q) ≡ None
none_said [] q none = refl
none_said (s ∷ spoken) q none =
    let parts = or_parts (same_path s.path.now.bytes q) (listed (spoken_paths spoken) q) none in
    ap (λ (b : Bool). entry_for (cond b s.said (said_in spoken q))) parts.0 ∙ none_said spoken q parts.1

pub are_spoken : (spoken : List Spoken) → IsStrictlySortedBy (slice_cmp nat_cmp) (spoken_paths spoken) → AreSpoken (over_spoken spoken) spoken
are_spoken spoken order = record { paths = refl; said = all_said spoken order; none_else = none_said spoken }

pub spoken_path : (spoken : List Spoken) → AllByRecursion (λ s. IsPath s.path.now.bytes) spoken → (q : List ℕ) → listed (spoken_paths spoken) q ≡ true → IsPath q
spoken_path [] all q there = cc
spoken_path (s ∷ spoken) all q there = elim (or_cases (same_path s.path.now.bytes q) (listed (spoken_paths spoken) q) there) [
  | inl same ↦ subst IsPath (same_path-true s.path.now.bytes q same) all.0
  | inr later ↦ spoken_path spoken all.1 q later
]

parts_for : (o : Option Said) (e : Entry) → entry_for o ≡ Some (Some e) → HasEntryParts e
parts_for (Some Lays) e is = let one : Dir 493 false ≡ e = cc in subst HasEntryParts one (let small : 493 < 4096 = omega arith in small)
parts_for (Some Takes) e is = cc
parts_for None e is = cc

pub spoken_parts : (spoken : List Spoken) (q : List ℕ) (e : Entry) → (over_spoken spoken).at q ≡ Some (Some e) → HasEntryParts e
spoken_parts spoken q e is = parts_for (said_in spoken q) e is
