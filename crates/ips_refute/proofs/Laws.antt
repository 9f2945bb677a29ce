-- Where all nogoods hold, no choice contains the set of one.
use Rattle.std.proofs.Common.{◌≡◌, ℕ, zero, suc, ◌-◌, ◌<◌, List, [], ◌∷◌, length, get_or, slice_index, slice_get, take, Some, sym, subst, arith, take_all}
use Rattle.std.proofs.lemmas.Option.{slice_get-get_or}
use Rattle.std.proofs.lemmas.Bool.{both_ways}
use Rattle.ips_refute.specs.declared.nogoods.Pair.{Pair}
use Rattle.ips_refute.specs.declared.nogoods.Nogood.{Nogood}
use Rattle.ips_refute.specs.declared.nogoods.Reason.{Reason}
use Rattle.ips_refute.specs.declared.nogoods.Reason.TheVariants.{Test, Earlier}
use Rattle.ips_refute.specs.Meaning.{Meaning, Lawful, IsSubset, OnePerStem, Solves, HasNoChoice, BreaksNone, pairs}
use Rattle.ips_refute.specs.Refuting.{Explains, IsNogood, AreNogoods, IsRefutation}
use Rattle.ips_refute.proofs.Choices.{pair, OnePerStem-pairs, Contains-pairs, Within-trans, Within-cons, OnePerStem-cons, slice_get-take}

-- no nogood before number n has its set in the choice
abbrev pub ExcludesBelow : List Nogood → List ℕ → ℕ → Type 0
ExcludesBelow ns choice n = (i : ℕ) (g : Nogood) → i < n → slice_get ns i ≡ Some g → IsSubset g.set.items (pairs choice) → ⊥

no_reason : (m : Meaning) → Lawful m → (ns : List Nogood) (choice : List ℕ) (i : ℕ) (set : List Pair) (r : Reason) → BreaksNone m (pairs choice) → ExcludesBelow ns choice i → OnePerStem set → IsSubset set (pairs choice) → Explains m (take i ns) set r → ⊥
no_reason m law ns choice i set (Test t) holds before one within (lt, b) =
    let broken = law.keeps t set (pairs choice) lt one (OnePerStem-pairs choice) b (λ k d h _. within k d h) in
    both_ways _ (holds t lt) broken
no_reason m law ns choice i set (Earlier n) holds before one within (g, e, w) =
    let r = slice_get-take i ns n g e in
    before n g r.0 r.1 (Within-trans g.set.items set (pairs choice) w within)

no_nogood : (m : Meaning) → Lawful m → (ns : List Nogood) (choice : List ℕ) (i : ℕ) (g : Nogood) → Solves m choice → IsNogood m (take i ns) g → ExcludesBelow ns choice i → IsSubset g.set.items (pairs choice) → ⊥
no_nogood m law ns choice i g (whole, good) ok before within =
    let c = slice_index choice g.stem in
    let in_choice : g.stem < length choice = omega (arith, ok.known, whole) in
    let below : c < length g.reasons.items = omega (arith, ok.each, good.offered g.stem in_choice) in
    let r = get_or g.reasons.items c (Test 0) in
    let why = ok.explained c r (slice_get-get_or g.reasons.items c (Test 0) below) in
    no_reason m law ns choice i (pair g.stem c ∷ g.set.items) r good.holds before
    (OnePerStem-cons (pair g.stem c) g.set.items ok.free ok.one_per_stem)
    (Within-cons (pair g.stem c) g.set.items (pairs choice) (Contains-pairs choice g.stem in_choice) within)
    why

pub excludes_below : (m : Meaning) → Lawful m → (ns : List Nogood) (choice : List ℕ) → Solves m choice → AreNogoods m ns → (n : ℕ) → ExcludesBelow ns choice n
excludes_below m law ns choice solves ok zero i g h e w = absurd (omega arith)
excludes_below m law ns choice solves ok (suc n) i g h e w =
    no_nogood m law ns choice i g solves (ok i g e) (λ j f l. excludes_below m law ns choice solves ok n j f (omega arith)) w

-- no choice contains the set of a nogood
pub excludes : (m : Meaning) → Lawful m → (ns : List Nogood) (choice : List ℕ) → Solves m choice → AreNogoods m ns → (i : ℕ) (g : Nogood) → slice_get ns i ≡ Some g → IsSubset g.set.items (pairs choice) → ⊥
excludes m law ns choice solves ok i g = excludes_below m law ns choice solves ok (suc i) i g (omega arith)

pub refuted : (m : Meaning) → Lawful m → (ns : List Nogood) → IsRefutation m ns → HasNoChoice m
refuted m law ns (ok, (g, lt, e, empty)) choice solves =
    let within : IsSubset [] (pairs choice) = λ k d h. absurd (omega arith) in
    excludes m law ns choice solves ok (length ns - 1) g e (subst (λ (s : List Pair). IsSubset s (pairs choice)) (sym empty) within)

-- no choice has all of a set that is explained
pub no_explanation : (m : Meaning) → Lawful m → (ns : List Nogood) (choice : List ℕ) → Solves m choice → AreNogoods m ns → (set : List Pair) (r : Reason) → OnePerStem set → IsSubset set (pairs choice) → Explains m ns set r → ⊥
no_explanation m law ns choice solves ok set r one within why =
    let P : List Nogood → Type 0 = λ l. Explains m l set r in
    no_reason m law ns choice (length ns) set r solves.1.holds (excludes_below m law ns choice solves ok (length ns)) one within (subst P (sym (take_all (length ns) ns (omega arith))) why)
