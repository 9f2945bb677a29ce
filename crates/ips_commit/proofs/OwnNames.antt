-- The updater's own names: what is at and below them, and that no step reaches them.
use Rattle.std.proofs.Common.{◌≡◌, ◌⊎◌, inl, inr, ℕ, ◌+◌, ◌%◌, ◌^◌, ◌<◌, Bool, true, false, cond, not, ◌||◌, ◌==◌, List, [], ◌∷◌, ◌++◌, Option, Some, None, is_none, refl, sym, ◌∙◌, ap, subst, arith}
use Rattle.std.specs.Fmt.{decimal}
use Rattle.std.proofs.lemmas.Fmt.{decimal_by_steps}
use Rattle.std.proofs.lemmas.Bool.{and_parts, and_from, or_parts, or_from, or_cases, eqb-true, eq-eqb, ne_eqb, not-true, false_from_ne_true}
use Rattle.ips_text.specs.Ancestry.{same_path, covers, parent}
use Rattle.ips_text.proofs.Ancestry.{same_path-true, at_parent_of, parent_on}
use Rattle.ips_outside.specs.Image.{Entry, Image, IsImage, is_dir, dir_or_none, has_parent}
use Rattle.ips_steps.specs.Steps.{Step, Gone, Fresh, Mode, Put, Symlink, Hard, stage_name, frees, freed}
use Rattle.ips_steps.specs.Private.{records_name, journal_name, gate_name, mark_front, mark_name, begins, is_private}
use Rattle.ips_steps.specs.Journal.{may_name, step_allowed, allowed}
use Rattle.ips_steps.proofs.Lists.{clash}
use Rattle.ips_steps.proofs.PrivateNames.{begins_front, mark_private, mark_parent}
use Rattle.ips_commit.specs.Pending.{is_swept}

-- ---- the names one by one

swept_or : (a b c d : Bool) → (a || (b || (c || d))) ≡ true → ((a || (b || d)) ≡ true) ⊎ (c ≡ true)
swept_or true b c d is = inl refl
swept_or false true c d is = inl refl
swept_or false false true d is = inr refl
swept_or false false false d is = inl is

-- what is private is swept, or is at or below the gate
pub private_cases : (q : List ℕ) → is_private q ≡ true → (is_swept q ≡ true) ⊎ (covers gate_name q ≡ true)
private_cases q is = swept_or (covers stage_name q) (covers journal_name q) (covers gate_name q) (begins mark_front q) is

or_more : (a b c d : Bool) → (a || (b || d)) ≡ true → (a || (b || (c || d))) ≡ true
or_more true b c d is = refl
or_more false true c d is = refl
or_more false false true d is = refl
or_more false false false d is = is

pub swept_private : (q : List ℕ) → is_swept q ≡ true → is_private q ≡ true
swept_private q is = or_more (covers stage_name q) (covers journal_name q) (covers gate_name q) (begins mark_front q) is

pub gate_unswept : is_swept gate_name ≡ false
unfolding stage_name journal_name gate_name mark_front
gate_unswept = refl

mark_front_gate : (d : List ℕ) → covers gate_name (mark_front ++ d) ≡ false
unfolding gate_name mark_front
mark_front_gate d = refl

pub records_unswept : is_swept records_name ≡ false
unfolding stage_name journal_name records_name mark_front
records_unswept = refl

pub stage_swept : (q : List ℕ) → is_swept q ≡ false → covers stage_name q ≡ false
stage_swept q off = (or_parts (covers stage_name q) _ off).0

pub journal_swept : (q : List ℕ) → is_swept q ≡ false → covers journal_name q ≡ false
journal_swept q off = (or_parts (covers journal_name q) _ (or_parts (covers stage_name q) _ off).1).0

pub marks_swept : (q : List ℕ) → is_swept q ≡ false → begins mark_front q ≡ false
marks_swept q off = (or_parts (covers journal_name q) _ (or_parts (covers stage_name q) _ off).1).1

-- ---- what is below something that is absent

pub absent_below : (t : Image) → IsImage t → (p q : List ℕ) → covers p q ≡ true → t.look p ≡ None → t.look q ≡ None
absent_below t formed p q c none = go (same_path p q) refl (t.look q) refl
  where
    go : (s : Bool) → same_path p q ≡ s → (e : Option Entry) → t.look q ≡ e → t.look q ≡ None
    go true is e there = ap t.look (sym (same_path-true p q is)) ∙ none
    go false is None there = there
    go false is (Some e) there =
        let above : is_dir (t.look p) ≡ true = subst (λ (x : Option Entry). (is_none x || is_dir (t.look p)) ≡ true) there (formed.below_dirs p q c is) in
        absurd (let no : is_dir (t.look p) ≡ false = ap is_dir none in cc)

-- ---- marks

-- a path that begins with a front is the front and what is behind it
pub behind_front : (f q : List ℕ) → begins f q ≡ true → (d : List ℕ) × (q ≡ f ++ d)
behind_front [] q b = (q, refl)
behind_front (x ∷ f) [] b = cc
behind_front (x ∷ f) (y ∷ q) b =
    let parts = and_parts (x == y) (begins f q) b in
    let rest = behind_front f q parts.1 in
    let first : x ≡ y = eqb-true x y parts.0 in
    (rest.0, let shape = rest.1 in cc)

-- no mark is at or below the gate
pub unmarked_gate : (q : List ℕ) → begins mark_front q ≡ true → covers gate_name q ≡ false
unmarked_gate q b = let cut = behind_front mark_front q b in ap (covers gate_name) cut.1 ∙ mark_front_gate cut.0

-- the bytes before the first `/`
abbrev pub first_part : List ℕ → List ℕ
first_part [] = []
first_part (b ∷ bytes) = cond (b == 47) [] (b ∷ first_part bytes)

part_covers : (bytes : List ℕ) → covers (first_part bytes) bytes ≡ true
part_covers [] = refl
part_covers (b ∷ bytes) = go (b == 47) refl (part_covers bytes)
  where
    go : (s : Bool) → (b == 47) ≡ s → covers (first_part bytes) bytes ≡ true → covers (cond s [] (b ∷ first_part bytes)) (b ∷ bytes) ≡ true
    go true is up = is
    go false is up = and_from (b == b) _ (eq-eqb b b refl) up

part_alone : (bytes : List ℕ) → parent (first_part bytes) ≡ None
part_alone [] = refl
part_alone (b ∷ bytes) = go (b == 47) refl (part_alone bytes)
  where
    go : (s : Bool) → (b == 47) ≡ s → parent (first_part bytes) ≡ None → parent (cond s [] (b ∷ first_part bytes)) ≡ None
    go true is none = refl
    go false is none = rw (none, is) refl

covers_both : (f p q : List ℕ) → covers p q ≡ true → covers (f ++ p) (f ++ q) ≡ true
covers_both [] p q c = c
covers_both (x ∷ f) p q c = and_from (x == x) _ (eq-eqb x x refl) (covers_both f p q c)

parent_of_mark : (part : List ℕ) → parent part ≡ None → parent (mark_front ++ part) ≡ Some records_name
unfolding mark_front records_name
parent_of_mark part none = rw none refl

-- The mark that a path is at or below.
pub record Mark (q : List ℕ) : Type 0 where
  pub name : List ℕ
  pub covers_it : covers name q ≡ true
  pub in_records : parent name ≡ Some records_name
  pub is_mark : begins mark_front name ≡ true

pub mark_of : (q : List ℕ) → begins mark_front q ≡ true → Mark q
mark_of q b =
    let cut = behind_front mark_front q b in
    record {
      name = mark_front ++ first_part cut.0;
      covers_it = ap (covers (mark_front ++ first_part cut.0)) cut.1 ∙ covers_both mark_front (first_part cut.0) cut.0 (part_covers cut.0);
      in_records = parent_of_mark (first_part cut.0) (part_alone cut.0);
      is_mark = begins_front mark_front (first_part cut.0);
    }

in_records_dir : (d : List ℕ) → (covers records_name (mark_front ++ d) ≡ true) × (same_path records_name (mark_front ++ d) ≡ false)
unfolding records_name mark_front
in_records_dir d = (refl, refl)

gate_in_records : (covers records_name gate_name ≡ true) × (same_path records_name gate_name ≡ false)
unfolding records_name gate_name
gate_in_records = (refl, refl)

-- a number has no parent
number_alone : (n : ℕ) → n < 2 ^ 64 → parent (decimal n) ≡ None
number_alone = decimal_by_steps (λ n ds. parent ds ≡ None)
    (λ n few. ap (λ (b : Bool). cond b (Some []) None) (ne_eqb (48 + n) 47 (λ e. omega (arith, e))))
    (λ n ds large alone. parent_on ds (48 + n % 10) (ne_eqb (48 + n % 10) 47 (λ e. omega (arith, e))) ∙ alone)

-- where the records' folder is no directory, nothing is in it
pub no_mark_without : (t : Image) → IsImage t → is_dir (t.look records_name) ≡ false → (q : List ℕ) → begins mark_front q ≡ true → t.look q ≡ None
no_mark_without t formed none q b =
    let cut = behind_front mark_front q b in
    let place = in_records_dir cut.0 in
    go (t.look q) refl (subst (λ (x : List ℕ). covers records_name x ≡ true) (sym cut.1) place.0) (subst (λ (x : List ℕ). same_path records_name x ≡ false) (sym cut.1) place.1)
  where
    go : (e : Option Entry) → t.look q ≡ e → covers records_name q ≡ true → same_path records_name q ≡ false → t.look q ≡ None
    go None is c s = is
    go (Some e) is c s =
        let dir : is_dir (t.look records_name) ≡ true = subst (λ (x : Option Entry). (is_none x || is_dir (t.look records_name)) ≡ true) is (formed.below_dirs records_name q c s) in
        clash (is_dir (t.look records_name)) dir none

-- where something stands at the gate, the marks' parent is a directory
pub mark_parent_of : (t : Image) → IsImage t → (t.look gate_name ≡ None → ⊥) → (n : ℕ) → n < 2 ^ 64 → has_parent t (mark_name n) ≡ true
mark_parent_of t formed gate n small = go (t.look gate_name) refl
  where
    up : (e : Option Entry) → t.look gate_name ≡ e → (is_none e || is_dir (t.look records_name)) ≡ true
    up e is = subst (λ (x : Option Entry). (is_none x || is_dir (t.look records_name)) ≡ true) is (formed.below_dirs records_name gate_name gate_in_records.0 gate_in_records.1)

    go : (e : Option Entry) → t.look gate_name ≡ e → has_parent t (mark_name n) ≡ true
    go None is = absurd (gate is)
    go (Some e) is = ap (dir_or_none t) (parent_of_mark (decimal n) (number_alone n small)) ∙ up (Some e) is

-- ---- no step is at or above a mark

above_front : (p f q : List ℕ) → begins f q ≡ true → covers p q ≡ true → (begins f p || covers p f) ≡ true
above_front [] [] q b c = refl
above_front [] (y ∷ f) [] b c = cc
above_front [] (y ∷ f) (z ∷ q) b c = let same = eqb-true y z (and_parts (y == z) (begins f q) b).0 in subst (λ (x : ℕ). (x == 47) ≡ true) (sym same) c
above_front (x ∷ p) [] q b c = refl
above_front (x ∷ p) (y ∷ f) [] b c = cc
above_front (x ∷ p) (y ∷ f) (z ∷ q) b c =
    let bs = and_parts (y == z) (begins f q) b in
    let cs = and_parts (x == z) (covers p q) c in
    let same : x ≡ y = eqb-true x z cs.0 ∙ sym (eqb-true y z bs.0) in
    let e : (x == y) ≡ true = eq-eqb x y same in
    let f' : (y == x) ≡ true = eq-eqb y x (sym same) in
    rw (e, f') (above_front p f q bs.1 cs.1)

unnamed_mark : (p q : List ℕ) → begins mark_front q ≡ true → may_name p ≡ true → covers p q ≡ false
unnamed_mark p q b may = false_from_ne_true _ (λ c. elim (or_cases (begins mark_front p) (covers p mark_front) (above_front p mark_front q b c)) [
  | inl own ↦ clash (is_private p) (mark_private p own) seen
  | inr up ↦ go up (same_path p mark_front) refl
])
  where
    both : (not (is_private p) ≡ true) × (not (covers p records_name) ≡ true)
    both = and_parts (not (is_private p)) (not (covers p records_name)) may

    seen : is_private p ≡ false
    seen = not-true _ both.0

    go : covers p mark_front ≡ true → (s : Bool) → same_path p mark_front ≡ s → ⊥
    go up true is =
        let own : begins mark_front p ≡ true = subst (λ (x : List ℕ). begins mark_front x ≡ true) (sym (same_path-true p mark_front is)) (subst (λ (x : List ℕ). begins mark_front x ≡ true) (front_alone mark_front) (begins_front mark_front [])) in
        clash (is_private p) (mark_private p own) seen
      where
        front_alone : (f : List ℕ) → f ++ [] ≡ f
        front_alone [] = refl
        front_alone (x ∷ f) = ap (λ (l : List ℕ). x ∷ l) (front_alone f)
    go up false is =
        let at = at_parent_of p mark_front up is in
        let dir : at.dir ≡ records_name = let e : Some at.dir ≡ Some records_name = sym at.is ∙ mark_parent in cc in
        clash (covers p records_name) (subst (λ (x : List ℕ). covers p x ≡ true) dir at.up) (not-true _ both.1)

step_leaves : (q : List ℕ) → begins mark_front q ≡ true → (s : Step) → step_allowed s ≡ true → frees s q ≡ false
step_leaves q b (Gone p) may = unnamed_mark p q b may
step_leaves q b (Fresh m p) may = unnamed_mark p q b may
step_leaves q b (Mode m p) may = refl
step_leaves q b (Put k m p) may = unnamed_mark p q b may
step_leaves q b (Symlink p target) may = unnamed_mark p q b may
step_leaves q b (Hard p to) may = unnamed_mark p q b (and_parts _ _ may).0

pub marks_stay : (q : List ℕ) → begins mark_front q ≡ true → (steps : List Step) → allowed steps ≡ true → freed steps q ≡ false
marks_stay q b [] may = refl
marks_stay q b (s ∷ rest) may = let parts = and_parts (step_allowed s) (allowed rest) may in or_from _ _ (step_leaves q b s parts.0) (marks_stay q b rest parts.1)
