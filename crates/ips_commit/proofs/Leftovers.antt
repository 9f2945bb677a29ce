-- What is pending, from what was looked at.
use Rattle.std.proofs.Common.{◌≡◌, ◌⊎◌, inl, inr, ⊎_elim, ℕ, Bool, true, false, cond, ◌||◌, List, [], ◌∷◌, length, Option, Some, None, is_some, refl, sym, ◌∙◌, ap, subst, arith}
use Rattle.std.specs.List.{filter, list_all, list_any}
use Rattle.std.proofs.lemmas.Bool.{and_parts, and_from, or_parts, or_cases, or_left, or_right}
use Rattle.ips_text.specs.Ancestry.{same_path, covers, parent}
use Rattle.ips_text.specs.Kept.{Kept}
use Rattle.ips_text.proofs.Ancestry.{same_path-true, same_path-self, covers-self}
use Rattle.ips_outside.specs.Image.{Entry, Image, IsImage, is_dir}
use Rattle.ips_outside.specs.Children.{is_directory, path_bytes, AreChildren}
use Rattle.ips_steps.specs.Steps.{stage_name}
use Rattle.ips_steps.specs.Private.{records_name, journal_name, gate_name, mark_front, begins}
use Rattle.ips_steps.proofs.Lists.{clash}
use Rattle.ips_steps.proofs.PrivateNames.{gate_private, stage_private, journal_private, mark_private}
use Rattle.ips_commit.specs.Pending.{IsBare, HasLeftover, AreMarkNames, is_swept}
use Rattle.ips_commit.proofs.OwnNames.{private_cases, absent_below, mark_of, no_mark_without}

none_of : (e : Option Entry) → is_some e ≡ false → e ≡ None
none_of None is = refl
none_of (Some x) is = cc

pub some_of : (e : Option Entry) → is_some e ≡ true → e ≡ None → ⊥
some_of None is none = cc
some_of (Some x) is none = cc

stands_of : (e : Option Entry) → (e ≡ None → ⊥) → is_some e ≡ true
stands_of None there = absurd (there refl)
stands_of (Some x) there = refl

-- ---- marks among the children of the records' folder

module _ (t : Image) where
  abbrev Stand : List (List ℕ) → Type 0
  Stand names = (q : List ℕ) → list_any (λ p. same_path p q) names ≡ true → is_some (t.look q) ≡ true

  all_stand : (names : List (List ℕ)) → Stand names → list_all (λ m. is_some (t.look m)) (filter (begins mark_front) names) ≡ true
  all_stand [] each = refl
  all_stand (x ∷ names) each =
      let here = each x (or_left (same_path x x) _ (same_path-self x)) in
      let rest = all_stand names (λ q found. each q (or_right (same_path x q) _ found)) in
      go (begins mark_front x) here rest
    where
      go : (b : Bool) → is_some (t.look x) ≡ true → list_all (λ m. is_some (t.look m)) (filter (begins mark_front) names) ≡ true
          → list_all (λ m. is_some (t.look m)) (cond b (x ∷ filter (begins mark_front) names) (filter (begins mark_front) names)) ≡ true
      go true here rest = and_from _ _ here rest
      go false here rest = rest

covered_by_mark : (m q : List ℕ) → begins mark_front m ≡ true → covers m q ≡ true → (names : List (List ℕ)) → list_any (λ p. same_path p m) names ≡ true → list_any (λ p. covers p q) (filter (begins mark_front) names) ≡ true
covered_by_mark m q is c [] found = cc
covered_by_mark m q is c (x ∷ names) found = elim (or_cases (same_path x m) (list_any (λ p. same_path p m) names) found) [
  | inl here ↦
      let same = same_path-true x m here in
      let mark : begins mark_front x ≡ true = ap (begins mark_front) same ∙ is in
      let over : covers x q ≡ true = ap (λ (y : List ℕ). covers y q) same ∙ c in
      rw mark (or_left _ _ over)
  | inr later ↦ go (begins mark_front x) (covered_by_mark m q is c names later)
]
  where
    go : (b : Bool) → list_any (λ p. covers p q) (filter (begins mark_front) names) ≡ true → list_any (λ p. covers p q) (cond b (x ∷ filter (begins mark_front) names) (filter (begins mark_front) names)) ≡ true
    go true rest = or_right (covers x q) _ rest
    go false rest = rest

pub marks_listed : (t : Image) → IsImage t → (names marks : List (List ℕ)) → AreChildren t records_name names → marks ≡ filter (begins mark_front) names → AreMarkNames t marks
marks_listed t formed names marks are is = subst (AreMarkNames t) (sym is) (record {
  stand = all_stand t names (λ q found. (and_parts (is_some (t.look q)) _ (sym (are.each q) ∙ found)).0);
  others = λ q b off. absent q b off (t.look q) refl;
})
  where
    absent : (q : List ℕ) → begins mark_front q ≡ true → list_any (λ m. covers m q) (filter (begins mark_front) names) ≡ false → (e : Option Entry) → t.look q ≡ e → t.look q ≡ None
    absent q b off None there = there
    absent q b off (Some e) there =
        let mark = mark_of q b in
        let top : is_some (t.look mark.name) ≡ true = stands_of (t.look mark.name) (λ none. let no = absent_below t formed mark.name q mark.covers_it none in let bad : Some e ≡ None = sym there ∙ no in cc) in
        let dir : is_directory records_name (parent mark.name) ≡ true = ap (is_directory records_name) mark.in_records ∙ same_path-self records_name in
        let found : list_any (λ p. same_path p mark.name) names ≡ true = are.each mark.name ∙ and_from _ _ top dir in
        clash _ (covered_by_mark mark.name q mark.is_mark mark.covers_it names found) off

-- without the records' folder there is none
pub no_marks : (t : Image) → IsImage t → is_dir (t.look records_name) ≡ false → AreMarkNames t []
no_marks t formed none = record { stand = refl; others = λ q b off. no_mark_without t formed none q b }

pub marks_own : (names marks : List (List ℕ)) → marks ≡ filter (begins mark_front) names → list_all (begins mark_front) marks ≡ true
marks_own names marks is = ap (list_all (begins mark_front)) is ∙ own names
  where
    own : (names : List (List ℕ)) → list_all (begins mark_front) (filter (begins mark_front) names) ≡ true
    own [] = refl
    own (x ∷ names) = go (begins mark_front x) refl (own names)
      where
        go : (b : Bool) → begins mark_front x ≡ b → list_all (begins mark_front) (filter (begins mark_front) names) ≡ true
            → list_all (begins mark_front) (cond b (x ∷ filter (begins mark_front) names) (filter (begins mark_front) names)) ≡ true
        go true is rest = and_from _ _ is rest
        go false is rest = rest

-- ---- what is pending

-- what was swept is gone, and the gate was closed
pub bare_of : (t : Image) → IsImage t → t.look gate_name ≡ None → ((q : List ℕ) → is_swept q ≡ true → t.look q ≡ None) → IsBare t
bare_of t formed shut swept = λ q own. ⊎_elim (λ is. swept q is) (λ at. absent_below t formed gate_name q at shut) (private_cases q own)

-- nothing stands at the gate where nothing stands at the updater's own names
pub bare_shut : (t : Image) → IsBare t → t.look gate_name ≡ None
bare_shut t bare = bare gate_name (gate_private gate_name (covers-self gate_name))

swept_cases : (q : List ℕ) → is_swept q ≡ true → (covers stage_name q ≡ true) ⊎ ((covers journal_name q ≡ true) ⊎ (begins mark_front q ≡ true))
swept_cases q is = ⊎_elim (λ a. inl a) (λ b. inr (or_cases (covers journal_name q) (begins mark_front q) b)) (or_cases (covers stage_name q) _ is)

pub nothing_of : (t : Image) → IsImage t → is_some (t.look gate_name) ≡ false → is_some (t.look stage_name) || is_some (t.look journal_name) ≡ false → AreMarkNames t [] → IsBare t
nothing_of t formed gate behind marks =
    let parts = or_parts (is_some (t.look stage_name)) (is_some (t.look journal_name)) behind in
    bare_of t formed (none_of (t.look gate_name) gate) (λ q is. ⊎_elim
    (λ at. absent_below t formed stage_name q at (none_of (t.look stage_name) parts.0))
    (λ more. ⊎_elim (λ at. absent_below t formed journal_name q at (none_of (t.look journal_name) parts.1)) (λ mark. marks.others q mark refl) more)
    (swept_cases q is))

pub left_behind : (t : Image) → (is_some (t.look stage_name) || is_some (t.look journal_name)) ≡ true → HasLeftover t
left_behind t there = ⊎_elim
    (λ stage. record { path = stage_name; is_own = stage_private stage_name (covers-self stage_name); stands = some_of (t.look stage_name) stage })
    (λ journal. record { path = journal_name; is_own = journal_private journal_name (covers-self journal_name); stands = some_of (t.look journal_name) journal })
    (or_cases (is_some (t.look stage_name)) (is_some (t.look journal_name)) there)

pub left_mark : (t : Image) (marks : List (List ℕ)) → list_all (begins mark_front) marks ≡ true → AreMarkNames t marks → (length marks ≡ 0 → ⊥) → HasLeftover t
left_mark t [] own are some = absurd (some refl)
left_mark t (m ∷ marks) own are some = record {
  path = m;
  is_own = mark_private m (and_parts (begins mark_front m) _ own).0;
  stands = some_of (t.look m) (and_parts (is_some (t.look m)) _ are.stand).0;
}

pub gate_there : (t : Image) (b : Bool) → b ≡ is_some (t.look gate_name) → b ≡ true → t.look gate_name ≡ None → ⊥
gate_there t b is there = some_of (t.look gate_name) (sym is ∙ there)

pub gate_shut : (t : Image) (b : Bool) → b ≡ is_some (t.look gate_name) → b ≡ false → t.look gate_name ≡ None
gate_shut t b is shut = none_of (t.look gate_name) (sym is ∙ shut)

pub behind_at : (t u : Image) (stage journal : List ℕ) (b : Bool) → u ≡ t → stage ≡ stage_name → journal ≡ journal_name → b ≡ (is_some (u.look stage) || is_some (u.look journal)) → b ≡ (is_some (t.look stage_name) || is_some (t.look journal_name))
behind_at t u stage journal b same at to found = found ∙ ap (λ (v : Image). is_some (v.look stage) || is_some (v.look journal)) same
    ∙ ap (λ (p : List ℕ). is_some (t.look p) || is_some (t.look journal)) at ∙ ap (λ (p : List ℕ). is_some (t.look stage_name) || is_some (t.look p)) to

pub none_listed : (marks : List Kept) → length marks ≡ 0 → path_bytes marks ≡ []
none_listed [] none = refl
none_listed (m ∷ marks) none = absurd (omega arith)

pub some_listed : (marks : List Kept) → (length marks ≡ 0 → ⊥) → length (path_bytes marks) ≡ 0 → ⊥
some_listed [] some none = some refl
some_listed (m ∷ marks) some none = omega arith
