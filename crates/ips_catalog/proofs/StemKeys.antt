-- Which keys are stems, and what reading a key as an FMRI says of it.
use Rattle.std.proofs.Common.{◌≡◌, ℕ, Bool, true, false, eqb, List, [], ◌∷◌, length, Option, Some, None, Result, Ok, Err, if◌then◌else◌, refl, sym, ap, subst, ◌∙◌, arith, append-nil}
use Rattle.std.specs.List.{list_all}
use Rattle.std.specs.Cmp.Lexicographic.{pointwise}
use Rattle.std.proofs.lemmas.Bool.{and_parts, true≢false}
use Rattle.std.proofs.lemmas.Slice.Eq.{bytes_eq-Decides}
use Rattle.std.proofs.lemmas.List.Splits.{length-slice_split}
use Rattle.ips_text.specs.declared.refusal.Or.{Or}
use Rattle.ips_text.specs.declared.refusal.Or.TheVariants.{Bad}
use Rattle.ips_text.specs.Reading.{OneOrMore, Gives}
use Rattle.ips_text.specs.Path.{parts}
use Rattle.ips_text.specs.Quote.{fits_name}
use Rattle.ips_text.proofs.Readers.{ok_is, ok_not_err}
use Rattle.ips_fmri.specs.declared.fault.FmriFault.{FmriFault}
use Rattle.ips_fmri.specs.declared.fmri.Fmri.{Fmri}
use Rattle.ips_fmri.specs.Name.{may_begin, may_go_on, IsComponent, IsStem}
use Rattle.ips_fmri.specs.Fmri.{IsFmri, WritesFmri}
use Rattle.ips_catalog.specs.Stem.{is_component, is_stem}
use Rattle.ips_text.proofs.Truths.{both_true}

component_tested : (bytes : List ℕ) → IsComponent false bytes → is_component bytes ≡ true
component_tested [] h = absurd h
component_tested (b ∷ bytes) h = both_true (may_begin false b) (list_all (may_go_on false) bytes) h.0 h.1

component_is : (bytes : List ℕ) → is_component bytes ≡ true → IsComponent false bytes
component_is [] e = absurd (true≢false (sym e))
component_is (b ∷ bytes) e = and_parts (may_begin false b) (list_all (may_go_on false) bytes) e

parts_tested : (xs : List (List ℕ)) → OneOrMore (IsComponent false) xs → list_all is_component xs ≡ true
parts_tested [] h = absurd h
parts_tested (x ∷ []) h = both_true (is_component x) true (component_tested x h) refl
parts_tested (x ∷ y ∷ xs) h = both_true (is_component x) (list_all is_component (y ∷ xs)) (component_tested x h.0) (parts_tested (y ∷ xs) h.1)

parts_are : (xs : List (List ℕ)) → (xs ≡ [] → ⊥) → list_all is_component xs ≡ true → OneOrMore (IsComponent false) xs
parts_are [] some e = some refl
parts_are (x ∷ []) some e = component_is x (and_parts (is_component x) true e).0
parts_are (x ∷ y ∷ xs) some e =
    let h = and_parts (is_component x) (list_all is_component (y ∷ xs)) e in
    (component_is x h.0, parts_are (y ∷ xs) (λ none. cc) h.1)

some_part : (key : List ℕ) → parts key ≡ [] → ⊥
some_part key none = omega (arith, ap length none, length-slice_split (λ (b : ℕ). eqb b 47) key)

pub stem_tested : (key : List ℕ) → IsStem false key → is_stem key ≡ true
unfolding is_stem
stem_tested key h = both_true (list_all is_component (parts key)) (fits_name key) (parts_tested (parts key) h.form) h.short

pub stem_is : (key : List ℕ) → is_stem key ≡ true → IsStem false key
unfolding is_stem
stem_is key e =
    let h = and_parts (list_all is_component (parts key)) (fits_name key) e in
    record { form = parts_are (parts key) (some_part key) h.0; short = h.1 }

abbrev pub kept_stem : List ℕ → Option (List ℕ)
kept_stem key = if is_stem key then Some key else None

pub is_kept : (key : List ℕ) → IsStem false key → kept_stem key ≡ Some key
is_kept key h = ap (λ (b : Bool). if b then Some key else None) (stem_tested key h)

kept_by : (key : List ℕ) (b : Bool) → is_stem key ≡ b → (is_stem key ≡ true → ⊥) → kept_stem key ≡ None
kept_by key true e not = absurd (not e)
kept_by key false e not = ap (λ (b : Bool). if b then Some key else None) e

not_kept : (key : List ℕ) → (IsStem false key → ⊥) → kept_stem key ≡ None
not_kept key not = kept_by key (is_stem key) refl (λ e. not (stem_is key e))

-- a stem alone is an FMRI
alone : List ℕ → Fmri
alone key = record { publisher = None; stem = key; version = None }

alone_is : (key : List ℕ) → IsStem false key → IsFmri (alone key)
unfolding alone
alone_is key h = record { publisher = tt; stem = h; version = tt }

alone_written : (key : List ℕ) → WritesFmri (alone key) key
unfolding alone
alone_written key = (false, ([], refl, sym (append-nil key)))

-- what reading the key as an FMRI answered
abbrev pub AnswersOnly : Result Fmri (Or FmriFault) → List ℕ → Type 0
AnswersOnly result key = (f : Fmri) → IsFmri f → WritesFmri f key → Gives (λ x. x) result (Ok f)

pub same_stem : (f : Fmri) (key : List ℕ) (b : Bool) → b ≡ pointwise eqb f.stem key → b ≡ true → IsFmri f → Some f.stem ≡ kept_stem key
same_stem f key b tested e is =
    let same : f.stem ≡ key = (bytes_eq-Decides f.stem key).0 (sym tested ∙ e) in
    ap (λ (s : List ℕ). Some s) same ∙ sym (is_kept key (subst (IsStem false) same is.stem))

pub other_stem : (f : Fmri) (key : List ℕ) (b : Bool) → b ≡ pointwise eqb f.stem key → b ≡ false → AnswersOnly (Ok f) key → None ≡ kept_stem key
unfolding alone
other_stem f key b tested e only =
    sym (not_kept key (λ is.
    let read : alone key ≡ f = ok_is {E = FmriFault} (alone key) f (only (alone key) (alone_is key is) (alone_written key)) in
    let same : f.stem ≡ key = ap (λ (g : Fmri). g.stem) (sym read) in
    true≢false (sym ((bytes_eq-Decides f.stem key).1 same) ∙ sym tested ∙ e)))

pub no_stem : (fault : FmriFault) (key : List ℕ) → AnswersOnly (Err (Bad fault)) key → None ≡ kept_stem key
no_stem fault key only = sym (not_kept key (λ is. ok_not_err (alone key) fault (only (alone key) (alone_is key is) (alone_written key))))
