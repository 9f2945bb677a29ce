-- What the value of a word in each form is.
use Rattle.std.proofs.Common.{◌≡◌, ℕ, ◌+◌, ◌<◌, Bool, true, false, not, ◌&&◌, ◌||◌, List, [], ◌∷◌, length, get_or, Option, Some, None, Result, Ok, Err, is_some, refl, sym, ap, subst, ◌∙◌, arith}
use Rattle.std.specs.Prelude.{codes, ◌==◌, if◌then◌else◌}
use Rattle.std.specs.Option.{is_none}
use Rattle.std.specs.List.{before_first, after_first, position_or_len, list_all, starts_with}
use Rattle.std.specs.Char.{is_ascii_alphanumeric}
use Rattle.std.specs.Str.{IsUtf8}
use Rattle.std.proofs.lemmas.Bool.{true≢false, and_parts, eqb-true, eqb-false}
use Rattle.std.proofs.lemmas.Option.{same_Some}
use Rattle.std.proofs.lemmas.List.Sums.{passes_at_first, prefix_len-le-length}
use Rattle.std.proofs.lemmas.Slice.Eq.{bytes_eq-Decides}
use Rattle.std.proofs.lemmas.Str.{IsUtf8-take, IsUtf8-drop, IsCharBoundary-before_ascii, IsCharBoundary-after_ascii}
use Rattle.ips_text.specs.declared.refusal.Stop.{Stop}
use Rattle.ips_text.proofs.Truths.{not_true, or_false}
use Rattle.ips_text.specs.Quote.{fits_name}
use Rattle.ips_text.specs.Number.{number_at}
use Rattle.ips_text.specs.Reading.{separated}
use Rattle.ips_fmri.specs.declared.fault.Part.{Part}
use Rattle.ips_fmri.specs.declared.fmri.Fmri.{Fmri}
use Rattle.ips_fmri.specs.Name.{IsPublisher, IsStem, may_go_on}
use Rattle.ips_fmri.specs.Version.{Parts, IsVersion, IfVersion}
use Rattle.ips_fmri.specs.Fmri.{IsFmri}
use Rattle.ips_fmri.specs.Reading.{placed, read_fmri, read_version, read_name, read_plain, read_stem, stem_at, component_at, version_at, numbers_at}
use Rattle.ips_fmri.proofs.Readings.{judges_fmri}
use Rattle.ips_fmri.proofs.Versions.{judges_version}
use Rattle.ips_records.specs.Form.{IsWord, HasVersion, IsNamed}
use Rattle.ips_syntax.specs.declared.table.Why.{Why}
use Rattle.ips_syntax.specs.declared.table.Form.{Form}
use Rattle.ips_syntax.specs.declared.table.Form.TheVariants as form
use Rattle.ips_syntax.specs.declared.values.Value.{Value}
use Rattle.ips_syntax.specs.declared.values.Value.TheVariants as value
use Rattle.ips_syntax.specs.declared.values.VariantWord.{VariantWord}
use Rattle.ips_syntax.specs.declared.values.FacetWord.{FacetWord}
use Rattle.ips_syntax.specs.Values.{same, is_empty, value_at, value_made, value_made_of, checked, as_fmri, as_version, is_publisher, cut, is_equals_sign, goes_on, variant_of, facet_of, facet_named, switch_of, has_version_alone, is_release}

-- ---- answers

pub no_fault : {X E A : Type 0} (e : E) (y : X) → (let r : Result X E = Err e in r) ≡ Ok y → A
no_fault e y is = absurd (cc)

pub same_ok : {X E : Type 0} (x y : X) → (let r : Result X E = Ok x in r) ≡ Ok y → x ≡ y
same_ok x y is = cc

pub holds_then : (b : Bool) (v w : Value) → checked b v ≡ Ok w → (b ≡ true) × (v ≡ w)
holds_then true v w is = (refl, same_ok v w is)
holds_then false v w is = no_fault _ w is

pub made : {X E : Type 0} (k : X → Result Value Why) (r : Result X E) (v : Value) → value_made k r ≡ Ok v → (x : X) × (r ≡ Ok x) × (k x ≡ Ok v)
made k (Ok x) v is = (x, refl, is)
made k (Err e) v is = no_fault _ v is

pub made_of : {X : Type 0} (k : X → Result Value Why) (o : Option X) (v : Value) → value_made_of k o ≡ Ok v → (x : X) × (o ≡ Some x) × (k x ≡ Ok v)
made_of k (Some x) v is = (x, refl, is)
made_of k None v is = no_fault _ v is

read_placed : {A : Type 0} (text : List ℕ) (r : Result A (Stop Part)) (x : A) → placed text r ≡ Ok x → r ≡ Ok x
read_placed text (Ok y) x is = ap (λ z. Ok z) (same_ok y x is)
read_placed text (Err s) x is = no_fault _ x is

-- ---- words

filled : (word : List ℕ) → not (is_empty word) ≡ true → 0 < length word
filled [] is = absurd (true≢false (sym is))
filled (b ∷ word) is = omega arith

-- what goes on behind letters isn't empty
goes_filled : (b : ℕ) (front text : List ℕ) → goes_on (b ∷ front) text ≡ true → 0 < length text
goes_filled b front [] is = absurd (true≢false (sym (and_parts (starts_with ◌==◌ [] (b ∷ front)) (not (0 == length (b ∷ front))) is).0))
goes_filled b front (c ∷ text) is = omega arith

publisher_is : (word : List ℕ) → is_publisher word ≡ true → IsPublisher word
publisher_is [] is = absurd (true≢false (sym is))
publisher_is (b ∷ bytes) is =
    let outer = and_parts (is_ascii_alphanumeric b && list_all (may_go_on false) bytes) (fits_name (b ∷ bytes)) is in
    let inner = and_parts (is_ascii_alphanumeric b) (list_all (may_go_on false) bytes) outer.0 in
    record { form = (sym (or_false (is_ascii_alphanumeric b)) ∙ inner.0, inner.1); short = outer.1 }

-- the name before the first `=` and what is behind it are texts
cut_texts : (word : List ℕ) (x : List ℕ × List ℕ) → cut word ≡ Some x → IsUtf8 word → IsUtf8 x.0 × IsUtf8 x.1
cut_texts word x is text = go (position_or_len is_equals_sign word == length word) refl is
  where
    go : (b : Bool) → (position_or_len is_equals_sign word == length word) ≡ b → (if b then None else Some (before_first is_equals_sign word, after_first is_equals_sign word)) ≡ Some x → IsUtf8 x.0 × IsUtf8 x.1
    go true end at = absurd (cc)
    go false end at =
        let least = prefix_len-le-length (λ b. not (is_equals_sign b)) word in
        let apart = eqb-false (position_or_len is_equals_sign word) (length word) end in
        let within : position_or_len is_equals_sign word < length word = grind arith in
        let mark = eqb-true (get_or word (position_or_len is_equals_sign word) 0) 61 (passes_at_first is_equals_sign word 0 within) in
        let low : get_or word (position_or_len is_equals_sign word) 0 < 128 = omega (arith, mark) in
        let both = same_Some (before_first is_equals_sign word, after_first is_equals_sign word) x at in (
          subst IsUtf8 (ap (λ (y : List ℕ × List ℕ). y.0) both) (IsUtf8-take word (position_or_len is_equals_sign word) text (IsCharBoundary-before_ascii word (position_or_len is_equals_sign word) within low)),
          subst IsUtf8 (ap (λ (y : List ℕ × List ℕ). y.1) both) (IsUtf8-drop word (position_or_len is_equals_sign word + 1) text (IsCharBoundary-after_ascii word (position_or_len is_equals_sign word) text within low)),
        )

-- ---- values

-- What a value is that a word has in a form.
abbrev pub FormedValue : Form → Value → Type 0
FormedValue form.Filled v = (word : List ℕ) × (v ≡ value.Word word) × IsWord word
FormedValue form.Implementation v = (word : List ℕ) × (v ≡ value.Word word) × IsWord word × (word ≡ codes "-" → ⊥)
FormedValue form.Publisher v = (word : List ℕ) × (v ≡ value.Word word) × IsPublisher word
FormedValue form.Stem v = (stem : List ℕ) × (v ≡ value.Word stem) × IsStem false stem
FormedValue form.Freeze v = (f : Fmri) × (v ≡ value.Freeze f) × IsNamed f
FormedValue form.Version v = (n : Parts) × (v ≡ value.Version n) × IsVersion n
FormedValue form.Variant v = (x : VariantWord) × (v ≡ value.Variant x) × IsWord x.name × IsWord x.value
FormedValue form.Switch v = (x : FacetWord) × (v ≡ value.Facet x) × IsWord x.name
FormedValue form.Setting v = (x : FacetWord) × (v ≡ value.Facet x) × IsWord x.name
FormedValue f v = Unit {0}

named_formed : (f : Fmri) → IsFmri f → has_version_alone f ≡ true → IsNamed f
named_formed f is alone =
    let both = and_parts (is_none f.publisher) (is_some f.version) alone in
    record { publisher = no_publisher f.publisher both.0; stem = is.stem; version = has f.version is.version both.1 }
  where
    no_publisher : (o : Option (List ℕ)) → is_none o ≡ true → o ≡ None
    no_publisher None e = refl
    no_publisher (Some p) e = absurd (true≢false (sym e))

    has : (o : Option Parts) → IfVersion o → is_some o ≡ true → HasVersion o
    has None h e = absurd (true≢false (sym e))
    has (Some v) h e = h

variant_formed : (x : List ℕ × List ℕ) (v : Value) → IsUtf8 x.0 → IsUtf8 x.1 → variant_of x ≡ Ok v → FormedValue form.Variant v
variant_formed x v name text is =
    let (holds, same) = holds_then _ (value.Variant (record { name = x.0; value = x.1 })) v is in
    let both = and_parts (goes_on (codes "variant.") x.0) (not (is_empty x.1)) holds in (
      record { name = x.0; value = x.1 },
      sym same,
      record { some = goes_filled 118 (codes "ariant.") x.0 both.0; text = name },
      record { some = filled x.1 both.1; text = text },
    )

facet_formed : (or_none : Bool) (x : List ℕ × List ℕ) (v : Value) → IsUtf8 x.0 → facet_of or_none x ≡ Ok v → (w : FacetWord) × (v ≡ value.Facet w) × IsWord w.name
facet_formed or_none x v name is =
    let (on, found, to) = made_of (facet_named or_none x.0) (switch_of x.1) v is in
    let (holds, same) = holds_then _ (value.Facet (record { name = x.0; on = on })) v to in
    let both = and_parts (goes_on (codes "facet.") x.0) (or_none || is_some on) holds in
    (record { name = x.0; on = on }, sym same, record { some = goes_filled 102 (codes "acet.") x.0 both.0; text = name })

-- a freeze is named, whether or not the word is a text
pub freeze_formed : (word : List ℕ) (v : Value) → value_at form.Freeze word ≡ Ok v → FormedValue form.Freeze v
freeze_formed word v is =
    let (f, read, to) = made (λ (f : Fmri). checked (has_version_alone f && not (starts_with ◌==◌ word (codes "pkg:"))) (value.Freeze f)) (as_fmri word) v is in
    let (holds, at) = holds_then _ (value.Freeze f) v to in
    let alone = (and_parts (has_version_alone f) (not (starts_with ◌==◌ word (codes "pkg:"))) holds).0 in
    (f, sym at, named_formed f (judges_fmri.found word f (read_placed word (read_fmri word) f read)).0 alone)

-- a word that is a text has such a value
pub value_formed : (f : Form) (word : List ℕ) (v : Value) → IsUtf8 word → value_at f word ≡ Ok v → FormedValue f v
value_formed form.Nothing word v text is = tt
value_formed form.Any word v text is = tt
value_formed form.Filled word v text is =
    let (holds, same) = holds_then _ (value.Word word) v is in
    (word, sym same, record { some = filled word holds; text = text })
value_formed form.Implementation word v text is =
    let (holds, at) = holds_then _ (value.Word word) v is in
    let both = and_parts (not (is_empty word)) (not (same word (codes "-"))) holds in
    (word, sym at, record { some = filled word both.0; text = text }, λ dash. true≢false (sym ((bytes_eq-Decides word (codes "-")).1 dash) ∙ not_true _ both.1))
value_formed form.Publisher word v text is =
    let (holds, at) = holds_then _ (value.Word word) v is in
    (word, sym at, publisher_is word holds)
value_formed form.Stem word v text is =
    let (f, read, to) = made (λ (f : Fmri). checked (same f.stem word) (value.Word f.stem)) (as_fmri word) v is in
    let (holds, at) = holds_then _ (value.Word f.stem) v to in
    (f.stem, sym at, (judges_fmri.found word f (read_placed word (read_fmri word) f read)).0.stem)
value_formed form.Pattern word v text is = tt
value_formed form.Freeze word v text is = freeze_formed word v is
value_formed form.Version word v text is =
    let (n, read, to) = made (λ n. checked (is_release n) (value.Version n)) (as_version word) v is in
    let (holds, at) = holds_then _ (value.Version n) v to in
    (n, sym at, (judges_version.found word n (read_placed word (read_version word) n read)).0)
value_formed form.Limit word v text is = tt
value_formed form.Count word v text is = tt
value_formed form.Variant word v text is =
    let (x, at, to) = made_of variant_of (cut word) v is in
    let texts = cut_texts word x at text in
    variant_formed x v texts.0 texts.1 to
value_formed form.Switch word v text is =
    let (x, at, to) = made_of (facet_of false) (cut word) v is in
    facet_formed false x v (cut_texts word x at text).0 to
value_formed form.Setting word v text is =
    let (x, at, to) = made_of (facet_of true) (cut word) v is in
    facet_formed true x v (cut_texts word x at text).0 to

-- ---- words that have a value

-- the form is that of any word
abbrev pub is_any : Form → Bool
is_any form.Any = true
is_any f = false

-- no other form has a value of the empty word
none_empty : (f : Form) (v : Value) → is_any f ≡ false → value_at f [] ≡ Ok v → ⊥
unfolding number_at numbers_at separated version_at read_version component_at stem_at read_stem read_plain read_name read_fmri
none_empty form.Nothing v other is = no_fault _ v is
none_empty form.Any v other is = true≢false other
none_empty form.Filled v other is = no_fault _ v is
none_empty form.Implementation v other is = no_fault _ v is
none_empty form.Publisher v other is = no_fault _ v is
none_empty form.Stem v other is = no_fault _ v is
none_empty form.Pattern v other is = no_fault _ v is
none_empty form.Freeze v other is = no_fault _ v is
none_empty form.Version v other is = no_fault _ v is
none_empty form.Limit v other is = no_fault _ v is
none_empty form.Count v other is = no_fault _ v is
none_empty form.Variant v other is = no_fault _ v is
none_empty form.Switch v other is = no_fault _ v is
none_empty form.Setting v other is = no_fault _ v is

pub value_some : (f : Form) (word : List ℕ) (v : Value) → is_any f ≡ false → value_at f word ≡ Ok v → 0 < length word
value_some f [] v other is = absurd (none_empty f v other is)
value_some f (b ∷ word) v other is = omega arith
