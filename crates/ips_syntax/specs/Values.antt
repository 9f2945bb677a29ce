-- The forms of words, and the value of a word in each form.
use Rattle.std.specs.Prelude.{ℕ, ◌^◌, ◌-◌, Bool, true, false, not, ◌&&◌, ◌||◌, ◌==◌, nat_le, if◌then◌else◌, List, [], ◌∷◌, length, map, codes, Option, Some, None, Result, Ok, Err}
use Rattle.std.specs.List.{position_or_len, before_first, after_first, list_all, starts_with}
use Rattle.std.specs.Option.{is_some, is_none}
use Rattle.std.specs.Char.{to_ascii_lowercase, is_ascii_alphanumeric}
use Rattle.std.specs.Cmp.Lexicographic.{pointwise}
use Rattle.ips_text.specs.Quote.{fits_name}
use Rattle.ips_text.specs.Number.{number_at}
use Rattle.ips_text.specs.declared.refusal.Stop.{Stop}
use Rattle.ips_fmri.specs.Name.{may_go_on}
use Rattle.ips_fmri.specs.Version.{Parts}
use Rattle.ips_fmri.specs.Reading.{placed, read_name, read_fmri, read_version}
use Rattle.ips_fmri.specs.declared.fault.FmriFault.{FmriFault}
use Rattle.ips_fmri.specs.declared.fmri.Fmri.{Fmri}
use Rattle.ips_fmri.specs.declared.pattern.Pattern.{Pattern}
use Rattle.ips_syntax.specs.declared.table.Why.{Why}
use Rattle.ips_syntax.specs.declared.table.Why.TheVariants.{BadValue}
use Rattle.ips_syntax.specs.declared.table.Form.{Form}
use Rattle.ips_syntax.specs.declared.table.Form.TheVariants as form
use Rattle.ips_syntax.specs.declared.values.Value.{Value}
use Rattle.ips_syntax.specs.declared.values.Value.TheVariants as value

-- The two texts are the same.
abbrev pub same : List ℕ → List ℕ → Bool
same a b = pointwise ◌==◌ a b

-- The text is this one, in any case of its ASCII letters.
abbrev pub same_in_any_case : List ℕ → List ℕ → Bool
same_in_any_case a b = same (map to_ascii_lowercase a) (map to_ascii_lowercase b)

-- The text is empty.
abbrev pub is_empty : List ℕ → Bool
is_empty text = length text == 0

-- A value, where this holds.
abbrev pub checked : Bool → Value → Result Value Why
checked holds v = if holds then Ok v else Err BadValue

-- What is made of what was read, where something was.
abbrev pub value_made : {X E : Type 0} → (X → Result Value Why) → Result X E → Result Value Why
value_made f (Ok x) = f x
value_made f (Err e) = Err BadValue

-- What is made of what is there.
abbrev pub value_made_of : {X : Type 0} → (X → Result Value Why) → Option X → Result Value Why
value_made_of f (Some x) = f x
value_made_of f None = Err BadValue

-- The pattern that a word writes.
abbrev pub as_pattern : List ℕ → Result Pattern FmriFault
as_pattern word = placed word (read_name true word)

-- The name of a package that a word writes.
abbrev pub as_fmri : List ℕ → Result Fmri FmriFault
as_fmri word = placed word (read_fmri word)

-- The version that a word writes.
abbrev pub as_version : List ℕ → Result Parts FmriFault
as_version word = placed word (read_version word)

-- The word is a publisher: one component, whose quoted form can name a file.
abbrev pub is_publisher : List ℕ → Bool
is_publisher [] = false
is_publisher (b ∷ bytes) = is_ascii_alphanumeric b && list_all (may_go_on false) bytes && fits_name (b ∷ bytes)

-- The name has no publisher and a version.
abbrev pub has_version_alone : Fmri → Bool
has_version_alone f = is_none f.publisher && is_some f.version

-- The version is numbers joined by dots alone.
abbrev pub is_release : Parts → Bool
is_release v = length v.build == 0 && length v.branch == 0 && is_none v.stamp

-- The number that a word is in decimal digits, where it is from the one to the other.
abbrev pub within : ℕ → ℕ → Result (ℕ × List ℕ) (Stop Why) → Result Value Why
within low high (Ok x) = checked (length x.1 == 0 && nat_le low x.0 && nat_le x.0 high) (value.Number x.0)
within low high (Err s) = Err BadValue

-- The byte is `=`.
abbrev pub is_equals_sign : ℕ → Bool
is_equals_sign b = b == 61

-- The name before the first `=` of a word, and the text behind it.
abbrev pub cut : List ℕ → Option (List ℕ × List ℕ)
cut word =
    if position_or_len is_equals_sign word == length word
    then None
    else Some (before_first is_equals_sign word, after_first is_equals_sign word)

-- The text begins with this one, and goes on.
abbrev pub goes_on : List ℕ → List ℕ → Bool
goes_on front text = starts_with ◌==◌ text front && not (length text == length front)

-- A variant and its value, which isn't empty.
abbrev pub variant_of : List ℕ × List ℕ → Result Value Why
variant_of x = checked (goes_on (codes "variant.") x.0 && not (is_empty x.1)) (value.Variant (record { name = x.0; value = x.1 }))

-- What a facet is set to by a word.
abbrev pub switch_of : List ℕ → Option (Option Bool)
switch_of word =
    if same_in_any_case word (codes "true") then Some (Some true)
    else (if same_in_any_case word (codes "false") then Some (Some false)
    else (if same_in_any_case word (codes "none") then Some None
    else None))

-- A facet of this name, set so; whether it may be set to nothing is said.
abbrev pub facet_named : Bool → List ℕ → Option Bool → Result Value Why
facet_named or_none name on = checked (goes_on (codes "facet.") name && (or_none || is_some on)) (value.Facet (record { name = name; on = on }))

-- A facet and what it is set to.
abbrev pub facet_of : Bool → List ℕ × List ℕ → Result Value Why
facet_of or_none x = value_made_of (facet_named or_none x.0) (switch_of x.1)

-- The value of a word in a form.
abbrev pub value_at : Form → List ℕ → Result Value Why
value_at form.Nothing word = Err BadValue
value_at form.Any word = Ok (value.Word word)
value_at form.Filled word = checked (not (is_empty word)) (value.Word word)
value_at form.Implementation word = checked (not (is_empty word) && not (same word (codes "-"))) (value.Word word)
value_at form.Publisher word = checked (is_publisher word) (value.Word word)
value_at form.Stem word = value_made (λ (f : Fmri). checked (same f.stem word) (value.Word f.stem)) (as_fmri word)
value_at form.Pattern word = value_made (λ (p : Pattern). Ok (value.Pattern p)) (as_pattern word)
value_at form.Freeze word = value_made (λ (f : Fmri). checked (has_version_alone f && not (starts_with ◌==◌ word (codes "pkg:"))) (value.Freeze f)) (as_fmri word)
value_at form.Version word = value_made (λ (v : Parts). checked (is_release v) (value.Version v)) (as_version word)
value_at form.Limit word = within 1 (2 ^ 64 - 1) (number_at BadValue word)
value_at form.Count word = within 1 2000 (number_at BadValue word)
value_at form.Variant word = value_made_of variant_of (cut word)
value_at form.Switch word = value_made_of (facet_of false) (cut word)
value_at form.Setting word = value_made_of (facet_of true) (cut word)
