-- Fields that may be left free are read in one way.
use Rattle.std.proofs.Common.{◌≡◌, ℕ, Bool, true, false, eqb, ◌<◌, List, [], ◌∷◌, ◌++◌, length, Option, Some, None, refl, sym, ◌∙◌, ap, subst, arith}
use Rattle.std.specs.Prelude.{codes}
use Rattle.std.specs.Char.{is_ascii_alphanumeric}
use Rattle.std.specs.Cmp.Lexicographic.{pointwise}
use Rattle.std.specs.Str.{IsUtf8}
use Rattle.std.proofs.lemmas.Bool.{false≢true}
use Rattle.ips_text.specs.Quote.{quoted}
use Rattle.ips_fmri.specs.Version.{Parts, version_text, IsVersion, IfVersion}
use Rattle.ips_fmri.proofs.Versions.{written_one, judges_version}
use Rattle.ips_records.specs.Listed.{Sole}
use Rattle.ips_records.specs.Form.{IsWord, IfMarked}
use Rattle.ips_records.specs.Field.{version_field, word_field}
use Rattle.ips_records.proofs.WordForms.{word_one}
use Rattle.ips_records.proofs.FileNames.{BeginsPlain, begins_version, low_version, low_text}

pub version_one : (v w : Parts) → IsVersion v → IsVersion w → version_text v ≡ version_text w → v ≡ w
version_one v w hv hw e = written_one judges_version (version_text w) v w (hv, sym e) (hw, refl)

-- no version is written as `-`
pub version_no_dash : (v : Parts) → IsVersion v → version_text v ≡ 45 ∷ [] → ⊥
version_no_dash v h e = let first : is_ascii_alphanumeric 45 ≡ true = subst BeginsPlain e (begins_version v h) in absurd (false≢true first)

pub version_field_one : (a b : Option Parts) → IfVersion a → IfVersion b → version_field a ≡ version_field b → a ≡ b
version_field_one None None ha hb e = refl
version_field_one None (Some w) ha hb e = absurd (version_no_dash w hb (sym e))
version_field_one (Some v) None ha hb e = absurd (version_no_dash v ha e)
version_field_one (Some v) (Some w) ha hb e = ap (λ (x : Parts). Some x) (version_one v w ha hb e)

pub quoted_dash : quoted (codes "-") ≡ 45 ∷ []
unfolding quoted
quoted_dash = refl

-- bytes that aren't `-`
pub not_dash : (b : Bool) (bytes dash : List ℕ) → b ≡ false → b ≡ pointwise eqb bytes dash → dash ≡ 45 ∷ [] → bytes ≡ 45 ∷ [] → ⊥
not_dash b bytes dash off is ed eb = false≢true (sym off ∙ is ∙ rw (ed, eb) refl)

-- no such word is quoted as `-`
pub word_no_dash : (w : List ℕ) → IfMarked (Some w) → quoted w ≡ 45 ∷ [] → ⊥
word_no_dash w h e = h.1 (word_one w (codes "-") h.0 dash (e ∙ sym quoted_dash))
  where
    dash : IsWord (codes "-")
    dash = record { some = omega arith; text = low_text (codes "-") refl }

pub word_field_one : (a b : Option (List ℕ)) → IfMarked a → IfMarked b → word_field a ≡ word_field b → a ≡ b
word_field_one None None ha hb e = refl
word_field_one None (Some w) ha hb e = absurd (word_no_dash w hb (sym e))
word_field_one (Some v) None ha hb e = absurd (word_no_dash v ha e)
word_field_one (Some v) (Some w) ha hb e = ap (λ (x : List ℕ). Some x) (word_one v w ha.0 hb.0 e)

pub version_field_sole : (v : Option Parts) → IfVersion v → Sole version_field IfVersion v
version_field_sole v h = record { fits = h; alone = λ other o e. version_field_one other v o h e }

pub word_field_sole : (w : Option (List ℕ)) → IfMarked w → Sole word_field IfMarked w
word_field_sole w h = record { fits = h; alone = λ other o e. word_field_one other w o h e }

pub version_field_text : (v : Option Parts) → IfVersion v → IsUtf8 (version_field v)
version_field_text None h = low_text (45 ∷ []) refl
version_field_text (Some v) h = low_text (version_text v) (low_version v h)
