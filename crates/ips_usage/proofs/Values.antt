-- Values of words: what is wrong with one, and which have no name.
use Rattle.std.proofs.Common.{◌≡◌, ℕ, Bool, true, false, ◌||◌, List, [], ◌∷◌, ◌++◌, Option, Some, None, Result, Ok, Err, refl, ◌∙◌, ap}
use Rattle.std.specs.List.{list_any}
use Rattle.ips_text.specs.declared.refusal.Stop.{Stop}
use Rattle.ips_text.specs.Number.{number_at}
use Rattle.ips_syntax.specs.declared.table.Why.{Why}
use Rattle.ips_syntax.specs.declared.table.Why.TheVariants.{BadValue}
use Rattle.ips_syntax.specs.declared.table.Form.{Form}
use Rattle.ips_syntax.specs.declared.table.Form.TheVariants as form
use Rattle.ips_syntax.specs.declared.values.Value.{Value}
use Rattle.ips_syntax.specs.declared.values.Value.TheVariants as value
use Rattle.ips_syntax.specs.declared.values.Given.{Given}
use Rattle.ips_syntax.specs.Values.{value_at, checked, value_made, value_made_of, within, cut, switch_of, as_fmri, as_pattern, as_version, variant_of, facet_of, facet_named}
use Rattle.ips_syntax.specs.Reading.{is_same_name, is_name_given}

-- the value sets a name that may be set once
abbrev pub has_name : Value → Bool
has_name (value.Facet f) = true
has_name (value.Freeze f) = true
has_name v = false

-- what is wrong with a word is its value; and what it says has no name, where that is asked for
abbrev pub IsSound : (Value → Type 0) → Result Value Why → Type 0
IsSound P (Ok v) = P v
IsSound P (Err why) = why ≡ BadValue

checked_sound : (P : Value → Type 0) (holds : Bool) (v : Value) → P v → IsSound P (checked holds v)
checked_sound P true v p = p
checked_sound P false v p = refl

made_sound : {X E : Type 0} (P : Value → Type 0) (f : X → Result Value Why) (r : Result X E) → ((x : X) → IsSound P (f x)) → IsSound P (value_made f r)
made_sound P f (Ok x) each = each x
made_sound P f (Err e) each = refl

made_of_sound : {X : Type 0} (P : Value → Type 0) (f : X → Result Value Why) (o : Option X) → ((x : X) → IsSound P (f x)) → IsSound P (value_made_of f o)
made_of_sound P f (Some x) each = each x
made_of_sound P f None each = refl

within_sound : (P : Value → Type 0) (low high : ℕ) (r : Result (ℕ × List ℕ) (Stop Why)) → ((n : ℕ) → P (value.Number n)) → IsSound P (within low high r)
within_sound P low high (Ok x) each = checked_sound P _ (value.Number x.0) (each x.0)
within_sound P low high (Err s) each = refl

-- the form has values with a name
abbrev pub has_names : Form → Bool
has_names form.Freeze = true
has_names form.Switch = true
has_names form.Setting = true
has_names f = false

-- what words of a form say: a value without a name, or one of a form that has them
value_sound : (P : Value → Type 0) (f : Form) (word : List ℕ) → ((v : Value) → has_name v ≡ false → P v) → (has_names f ≡ true → (v : Value) → P v) → IsSound P (value_at f word)
value_sound P form.Nothing word plain any = refl
value_sound P form.Any word plain any = plain (value.Word word) refl
value_sound P form.Filled word plain any = checked_sound P _ (value.Word word) (plain (value.Word word) refl)
value_sound P form.Implementation word plain any = checked_sound P _ (value.Word word) (plain (value.Word word) refl)
value_sound P form.Publisher word plain any = checked_sound P _ (value.Word word) (plain (value.Word word) refl)
value_sound P form.Stem word plain any = made_sound P _ (as_fmri word) (λ f. checked_sound P _ (value.Word f.stem) (plain (value.Word f.stem) refl))
value_sound P form.Pattern word plain any = made_sound P _ (as_pattern word) (λ p. plain (value.Pattern p) refl)
value_sound P form.Freeze word plain any = made_sound P _ (as_fmri word) (λ f. checked_sound P _ (value.Freeze f) (any refl (value.Freeze f)))
value_sound P form.Version word plain any = made_sound P _ (as_version word) (λ v. checked_sound P _ (value.Version v) (plain (value.Version v) refl))
value_sound P form.Limit word plain any = within_sound P _ _ (number_at BadValue word) (λ n. plain (value.Number n) refl)
value_sound P form.Count word plain any = within_sound P _ _ (number_at BadValue word) (λ n. plain (value.Number n) refl)
value_sound P form.Variant word plain any = made_of_sound P variant_of (cut word) (λ x. checked_sound P _ (value.Variant (record { name = x.0; value = x.1 })) (plain (value.Variant (record { name = x.0; value = x.1 })) refl))
value_sound P form.Switch word plain any = made_of_sound P (facet_of false) (cut word) (λ x. made_of_sound P (facet_named false x.0) (switch_of x.1)
    (λ on. checked_sound P _ (value.Facet (record { name = x.0; on = on })) (any refl (value.Facet (record { name = x.0; on = on })))))
value_sound P form.Setting word plain any = made_of_sound P (facet_of true) (cut word) (λ x. made_of_sound P (facet_named true x.0) (switch_of x.1)
    (λ on. checked_sound P _ (value.Facet (record { name = x.0; on = on })) (any refl (value.Facet (record { name = x.0; on = on })))))

-- only a bad value is wrong with a word
pub bad_value : (f : Form) (word : List ℕ) → IsSound (λ v. Unit {0}) (value_at f word)
bad_value f word = value_sound (λ v. Unit {0}) f word (λ v e. tt) (λ e v. tt)

-- a value of the other forms has no name
pub unnamed_value : (f : Form) (word : List ℕ) → has_names f ≡ false → IsSound (λ v. has_name v ≡ false) (value_at f word)
unnamed_value f word none = value_sound (λ v. has_name v ≡ false) f word (λ v e. e) (λ e v. absurd cc)

-- nothing with a name was given
abbrev pub Unnamed : List Given → Type 0
Unnamed given = list_any (λ (g : Given). has_name g.value) given ≡ false

apart : (v w : Value) → has_name w ≡ false → is_same_name v w ≡ false
apart (value.Facet a) (value.Facet b) e = absurd cc
apart (value.Freeze a) (value.Freeze b) e = absurd cc
apart v w e = refl

left_false : (a b : Bool) → a || b ≡ false → a ≡ false
left_false true b e = absurd cc
left_false false b e = refl

right_false : (a b : Bool) → a || b ≡ false → b ≡ false
right_false true b e = absurd cc
right_false false b e = e

both_false : (a b : Bool) → a ≡ false → b ≡ false → a || b ≡ false
both_false true b one two = absurd cc
both_false false b one two = two

-- then no value names what was named
pub not_named : (v : Value) (given : List Given) → Unnamed given → is_name_given v given ≡ false
not_named v [] none = refl
not_named v (g ∷ given) none =
    both_false (is_same_name v g.value) (is_name_given v given) (apart v g.value (left_false (has_name g.value) _ none))
    (not_named v given (right_false (has_name g.value) _ none))

-- a test of what was given, and of one more
pub any_behind : (P : Given → Bool) (given : List Given) (g : Given) → list_any P (given ++ g ∷ []) ≡ list_any P given || P g
any_behind P [] g = go (P g)
  where
    go : (b : Bool) → b || false ≡ false || b
    go true = refl
    go false = refl
any_behind P (x ∷ given) g = ap (λ (b : Bool). P x || b) (any_behind P given g) ∙ go (P x) (list_any P given) (P g)
  where
    go : (a b c : Bool) → a || (b || c) ≡ (a || b) || c
    go true b c = refl
    go false b c = refl

-- with one more value that has no name
pub still_unnamed : (given : List Given) (g : Given) → Unnamed given → has_name g.value ≡ false → Unnamed (given ++ g ∷ [])
still_unnamed given g none plain = any_behind (λ (x : Given). has_name x.value) given g ∙ both_false _ _ none plain
