-- Each command's line can be completed.
use Rattle.std.proofs.Common.{◌≡◌, ℕ, zero, suc, Bool, true, false, not, ◌||◌, List, [], ◌∷◌, ◌++◌, length, Result, Ok, Err, refl, sym, ◌∙◌, ap, ap₂, arith}
use Rattle.std.specs.Prelude.{if◌then◌else◌, nat_le, codes}
use Rattle.std.specs.List.{list_any}
use Rattle.std.specs.Fmt.{digits}
use Rattle.std.proofs.lemmas.Bool.{le-leb}
use Rattle.ips_text.specs.Number.{digits_at, number_at}
use Rattle.ips_text.specs.Quote.{quoted}
use Rattle.ips_text.specs.Reading.{separated}
use Rattle.ips_fmri.specs.Reading.{numbers_at, part_at, second_at, two_at, mark_at, stamp_at, stamp_part_at, version_at, read_version, component_at, stem_at, expected, limited, read_version_part, read_stem, read_publisher, read_anchored, read_plain, read_name, read_fmri}
use Rattle.ips_syntax.specs.declared.table.Why.{Why}
use Rattle.ips_syntax.specs.declared.table.Why.TheVariants.{Missing, Unknown}
use Rattle.ips_syntax.specs.declared.table.Verb.{Verb}
use Rattle.ips_syntax.specs.declared.table.Verb.TheVariants as verb
use Rattle.ips_syntax.specs.declared.table.Role.{Role}
use Rattle.ips_syntax.specs.declared.table.Role.TheVariants as role
use Rattle.ips_syntax.specs.declared.table.Form.{Form}
use Rattle.ips_syntax.specs.declared.table.Form.TheVariants as form
use Rattle.ips_syntax.specs.declared.values.Value.{Value}
use Rattle.ips_syntax.specs.declared.values.Given.{Given}
use Rattle.ips_syntax.specs.Table.{options_of, operands_of, required_of, role_name, value_form}
use Rattle.ips_syntax.specs.Values.{same, value_at}
use Rattle.ips_syntax.specs.Reading.{stop, plain, valued, is_dashed, is_operand, is_set_by, role_in, role_of, takes_value, again, lacks, is_given, operands_at}
use Rattle.ips_usage.proofs.Fault.{Words, Completes}
use Rattle.ips_usage.proofs.Values.{IsSound, Unnamed, any_behind, not_named, unnamed_value, still_unnamed, has_names, has_name}
use Rattle.ips_usage.proofs.Operands.{enough, first_read}
use Rattle.ips_usage.proofs.Options.{option_behind, rest, rest_none, rest_operand, rest_option, value_read}

is_read : Result Value Why → Bool
is_read (Ok v) = true
is_read (Err why) = false

read_of : (r : Result Value Why) → is_read r ≡ true → (v : Value) × (r ≡ Ok v)
unfolding is_read
read_of (Ok v) e = (v, refl)
read_of (Err why) e = absurd cc

-- a word of each form
abbrev sample : Form → List ℕ
sample form.Freeze = codes "a@1"
sample form.Version = codes "1"
sample form.Limit = codes "1"
sample form.Count = codes "1"
sample form.Variant = codes "variant.a=a"
sample form.Switch = codes "facet.a=true"
sample form.Setting = codes "facet.a=true"
sample f = codes "a"

-- the form has words
abbrev has_words : Form → Bool
has_words form.Nothing = false
has_words f = true

sample_read : (f : Form) → has_words f ≡ true → is_read (value_at f (sample f)) ≡ true
unfolding is_read digits digits_at number_at quoted separated numbers_at part_at second_at two_at mark_at stamp_at stamp_part_at version_at read_version component_at stem_at expected limited read_version_part read_stem read_publisher read_anchored read_plain read_name read_fmri
sample_read form.Nothing some = absurd cc
sample_read form.Any some = refl
sample_read form.Filled some = refl
sample_read form.Implementation some = refl
sample_read form.Publisher some = refl
sample_read form.Stem some = refl
sample_read form.Pattern some = refl
sample_read form.Freeze some = refl
sample_read form.Version some = refl
sample_read form.Limit some = refl
sample_read form.Count some = refl
sample_read form.Variant some = refl
sample_read form.Switch some = refl
sample_read form.Setting some = refl

-- and what it says
sampled : (f : Form) → has_words f ≡ true → (v : Value) × (value_at f (sample f) ≡ Ok v)
sampled f some = read_of (value_at f (sample f)) (sample_read f some)

-- the options of a command that wants an operand say nothing that has a name
quiet : (v : Verb) → nat_le 1 (operands_of v).least ≡ true → list_any (λ r. has_names (value_form r)) (options_of v) ≡ false
quiet verb.ImageCreate e = absurd cc
quiet v e = refl

role_is : (P : Role → Bool) (roles : List Role) (word : List ℕ) → P role.Operand ≡ false → list_any P roles ≡ false → P (role_in roles word) ≡ false
role_is P [] word none each = none
role_is P (r ∷ roles) word none each = go (same (role_name r) word) (P r) refl (λ each. role_is P roles word none each)
  where
    go : (b p : Bool) → P r ≡ p → (list_any P roles ≡ false → P (role_in roles word) ≡ false) → P (if b then r else role_in roles word) ≡ false
    go true true e rest = absurd cc
    go true false e rest = e
    go false true e rest = absurd cc
    go false false e rest = rest (let both : P r || list_any P roles ≡ list_any P roles = ap (λ (x : Bool). x || list_any P roles) e in sym both ∙ each)

-- what was given has no name, where an operand is wanted
abbrev pub IsFine : Verb → List Given → Type 0
IsFine v given = nat_le 1 (operands_of v).least ≡ true → Unnamed given

pub fine_plain : (v : Verb) (given : List Given) (r : Role) → IsFine v given → IsFine v (given ++ plain r ∷ [])
fine_plain v given r fine = λ e. still_unnamed given (plain r) (fine e) refl

pub fine_valued : (v : Verb) (given : List Given) (word value_word : List ℕ) (x : Value) → value_at (value_form (role_of v word)) value_word ≡ Ok x → IsFine v given → IsFine v (given ++ valued (role_of v word) x ∷ [])
fine_valued v given word value_word x reads fine = λ e.
    let none : has_names (value_form (role_of v word)) ≡ false = role_is (λ r. has_names (value_form r)) (options_of v) word refl (quiet v e) in
    still_unnamed given (valued (role_of v word) x) (fine e) (go (value_at (value_form (role_of v word)) value_word) reads (unnamed_value (value_form (role_of v word)) value_word none))
  where
    go : (r : Result Value Why) → r ≡ Ok x → IsSound (λ v. has_name v ≡ false) r → has_name x ≡ false
    go (Ok y) e sound = let is : y ≡ x = cc in ap has_name (sym is) ∙ sound
    go (Err why) e sound = absurd cc

-- a command that wants an operand has a word for it
record Sample (v : Verb) : Type 0 where
  has : has_words (operands_of v).form ≡ true
  operand : is_operand (role_of v (sample (operands_of v).form)) ≡ true
  no_dash : is_dashed (sample (operands_of v).form) ≡ false
  most : nat_le (operands_of v).most 0 ≡ false
  enough_then : nat_le (operands_of v).least 1 ≡ true

operand_of : (v : Verb) → nat_le (operands_of v).least 0 ≡ false → Sample v
operand_of verb.Install e = record { has = refl; operand = refl; no_dash = refl; most = refl; enough_then = refl }
operand_of verb.Uninstall e = record { has = refl; operand = refl; no_dash = refl; most = refl; enough_then = refl }
operand_of verb.Contents e = record { has = refl; operand = refl; no_dash = refl; most = refl; enough_then = refl }
operand_of verb.Search e = record { has = refl; operand = refl; no_dash = refl; most = refl; enough_then = refl }
operand_of verb.ChangeFacet e = record { has = refl; operand = refl; no_dash = refl; most = refl; enough_then = refl }
operand_of verb.ChangeVariant e = record { has = refl; operand = refl; no_dash = refl; most = refl; enough_then = refl }
operand_of verb.SetMediator e = record { has = refl; operand = refl; no_dash = refl; most = refl; enough_then = refl }
operand_of verb.UnsetMediator e = record { has = refl; operand = refl; no_dash = refl; most = refl; enough_then = refl }
operand_of verb.Avoid e = record { has = refl; operand = refl; no_dash = refl; most = refl; enough_then = refl }
operand_of verb.Unavoid e = record { has = refl; operand = refl; no_dash = refl; most = refl; enough_then = refl }
operand_of verb.Freeze e = record { has = refl; operand = refl; no_dash = refl; most = refl; enough_then = refl }
operand_of verb.Unfreeze e = record { has = refl; operand = refl; no_dash = refl; most = refl; enough_then = refl }
operand_of verb.SetPublisher e = record { has = refl; operand = refl; no_dash = refl; most = refl; enough_then = refl }
operand_of verb.UnsetPublisher e = record { has = refl; operand = refl; no_dash = refl; most = refl; enough_then = refl }
operand_of verb.Gen e = record { has = refl; operand = refl; no_dash = refl; most = refl; enough_then = refl }
operand_of v e = absurd cc

wanted_one : (n : ℕ) → nat_le n 0 ≡ false → nat_le 1 n ≡ true
wanted_one zero e = absurd cc
wanted_one (suc n) e = le-leb 1 (suc n) (omega (arith))

-- behind options none of which is missing stand the operands
pub behind_none : (v : Verb) (given : List Given) → lacks (required_of v) given ≡ false → rest v given [] ≡ operands_at (operands_of v) 0 given []
behind_none v given none = rest_none v given ∙ ap (λ (b : Bool). if b then Err (stop Missing 0) else operands_at (operands_of v) 0 given []) none

pub behind_word : (v : Verb) (given : List Given) (word : List ℕ) (us : Words) → is_operand (role_of v word) ≡ true → is_dashed word ≡ false → lacks (required_of v) given ≡ false → rest v given (word ∷ us) ≡ operands_at (operands_of v) 0 given (word ∷ us)
behind_word v given word us operand dashed none =
    rest_operand v given word us operand
    ∙ ap₂ (λ (d l : Bool). if d || l then Err (stop Unknown (suc (length us))) else operands_at (operands_of v) 0 given (word ∷ us)) dashed none

-- The operands of a command can be completed, and with them its line, where no required option is missing.
pub record AreCompleted (v : Verb) (given : List Given) : Type 0 where
  pub more : Words
  pub read : List Given
  pub operands : operands_at (operands_of v) 0 given more ≡ Ok read
  pub line : lacks (required_of v) given ≡ false → rest v given more ≡ Ok read

pub completed : (v : Verb) (given : List Given) → IsFine v given → AreCompleted v given
completed v given fine = go (nat_le (operands_of v).least 0) refl
  where
    go : (b : Bool) → nat_le (operands_of v).least 0 ≡ b → AreCompleted v given
    go true e =
        let done = enough (operands_of v) 0 given e in
        record { more = []; read = given; operands = done; line = λ none. behind_none v given none ∙ done }
    go false e =
        let w = operand_of v e in
        let word = sample (operands_of v).form in
        let x = sampled (operands_of v).form w.has in
        let more = enough (operands_of v) 1 (given ++ valued role.Operand x.0 ∷ []) w.enough_then in
        let reads : operands_at (operands_of v) 0 given (word ∷ []) ≡ Ok (given ++ valued role.Operand x.0 ∷ []) =
        first_read (operands_of v) 0 given word [] x.0 w.most w.no_dash x.1 (not_named x.0 given (fine (wanted_one (operands_of v).least e)))
        ∙ ap (λ (n : ℕ). operands_at (operands_of v) n (given ++ valued role.Operand x.0 ∷ []) []) (omega (arith)) ∙ more in
        record { more = word ∷ []; read = given ++ valued role.Operand x.0 ∷ []; operands = reads; line = λ none. behind_word v given word [] w.operand w.no_dash none ∙ reads }

-- an option that is required, with a value
record Required (v : Verb) (given : List Given) : Type 0 where
  word : List ℕ
  option : is_operand (role_of v word) ≡ false
  valued_too : takes_value (role_of v word) ≡ true
  has : has_words (value_form (role_of v word)) ≡ true
  once : again (role_of v word) given ≡ false
  stand : (x : Value) → lacks (required_of v) (given ++ valued (role_of v word) x ∷ []) ≡ false

or_true : (a b : Bool) → b ≡ true → a || b ≡ true
or_true true b e = refl
or_true false b e = e

-- with an option of the set it stands
stands_then : (r : Role) (given : List Given) (g : Given) → is_set_by r g ≡ true → is_given r (given ++ g ∷ []) ≡ true
stands_then r given g e = any_behind (is_set_by r) given g ∙ or_true (is_given r given) (is_set_by r g) e

required : (v : Verb) (given : List Given) → lacks (required_of v) given ≡ true → Required v given
required verb.ImageCreate given e = record {
  word = codes "-p";
  option = refl;
  valued_too = refl;
  has = refl;
  once = go (is_given role.Publisher given) e;
  stand = λ x. ap (λ (b : Bool). not (b || false)) (stands_then role.Publisher given (valued role.Publisher x) refl);
}
  where
    go : (b : Bool) → not (b || false) ≡ true → b ≡ false
    go true e = absurd cc
    go false e = refl
required verb.SetMediator given e = record {
  word = codes "-V";
  option = refl;
  valued_too = refl;
  has = refl;
  once = go (is_given role.Version given) (is_given role.Implementation given) e;
  stand = λ x. ap (λ (b : Bool). not (b || (is_given role.Implementation (given ++ valued role.Version x ∷ []) || false))) (stands_then role.Version given (valued role.Version x) refl);
}
  where
    go : (a b : Bool) → not (a || (b || false)) ≡ true → a ≡ false
    go true b e = absurd cc
    go false b e = refl
required v given e = absurd cc

-- the line of a command can be completed
pub complete : (v : Verb) (given : List Given) → IsFine v given → Completes (rest v given)
complete v given fine = go (lacks (required_of v) given) refl
  where
    go : (b : Bool) → lacks (required_of v) given ≡ b → Completes (rest v given)
    go false e = let done = completed v given fine in (done.more, done.read, done.line e)
    go true e =
        let need = required v given e in
        let r = role_of v need.word in
        let x = sampled (value_form r) need.has in
        let done = completed v (given ++ valued r x.0 ∷ []) (fine_valued v given need.word (sample (value_form r)) x.0 x.1 fine) in (
          need.word ∷ sample (value_form r) ∷ done.more,
          done.read,
          rest_option v given need.word (sample (value_form r) ∷ done.more) need.option
              ∙ value_read v given r (sample (value_form r)) done.more x.0 need.once need.valued_too x.1
              ∙ done.line (need.stand x.0),
        )

takes_words : (r : Role) → takes_value r ≡ true → has_words (value_form r) ≡ true
takes_words role.Actuator e = refl
takes_words role.Facet e = refl
takes_words role.Implementation e = refl
takes_words role.Publisher e = refl
takes_words role.Reject e = refl
takes_words role.SearchLimit e = refl
takes_words role.Variant e = refl
takes_words role.Version e = refl
takes_words r e = absurd cc

-- behind an option that wants a value
pub complete_value : (v : Verb) (given : List Given) (word : List ℕ) → IsFine v given → again (role_of v word) given ≡ false → takes_value (role_of v word) ≡ true → Completes (option_behind v given (role_of v word))
complete_value v given word fine once some =
    let r = role_of v word in
    let x = sampled (value_form r) (takes_words r some) in
    let done = complete v (given ++ valued r x.0 ∷ []) (fine_valued v given word (sample (value_form r)) x.0 x.1 fine) in
    (sample (value_form r) ∷ done.0, done.1, value_read v given r (sample (value_form r)) done.0 x.0 once some x.1 ∙ done.2)
