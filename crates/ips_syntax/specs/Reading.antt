-- Reading the words from left to right: what a line says, or the first word at fault and what is wrong there.
use Rattle.std.specs.Prelude.{ℕ, suc, ◌+◌, Bool, true, false, not, ◌&&◌, ◌||◌, ◌==◌, nat_le, if◌then◌else◌, List, [], ◌∷◌, ◌++◌, length, codes, Option, Some, None, Result, Ok, Err}
use Rattle.std.specs.List.{list_any}
use Rattle.ips_text.specs.declared.refusal.Stop.{Stop}
use Rattle.ips_text.specs.Reading.{◌>>=◌}
use Rattle.ips_syntax.specs.declared.table.Why.{Why}
use Rattle.ips_syntax.specs.declared.table.Why.TheVariants.{Missing, Unknown, Repeated, Extra}
use Rattle.ips_syntax.specs.declared.table.Verb.{Verb}
use Rattle.ips_syntax.specs.declared.table.Role.{Role}
use Rattle.ips_syntax.specs.declared.table.Role.TheVariants.{Operand}
use Rattle.ips_syntax.specs.declared.table.Form.{Form}
use Rattle.ips_syntax.specs.declared.table.Form.TheVariants as form
use Rattle.ips_syntax.specs.declared.table.Operands.{Operands}
use Rattle.ips_syntax.specs.declared.values.Value.{Value}
use Rattle.ips_syntax.specs.declared.values.Value.TheVariants as value
use Rattle.ips_syntax.specs.declared.values.Given.{Given}
use Rattle.ips_syntax.specs.declared.lines.Line.{Line}
use Rattle.ips_syntax.specs.declared.lines.Line.TheVariants.{Help, HelpOf, Version, Does}
use Rattle.ips_syntax.specs.Table.{all_verbs, verb_name, options_of, operands_of, required_of, role_name, value_form, repeats, sets}
use Rattle.ips_syntax.specs.Values.{same, value_at}

-- A stop of this kind where so many words are left.
abbrev pub stop : Why → ℕ → Stop Why
stop why left = record { kind = why; left = left }

-- What a value stops at, where so many words are left.
abbrev pub stopping : ℕ → Result Value Why → Result Value (Stop Why)
stopping left (Ok v) = Ok v
stopping left (Err why) = Err (stop why left)

-- The command whose word this is.
abbrev pub verb_in : List Verb → List ℕ → Option Verb
verb_in [] word = None
verb_in (v ∷ verbs) word = if same (verb_name v) word then Some v else verb_in verbs word

-- The option whose word this is; an operand where it is none's.
abbrev pub role_in : List Role → List ℕ → Role
role_in [] word = Operand
role_in (r ∷ roles) word = if same (role_name r) word then r else role_in roles word

-- What a word is on the line of a command.
abbrev pub role_of : Verb → List ℕ → Role
role_of verb word = role_in (options_of verb) word

-- It is no option.
abbrev pub is_operand : Role → Bool
is_operand r = sets r == 0

-- The form is that of no word.
abbrev pub is_nothing : Form → Bool
is_nothing form.Nothing = true
is_nothing f = false

-- A word behind the option is its value.
abbrev pub takes_value : Role → Bool
takes_value r = not (is_nothing (value_form r))

-- What was given sets what the option sets.
abbrev pub is_set_by : Role → Given → Bool
is_set_by r g = sets g.role == sets r

-- The option, or one that excludes it, stands.
abbrev pub is_given : Role → List Given → Bool
is_given r given = list_any (is_set_by r) given

-- The option may not stand again.
abbrev pub again : Role → List Given → Bool
again r given = not (repeats r) && is_given r given

-- None of the options stands, of which one is required.
abbrev pub lacks : List Role → List Given → Bool
lacks roles given = not (length roles == 0) && not (list_any (λ r. is_given r given) roles)

-- What is given without a value.
abbrev pub plain : Role → Given
plain r = record { role = r; value = value.Nothing }

-- What is given with one.
abbrev pub valued : Role → Value → Given
valued r v = record { role = r; value = v }

-- The word begins with `-`.
abbrev pub is_dashed : List ℕ → Bool
is_dashed [] = false
is_dashed (b ∷ bytes) = b == 45

-- One option is read, whose word is taken away already; the rest of the words stands behind it.
abbrev pub option_at : Role → List Given → List (List ℕ) → Result (List Given × List (List ℕ)) (Stop Why)
option_at r given [] =
    if again r given then Err (stop Repeated 1)
    else (if takes_value r then Err (stop Missing 0)
    else Ok (given ++ plain r ∷ [], []))
option_at r given (word ∷ words) =
    if again r given then Err (stop Repeated (suc (suc (length words))))
    else (if takes_value r then (stopping (suc (length words)) (value_at (value_form r) word) >>= λ v. Ok (given ++ valued r v ∷ [], words))
    else Ok (given ++ plain r ∷ [], word ∷ words))

-- The options are read, up to the first word that is none.
unfoldable pub options_at : Verb → List Given → List (List ℕ) → Result (List Given × List (List ℕ)) (Stop Why)
options_at verb given [] = Ok (given, [])
options_at verb given (word ∷ []) =
    if is_operand (role_of verb word) then Ok (given, word ∷ [])
    else option_at (role_of verb word) given []
options_at verb given (word ∷ next ∷ words) =
    if is_operand (role_of verb word) then Ok (given, word ∷ next ∷ words)
    else (if again (role_of verb word) given then Err (stop Repeated (suc (suc (length words))))
    else (if takes_value (role_of verb word)
    then (stopping (suc (length words)) (value_at (value_form (role_of verb word)) next) >>= λ v. options_at verb (given ++ valued (role_of verb word) v ∷ []) words)
    else options_at verb (given ++ plain (role_of verb word) ∷ []) (next ∷ words)))

-- Both values set one name.
abbrev pub is_same_name : Value → Value → Bool
is_same_name (value.Facet a) (value.Facet b) = same a.name b.name
is_same_name (value.Freeze a) (value.Freeze b) = same a.stem b.stem
is_same_name v w = false

-- The name that a value sets is set already.
abbrev pub is_name_given : Value → List Given → Bool
is_name_given v given = list_any (λ (g : Given). is_same_name v g.value) given

-- One operand is read, which stands where so many words are left.
abbrev pub operand_at : Form → ℕ → List Given → List ℕ → Result (List Given) (Stop Why)
operand_at f left given word = do
  v ← stopping left (value_at f word)
  if is_name_given v given then Err (stop Repeated left) else Ok (given ++ valued Operand v ∷ [])

-- The operands are read to the end of the line, behind so many.
unfoldable pub operands_at : Operands → ℕ → List Given → List (List ℕ) → Result (List Given) (Stop Why)
operands_at o count given [] = if nat_le o.least count then Ok given else Err (stop Missing 0)
operands_at o count given (word ∷ words) =
    if nat_le o.most count then Err (stop Extra (suc (length words)))
    else (if is_dashed word then Err (stop Unknown (suc (length words)))
    else (operand_at o.form (suc (length words)) given word >>= λ more. operands_at o (count + 1) more words))

-- What stands behind the options: the operands, where no required option is missing.
abbrev pub behind_options : Verb → List Given → List (List ℕ) → Result (List Given) (Stop Why)
behind_options verb given [] = if lacks (required_of verb) given then Err (stop Missing 0) else operands_at (operands_of verb) 0 given []
behind_options verb given (word ∷ words) =
    if is_dashed word || lacks (required_of verb) given
    then Err (stop Unknown (suc (length words)))
    else operands_at (operands_of verb) 0 given (word ∷ words)

-- What stands behind a command.
abbrev pub rest_at : Verb → List (List ℕ) → Result (List Given) (Stop Why)
rest_at verb words = options_at verb [] words >>= λ x. behind_options verb x.0 x.1

-- A word that stands for this alone.
abbrev pub alone : Line → List (List ℕ) → Result (Line × List Given) (Stop Why)
alone line [] = Ok (line, [])
alone line (word ∷ words) = Err (stop Extra (suc (length words)))

-- What stands behind a command that is the first word: `--help`.
abbrev pub help_of : Verb → List (List ℕ) → Result (Line × List Given) (Stop Why)
help_of verb [] = Err (stop Missing 0)
help_of verb (word ∷ words) = if same word (codes "--help") then alone (HelpOf verb) words else Err (stop Unknown (suc (length words)))

-- A command that is the first word, of which so many words are left with it.
abbrev pub help_at : ℕ → Option Verb → List (List ℕ) → Result (Line × List Given) (Stop Why)
help_at left None words = Err (stop Unknown left)
help_at left (Some verb) words = help_of verb words

-- A command and what stands behind it, of which so many words are left with it.
abbrev pub command_at : ℕ → Option Verb → List (List ℕ) → Result (Line × List Given) (Stop Why)
command_at left None words = Err (stop Unknown left)
command_at left (Some verb) words = rest_at verb words >>= λ given. Ok (Does verb, given)

-- What stands behind `-s`: the repository, then the command.
abbrev pub repository_at : List (List ℕ) → Result (Line × List Given) (Stop Why)
repository_at [] = Err (stop Missing 0)
repository_at (repository ∷ []) = Err (stop Missing 0)
repository_at (repository ∷ word ∷ words) = command_at (suc (length words)) (verb_in all_verbs word) words

-- What stands behind `-R`: the image, then `-s`.
abbrev pub image_at : List (List ℕ) → Result (Line × List Given) (Stop Why)
image_at [] = Err (stop Missing 0)
image_at (image ∷ []) = Err (stop Missing 0)
image_at (image ∷ word ∷ words) = if same word (codes "-s") then repository_at words else Err (stop Unknown (suc (length words)))

-- A whole line: its command with what is given, or a word that asks for help.
abbrev pub line_of_words : List (List ℕ) → Result (Line × List Given) (Stop Why)
line_of_words [] = Err (stop Missing 0)
line_of_words (word ∷ words) =
    if same word (codes "-R") then image_at words
    else (if same word (codes "--help") then alone Help words
    else (if same word (codes "--version") then alone Version words
    else help_at (suc (length words)) (verb_in all_verbs word) words))
