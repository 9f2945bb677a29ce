-- Words of a command aren't empty, unless it takes any word.
use Rattle.std.proofs.Common.{◌≡◌, ℕ, suc, ◌+◌, ◌<◌, Bool, true, false, ◌||◌, List, [], ◌∷◌, ◌++◌, length, nat_le, Option, Some, None, Ok, Err, refl, sym, ap, subst, ◌∙◌, arith}
use Rattle.std.specs.Prelude.{codes, if◌then◌else◌, drop}
use Rattle.std.specs.List.{AllByRecursion}
use Rattle.std.proofs.lemmas.Bool.{true≢false}
use Rattle.ips_syntax.specs.declared.table.Why.TheVariants.{Repeated, Unknown}
use Rattle.ips_syntax.specs.declared.table.Verb.{Verb}
use Rattle.ips_syntax.specs.declared.table.Verb.TheVariants as verb
use Rattle.ips_syntax.specs.declared.table.Role.{Role}
use Rattle.ips_syntax.specs.declared.table.Role.TheVariants.{Operand}
use Rattle.ips_syntax.specs.declared.values.Given.{Given}
use Rattle.ips_syntax.specs.declared.lines.Line.{Line}
use Rattle.ips_syntax.specs.declared.lines.Line.TheVariants.{Help, HelpOf, Version, Does}
use Rattle.ips_syntax.specs.Table.{operands_of, required_of, value_form, all_verbs}
use Rattle.ips_syntax.specs.Values.{same, value_at}
use Rattle.ips_syntax.specs.Reading.{stop, verb_in, role_of, is_operand, again, takes_value, lacks, plain, valued, is_dashed, options_at, operand_at, operands_at, is_name_given, behind_options, rest_at, alone, help_of, help_at, command_at, repository_at, image_at, line_of_words}
use Rattle.ips_words.specs.History.{from_command}
use Rattle.ips_asked.proofs.Values.{no_fault, same_ok, is_any, value_some}
use Rattle.ips_asked.proofs.Walk.{unless, read_value, then_ok, two}

-- there are words, and none of them is empty
abbrev pub AreFilled : List (List ℕ) → Type 0
AreFilled words = AllByRecursion (λ (w : List ℕ). 0 < length w) words

-- ---- options

no_option : (v : Verb) → is_operand (role_of v []) ≡ true
no_option verb.ImageCreate = refl
no_option v = refl

option_some : (v : Verb) (word : List ℕ) → is_operand (role_of v word) ≡ false → 0 < length word
option_some v [] is = absurd (true≢false (sym (no_option v) ∙ is))
option_some v (b ∷ word) is = omega arith

some_form : (r : Role) → is_any (value_form r) ≡ false
some_form Operand = refl
some_form r = refl

options_filled : (v : Verb) (words : List (List ℕ)) (given : List Given) (x : List Given × List (List ℕ)) → options_at v given words ≡ Ok x → AreFilled x.1 → AreFilled words
unfolding options_at
options_filled v [] given x is rest = tt
options_filled v (word ∷ []) given x is rest =
    two (is_operand (role_of v word)) _ _ x is
    (λ operand at. subst AreFilled (sym (ap (λ (y : List Given × List (List ℕ)). y.1) (same_ok _ x at))) rest)
    (λ option at. (option_some v word option, tt))
options_filled v (word ∷ next ∷ words) given x is rest =
    let r = role_of v word in
    two (is_operand r) _ _ x is
    (λ operand at. subst AreFilled (sym (ap (λ (y : List Given × List (List ℕ)). y.1) (same_ok _ x at))) rest)
    (λ option at.
    two (takes_value r) _ _ x (unless (again r given) _ _ _ at)
    (λ takes to.
    let (w, from, on) = read_value (suc (length words)) (value_at (value_form r) next) (λ w. options_at v (given ++ valued r w ∷ []) words) x to in
    (option_some v word option, (value_some (value_form r) next w (some_form r) from, options_filled v words (given ++ valued r w ∷ []) x on rest)))
    (λ takes to. (option_some v word option, options_filled v (next ∷ words) (given ++ plain r ∷ []) x to rest)))

-- ---- operands

operands_filled : (v : Verb) (words : List (List ℕ)) (count : ℕ) (given more : List Given) → is_any (operands_of v).form ≡ false → operands_at (operands_of v) count given words ≡ Ok more → AreFilled words
unfolding operands_at
operands_filled v [] count given more other is = tt
operands_filled v (word ∷ words) count given more other is =
    let o = operands_of v in
    let left = suc (length words) in
    let (later, from, to) = then_ok (operand_at o.form left given word) (λ given. operands_at o (count + 1) given words) more (unless (is_dashed word) _ _ _ (unless (nat_le o.most count) _ _ _ is)) in
    let (w, read, put) = read_value left (value_at o.form word) (λ w. if is_name_given w given then Err (stop Repeated left) else Ok (given ++ valued Operand w ∷ [])) later from in
    (value_some o.form word w other read, operands_filled v words (count + 1) later more other to)

behind_filled : (v : Verb) (given : List Given) (words : List (List ℕ)) (more : List Given) → is_any (operands_of v).form ≡ false → behind_options v given words ≡ Ok more → AreFilled words
behind_filled v given [] more other is = tt
behind_filled v given (word ∷ words) more other is = operands_filled v (word ∷ words) 0 given more other (unless (is_dashed word || lacks (required_of v) given) _ _ _ is)

rest_filled : (v : Verb) (words : List (List ℕ)) (more : List Given) → is_any (operands_of v).form ≡ false → rest_at v words ≡ Ok more → AreFilled words
rest_filled v words more other is =
    let (x, from, to) = then_ok (options_at v [] words) (λ (x : List Given × List (List ℕ)). behind_options v x.0 x.1) more is in
    options_filled v words [] x from (behind_filled v x.0 x.1 more other to)

-- ---- lines

-- the line is that of a command which takes any word
abbrev pub takes_any : Line → Bool
takes_any (Does v) = is_any (operands_of v).form
takes_any l = false

-- There are words, and none of them is empty.
pub record AreSome (words : List (List ℕ)) : Type 0 where
  pub some : 0 < length words
  pub each : AreFilled words

no_verb : verb_in all_verbs [] ≡ None
no_verb = refl

verb_some : (word : List ℕ) (v : Verb) → verb_in all_verbs word ≡ Some v → 0 < length word
verb_some [] v is = absurd (cc)
verb_some (b ∷ word) v is = omega arith

same_some : (word : List ℕ) (b : ℕ) (text : List ℕ) → same word (b ∷ text) ≡ true → 0 < length word
same_some [] b text is = absurd (true≢false (sym is))
same_some (c ∷ word) b text is = omega arith

alone_some : (l : Line) (word : List ℕ) (words : List (List ℕ)) (y : Line × List Given) → 0 < length word → alone l words ≡ Ok y → AreSome (word ∷ words)
alone_some l word [] y some is = record { some = omega arith; each = (some, tt) }
alone_some l word (next ∷ words) y some is = no_fault _ y is

help_some : (v : Verb) (word : List ℕ) (words : List (List ℕ)) (y : Line × List Given) → 0 < length word → help_of v words ≡ Ok y → AreSome (word ∷ words)
help_some v word [] y some is = no_fault _ y is
help_some v word (next ∷ []) y some is =
    two (same next (codes "--help")) (alone (HelpOf v) []) (Err (stop Unknown 1)) y is
    (λ asks at. record { some = omega arith; each = (some, (same_some next 45 (codes "-help") asks, tt)) })
    (λ other at. no_fault _ y at)
help_some v word (next ∷ further ∷ words) y some is =
    two (same next (codes "--help")) (alone (HelpOf v) (further ∷ words)) (Err (stop Unknown (suc (length (further ∷ words))))) y is
    (λ asks at. no_fault _ y at)
    (λ other at. no_fault _ y at)

help_at_some : (left : ℕ) (v : Option Verb) (word : List ℕ) (words : List (List ℕ)) (y : Line × List Given) → verb_in all_verbs word ≡ v → help_at left v words ≡ Ok y → AreSome (word ∷ words)
help_at_some left None word words y at is = no_fault _ y is
help_at_some left (Some v) word words y at is = help_some v word words y (verb_some word v at) is

command_some : (left : ℕ) (v : Option Verb) (word : List ℕ) (words : List (List ℕ)) (y : Line × List Given) → verb_in all_verbs word ≡ v → takes_any y.0 ≡ false → command_at left v words ≡ Ok y → AreSome (word ∷ words)
command_some left None word words y at other is = no_fault _ y is
command_some left (Some v) word words y at other is =
    let (given, from, to) = then_ok (rest_at v words) (λ given. Ok (Does v, given)) y is in
    let line = ap (λ (z : Line × List Given). takes_any z.0) (same_ok (Does v, given) y to) in
    record { some = omega arith; each = (verb_some word v at, rest_filled v words given (line ∙ other) from) }

repository_some : (words : List (List ℕ)) (y : Line × List Given) → takes_any y.0 ≡ false → repository_at words ≡ Ok y → AreSome (drop 1 words)
repository_some [] y other is = no_fault _ y is
repository_some (repository ∷ []) y other is = no_fault _ y is
repository_some (repository ∷ word ∷ words) y other is = command_some (suc (length words)) (verb_in all_verbs word) word words y refl other is

image_some : (words : List (List ℕ)) (y : Line × List Given) → takes_any y.0 ≡ false → image_at words ≡ Ok y → AreSome (drop 3 words)
image_some [] y other is = no_fault _ y is
image_some (image ∷ []) y other is = no_fault _ y is
image_some (image ∷ word ∷ words) y other is =
    two (same word (codes "-s")) (repository_at words) (Err (stop Unknown (suc (length words)))) y is
    (λ marks at. repository_some words y other at)
    (λ not at. no_fault _ y at)

-- the words from the command on
pub line_some : (words : List (List ℕ)) (y : Line × List Given) → takes_any y.0 ≡ false → line_of_words words ≡ Ok y → AreSome (from_command words)
line_some [] y other is = no_fault _ y is
line_some (word ∷ words) y other is =
    two (same word (codes "-R")) _ _ y is
    (λ leads at. subst AreSome (sym (ap (λ (b : Bool). if b then drop 3 words else word ∷ words) leads)) (image_some words y other at))
    (λ not_led at. subst AreSome (sym (ap (λ (b : Bool). if b then drop 3 words else word ∷ words) not_led)) (
    two (same word (codes "--help")) _ _ y at
    (λ helps to. alone_some Help word words y (same_some word 45 (codes "-help") helps) to)
    (λ none to.
    two (same word (codes "--version")) _ _ y to
    (λ tells on. alone_some Version word words y (same_some word 45 (codes "-version") tells) on)
    (λ neither on. help_at_some (suc (length words)) (verb_in all_verbs word) word words y refl on))))
