-- How many packages the words of a trial ask for.
use Rattle.std.proofs.Common.{◌≡◌, ◌⊎◌, inl, inr, ℕ, ◌≤◌, nat_le, Bool, true, false, ◌&&◌, ◌||◌, List, [], ◌∷◌, length, Some, Ok, Err, Result, refl, sym, ◌∙◌, ap, subst, arith}
use Rattle.std.specs.Prelude.{◌==◌, if◌then◌else◌}
use Rattle.std.specs.List.{AllByRecursion}
use Rattle.std.proofs.lemmas.Bool.{true≢false, and_parts, or_left}
use Rattle.std.proofs.lemmas.Bool.Decides.{nat_tests}
use Rattle.ips_text.specs.Number.{number_at}
use Rattle.ips_text.specs.declared.refusal.Stop.{Stop}
use Rattle.ips_syntax.specs.declared.table.Why.{Why}
use Rattle.ips_syntax.specs.declared.table.Why.TheVariants.{BadValue}
use Rattle.ips_syntax.specs.declared.table.Verb.TheVariants.{Gen}
use Rattle.ips_syntax.specs.declared.table.Role.{Role}
use Rattle.ips_syntax.specs.declared.table.Role.TheVariants.{Operand}
use Rattle.ips_syntax.specs.declared.table.Form.TheVariants.{Count}
use Rattle.ips_syntax.specs.declared.values.Value.{Value}
use Rattle.ips_syntax.specs.declared.values.Value.TheVariants.{Number}
use Rattle.ips_syntax.specs.declared.values.Given.{Given}
use Rattle.ips_syntax.specs.declared.lines.Line.{Line}
use Rattle.ips_syntax.specs.Values.{value_at, within}
use Rattle.ips_syntax.specs.Reading.{is_operand, is_set_by, is_given}
use Rattle.ips_words.specs.Meaning.{value_of, number_or, asked_by, IsGiven}
use Rattle.ips_words.specs.Command.{IsCommand}
use Rattle.ips_words.specs.declared.command.Command.{Command}
use Rattle.ips_words.specs.declared.what.What.{What}
use Rattle.ips_words.specs.declared.what.What.TheVariants as what
use Rattle.ips_asked.proofs.Values.{holds_then, no_fault}
use Rattle.ips_asked.proofs.Walk.{form_at, WasRead, AreRead, LineRead, line_read}
use Rattle.ips_top.specs.Runs.{HasNumber}

-- The value is a number that can be asked for.
abbrev IsCount : Value → Type 0
IsCount v = (n : ℕ) × (v ≡ Number n) × (1 ≤ n) × (n ≤ 2000)

-- any word
abbrev Any : List ℕ → Type 0
Any word = Unit {0}

count_is : (r : Result (ℕ × List ℕ) (Stop Why)) (v : Value) → within 1 2000 r ≡ Ok v → IsCount v
count_is (Ok x) v is =
    let (holds, same) = holds_then _ (Number x.0) v is in
    let outer = and_parts (length x.1 == 0 && nat_le 1 x.0) (nat_le x.0 2000) holds in
    let inner = and_parts (length x.1 == 0) (nat_le 1 x.0) outer.0 in
    let high = outer.1 in
    let low = inner.1 in
    (x.0, sym same, grind (arith, nat_tests), grind (arith, nat_tests))
count_is (Err why) v is = no_fault _ v is

-- the operands of a trial are counts
counts : (r : Role) → is_operand r ≡ true → form_at Gen r ≡ Count
counts Operand is = refl
counts r is = absurd (true≢false (sym is))

operand_is : (g : Given) → is_operand g.role ≡ true → WasRead Any Gen g → IsCount g.value
operand_is g is (inl none) = absurd (true≢false (sym (or_left _ _ is) ∙ none))
operand_is g is (inr (word, any, read)) = count_is (number_at BadValue word) g.value (ap (λ f. value_at f word) (sym (counts g.role is)) ∙ read)

first_is : (given : List Given) → AreRead Any Gen given → is_given Operand given ≡ true → (v : Value) × (value_of Operand given ≡ Some v) × IsCount v
first_is [] all stands = absurd (true≢false (sym stands))
first_is (g ∷ given) all stands = own (is_set_by Operand g) refl stands (first_is given all.1)
  where
    own : (b : Bool) → is_set_by Operand g ≡ b → (b || is_given Operand given) ≡ true → (is_given Operand given ≡ true → (v : Value) × (value_of Operand given ≡ Some v) × IsCount v)
        → (v : Value) × ((if b then Some g.value else value_of Operand given) ≡ Some v) × IsCount v
    own true set at later = (g.value, refl, operand_is g set all.0)
    own false set at later = later at

number_given : (w : What) (given : List Given) → LineRead Any (asked_by w) given → IsGiven given w → HasNumber w
number_given (what.Gen number) given read is =
    let (v, there, (n, same, low, high)) = first_is given read.all (read.operand (omega arith)) in
    let whole : number ≡ n = is ∙ ap (number_or 0) (there ∙ ap (λ (x : Value). Some x) same) in
    (omega (arith, whole, low), omega (arith, whole, high))
number_given w given read is = tt

any_words : (words : List (List ℕ)) → AllByRecursion Any words
any_words [] = tt
any_words (word ∷ words) = (tt, any_words words)

-- The words of a trial ask for a number of packages that can be asked for.
pub has_number : (words : List (List ℕ)) (c : Command) → IsCommand words c → HasNumber c.what
has_number words c is = number_given c.what is.given (subst (λ (l : Line). LineRead Any l is.given) (sym is.means.command) (line_read Any words (is.line, is.given) (any_words words) is.read)) is.means.parts
