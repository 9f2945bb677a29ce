-- What commands ask for has the form of what is recorded.
use Rattle.std.proofs.Common.{◌≡◌, ◌⊎◌, ℕ, zero, suc, ◌≤◌, ◌<◌, Bool, true, false, ◌||◌, List, [], ◌∷◌, ◌++◌, map, length, Option, Some, None, is_some, Ok, IsTrue, String, Global, Vec, string_bytes, refl, sym, ap, subst, ◌∙◌, inl, inr, arith}
use Rattle.std.specs.Prelude.{codes, ◌==◌, drop, if◌then◌else◌}
use Rattle.std.specs.List.{AllByRecursion}
use Rattle.std.specs.Str.{IsUtf8}
use Rattle.std.proofs.lemmas.Bool.{true≢false, eqb-true}
use Rattle.std.proofs.lemmas.List.Concat.{flat_map-cons}
use Rattle.std.proofs.lemmas.List.Elements.{All-from_recursion, All-weaker, recursion_from_All}
use Rattle.std.proofs.lemmas.Str.{IsUtf8-string_bytes}
use Rattle.ips_text.proofs.Lists.{all_append}
use Rattle.ips_fmri.specs.declared.fmri.Fmri.{Fmri}
use Rattle.ips_fmri.specs.Name.{IsPublisher, IsStem}
use Rattle.ips_fmri.specs.Version.{Parts, IfVersion, stamp_text}
use Rattle.ips_records.specs.Form.{IsWord, IfWord, IfMarked, IsNamed, HasVersion}
use Rattle.ips_syntax.specs.declared.table.Verb.{Verb}
use Rattle.ips_syntax.specs.declared.table.Verb.TheVariants as verb
use Rattle.ips_syntax.specs.declared.table.Role.{Role}
use Rattle.ips_syntax.specs.declared.table.Role.TheVariants as role
use Rattle.ips_syntax.specs.declared.table.Form.{Form}
use Rattle.ips_syntax.specs.declared.table.Form.TheVariants as form
use Rattle.ips_syntax.specs.declared.values.Value.{Value}
use Rattle.ips_syntax.specs.declared.values.Value.TheVariants as value
use Rattle.ips_syntax.specs.declared.values.VariantWord.{VariantWord}
use Rattle.ips_syntax.specs.declared.values.FacetWord.{FacetWord}
use Rattle.ips_syntax.specs.declared.values.Given.{Given}
use Rattle.ips_syntax.specs.Table.{operands_of, sets}
use Rattle.ips_syntax.specs.Values.{same, value_at}
use Rattle.ips_syntax.specs.Reading.{is_operand, takes_value, is_set_by, is_given}
use Rattle.ips_words.specs.Meaning.{word_in, freeze_in, variant_in, facet_in, all_of, value_of, word_of, or_empty, version_of, variant_or_empty, asked_by, IsGiven}
use Rattle.ips_words.specs.History.{history_of, from_command, blank_and_word}
use Rattle.ips_words.specs.Command.{IsCommand}
use Rattle.ips_words.specs.declared.command.Command.{Command}
use Rattle.ips_words.specs.declared.what.What.{What}
use Rattle.ips_words.specs.declared.what.What.TheVariants.{ImageCreate, ChangeFacet, ChangeVariant, SetMediator, Avoid, Freeze, SetPublisher, Search, Help}
use Rattle.ips_asked.specs.Formed.{AreFacetWords, AreVariantWords, IsFormed, HasVersions, CanBeKept, HasLine, IsFormedCommand}
use Rattle.ips_asked.proofs.Values.{FormedValue, value_formed, freeze_formed}
use Rattle.ips_asked.proofs.Walk.{form_at, WasRead, AreRead, HasRead, LineRead, line_read}
use Rattle.ips_asked.proofs.Filled.{takes_any, AreFilled, line_some}

-- ---- roles

-- the form of the roles that set this
abbrev form_by : Verb → ℕ → Form
form_by v n =
    if n == 0 then (operands_of v).form
    else (if n == 2 then form.Filled
    else (if n == 3 then form.Switch
    else (if n == 4 then form.Implementation
    else (if n == 7 then form.Publisher
    else (if n == 8 then form.Pattern
    else (if n == 10 then form.Limit
    else (if n == 11 then form.Variant
    else (if n == 12 then form.Version
    else form.Nothing))))))))

form_set : (v : Verb) (r : Role) → form_at v r ≡ form_by v (sets r)
form_set v role.Operand = refl
form_set v r = refl

-- whether the roles that set this have a value
abbrev gets_by : ℕ → Bool
gets_by n = (n == 0) || (n == 2) || (n == 3) || (n == 4) || (n == 7) || (n == 8) || (n == 10) || (n == 11) || (n == 12)

abbrev gets : Role → Bool
gets r = is_operand r || takes_value r

gets_set : (r : Role) → gets r ≡ gets_by (sets r)
gets_set role.Operand = refl
gets_set r = refl

-- What is said of the value of each word of this kind, by its form, is said of what is given.
module _ (P : List ℕ → Type 0) (Q : Form → Value → Type 0) (each : (f : Form) (word : List ℕ) (x : Value) → P word → value_at f word ≡ Ok x → Q f x) (v : Verb) where
  -- the value that a role has is that of a word in the role's form
  formed_by : (r : Role) (g : Given) → gets r ≡ true → is_set_by r g ≡ true → WasRead P v g → Q (form_at v r) g.value
  formed_by r g valued set was =
      let same = eqb-true (sets g.role) (sets r) set in
      let one : form_at v g.role ≡ form_at v r = form_set v g.role ∙ ap (form_by v) same ∙ sym (form_set v r) in
      let got : gets g.role ≡ true = gets_set g.role ∙ ap gets_by same ∙ sym (gets_set r) ∙ valued in
      elim was [
        | inl none ↦ absurd (true≢false (sym got ∙ none))
        | inr read ↦ subst (λ f. Q f g.value) one (each (form_at v g.role) read.0 g.value read.1 read.2)
      ]

  -- all values of a role
  lists_formed : {A : Type 0} (R : A → Type 0) (given_in : Value → List A) (r : Role) → gets r ≡ true → ((x : Value) → Q (form_at v r) x → AllByRecursion R (given_in x))
      → (given : List Given) → AreRead P v given → AllByRecursion R (all_of given_in r given)
  lists_formed R given_in r valued says [] all = tt
  lists_formed R given_in r valued says (g ∷ given) all =
      all_append R (if is_set_by r g then given_in g.value else []) (all_of given_in r given) (own (is_set_by r g) refl) (lists_formed R given_in r valued says given all.1)
    where
      own : (b : Bool) → is_set_by r g ≡ b → AllByRecursion R (if b then given_in g.value else [])
      own true set = says g.value (formed_by r g valued set all.0)
      own false set = tt

  -- the first value of a role, where there is one
  maybe_given : (r : Role) → gets r ≡ true → (given : List Given) → AreRead P v given → (value_of r given ≡ None) ⊎ ((x : Value) × (value_of r given ≡ Some x) × Q (form_at v r) x)
  maybe_given r valued [] all = inl refl
  maybe_given r valued (g ∷ given) all = own (is_set_by r g) refl (maybe_given r valued given all.1)
    where
      own : (b : Bool) → is_set_by r g ≡ b → (value_of r given ≡ None) ⊎ ((x : Value) × (value_of r given ≡ Some x) × Q (form_at v r) x)
          → ((if b then Some g.value else value_of r given) ≡ None) ⊎ ((x : Value) × ((if b then Some g.value else value_of r given) ≡ Some x) × Q (form_at v r) x)
      own true set later = inr (g.value, refl, formed_by r g valued set all.0)
      own false set later = later

  -- the first value of a role that stands
  is_there : (r : Role) → gets r ≡ true → (given : List Given) → AreRead P v given → is_given r given ≡ true → (x : Value) × (value_of r given ≡ Some x) × Q (form_at v r) x
  is_there r valued [] all stands = absurd (true≢false (sym stands))
  is_there r valued (g ∷ given) all stands = own (is_set_by r g) refl stands (is_there r valued given all.1)
    where
      own : (b : Bool) → is_set_by r g ≡ b → (b || is_given r given) ≡ true → (is_given r given ≡ true → (x : Value) × (value_of r given ≡ Some x) × Q (form_at v r) x)
          → (x : Value) × ((if b then Some g.value else value_of r given) ≡ Some x) × Q (form_at v r) x
      own true set at later = (g.value, refl, formed_by r g valued set all.0)
      own false set at later = later at

-- ---- lists

variants_in : (x : Value) → FormedValue form.Variant x → AllByRecursion (λ (w : VariantWord). IsWord w.name × IsWord w.value) (variant_in x)
variants_in x h = subst (λ y. AllByRecursion (λ (w : VariantWord). IsWord w.name × IsWord w.value) (variant_in y)) (sym h.1) ((h.2, h.3), tt)

facets_in : (x : Value) → ((w : FacetWord) × (x ≡ value.Facet w) × IsWord w.name) → AllByRecursion (λ (w : FacetWord). IsWord w.name) (facet_in x)
facets_in x h = subst (λ y. AllByRecursion (λ (w : FacetWord). IsWord w.name) (facet_in y)) (sym h.1) (h.2, tt)

stems_in : (x : Value) → FormedValue form.Stem x → AllByRecursion (IsStem false) (word_in x)
stems_in x h = subst (λ y. AllByRecursion (IsStem false) (word_in y)) (sym h.1) (h.2, tt)

freezes_in : (x : Value) → FormedValue form.Freeze x → AllByRecursion IsNamed (freeze_in x)
freezes_in x h = subst (λ y. AllByRecursion IsNamed (freeze_in y)) (sym h.1) (h.2, tt)

-- ---- what commands ask for

-- what the operand of a command says
operand_is : (v : Verb) (given : List Given) → HasRead IsUtf8 v given → 1 ≤ (operands_of v).least → (x : Value) × (value_of role.Operand given ≡ Some x) × FormedValue (operands_of v).form x
operand_is v given read one = is_there IsUtf8 FormedValue value_formed v role.Operand refl given read.all (read.operand one)

word_at : (P : List ℕ → Type 0) (o : Option Value) (x : Value) (word : List ℕ) → o ≡ Some x → x ≡ value.Word word → P word → P (or_empty (word_of o))
word_at P o x word there is holds = subst (λ y. P (or_empty (word_of y))) (sym (there ∙ ap (λ y. Some y) is)) holds

formed_given : (w : What) (given : List Given) → LineRead IsUtf8 (asked_by w) given → IsGiven given w → IsFormed w
formed_given (ImageCreate publisher variants facets actuator) given read is =
    let p = is_there IsUtf8 FormedValue value_formed verb.ImageCreate role.Publisher refl given read.all (read.required role.Publisher refl) in (
      subst IsPublisher (sym is.0) (word_at IsPublisher (value_of role.Publisher given) p.0 p.2.0 p.1 p.2.1 p.2.2),
      subst AreVariantWords (sym is.1) (lists_formed IsUtf8 FormedValue value_formed verb.ImageCreate (λ (w : VariantWord). IsWord w.name × IsWord w.value) variant_in role.Variant refl variants_in given read.all),
      subst AreFacetWords (sym is.2) (lists_formed IsUtf8 FormedValue value_formed verb.ImageCreate (λ (w : FacetWord). IsWord w.name) facet_in role.Facet refl facets_in given read.all),
      subst IfWord (sym is.3) (elim (maybe_given IsUtf8 FormedValue value_formed verb.ImageCreate role.Actuator refl given read.all) [
        | inl none ↦ subst (λ o. IfWord (word_of o)) (sym none) tt
        | inr some ↦ subst (λ o. IfWord (word_of o)) (sym (some.1 ∙ ap (λ y. Some y) some.2.1)) some.2.2
      ]),
    )
formed_given (ChangeFacet facets accept) given read is = subst AreFacetWords (sym is.0) (lists_formed IsUtf8 FormedValue value_formed verb.ChangeFacet (λ (w : FacetWord). IsWord w.name) facet_in role.Operand refl facets_in given read.all)
formed_given (ChangeVariant name value accept) given read is =
    let x = operand_is verb.ChangeVariant given read (omega arith) in
    let whole = x.1 ∙ ap (λ y. Some y) x.2.1 in
    (subst IsWord (sym (is.0 ∙ ap (λ o. (variant_or_empty o).name) whole)) x.2.2, subst IsWord (sym (is.1 ∙ ap (λ o. (variant_or_empty o).value) whole)) x.2.3)
formed_given (SetMediator name version implementation) given read is =
    let x = operand_is verb.SetMediator given read (omega arith) in (
      subst IsWord (sym is.0) (word_at IsWord (value_of role.Operand given) x.0 x.2.0 x.1 x.2.1 x.2.2),
      subst IfVersion (sym is.1) (elim (maybe_given IsUtf8 FormedValue value_formed verb.SetMediator role.Version refl given read.all) [
        | inl none ↦ subst (λ o. IfVersion (version_of o)) (sym none) tt
        | inr some ↦ subst (λ o. IfVersion (version_of o)) (sym (some.1 ∙ ap (λ y. Some y) some.2.1)) some.2.2
      ]),
      subst IfMarked (sym is.2) (elim (maybe_given IsUtf8 FormedValue value_formed verb.SetMediator role.Implementation refl given read.all) [
        | inl none ↦ subst (λ o. IfMarked (word_of o)) (sym none) tt
        | inr some ↦ subst (λ o. IfMarked (word_of o)) (sym (some.1 ∙ ap (λ y. Some y) some.2.1)) (some.2.2, some.2.3)
      ]),
    )
formed_given (Avoid stems) given read is = subst (AllByRecursion (IsStem false)) (sym is) (lists_formed IsUtf8 FormedValue value_formed verb.Avoid (IsStem false) word_in role.Operand refl stems_in given read.all)
formed_given (Freeze freezes) given read is = subst (AllByRecursion IsNamed) (sym is) (lists_formed IsUtf8 FormedValue value_formed verb.Freeze IsNamed freeze_in role.Operand refl freezes_in given read.all)
formed_given (SetPublisher name first sticky) given read is =
    let x = operand_is verb.SetPublisher given read (omega arith) in
    subst IsPublisher (sym is.0) (word_at IsPublisher (value_of role.Operand given) x.0 x.2.0 x.1 x.2.1 x.2.2)
formed_given w given read is = tt

-- ---- the line in the history

words_of : (words : List (List ℕ)) → AllByRecursion IsUtf8 words → AreFilled words → AllByRecursion IsWord words
words_of [] texts filled = tt
words_of (w ∷ words) texts filled = (record { some = filled.0; text = texts.0 }, words_of words texts.1 filled.1)

history_kept : (words : List (List ℕ)) → 0 < length words → AllByRecursion IsWord words → CanBeKept (history_of words)
history_kept [] some each = absurd (omega (arith, some))
history_kept (w ∷ words) some each = λ moment stamp. record {
  moment = moment;
  words = w ∷ words;
  stamp = stamp;
  some = some;
  each = each;
  written = ap (λ (l : List ℕ). stamp_text moment ++ l) (sym (flat_map-cons blank_and_word w words));
}

has_line : (w : What) (words : List ℕ) → (takes_any (asked_by w) ≡ false → CanBeKept words) → HasLine w words
has_line (Search pattern) words are = tt
has_line (Help None) words are = are refl
has_line (Help (Some v)) words are = are refl
has_line w words are = are refl

drop_texts : (n : ℕ) (words : List (List ℕ)) → AllByRecursion IsUtf8 words → AllByRecursion IsUtf8 (drop n words)
drop_texts zero words all = all
drop_texts (suc n) [] all = tt
drop_texts (suc n) (word ∷ words) all = drop_texts n words all.1

from_texts : (words : List (List ℕ)) → AllByRecursion IsUtf8 words → AllByRecursion IsUtf8 (from_command words)
from_texts [] all = tt
from_texts (word ∷ words) all = go (same word (codes "-R"))
  where
    go : (b : Bool) → AllByRecursion IsUtf8 (if b then drop 3 words else word ∷ words)
    go true = drop_texts 3 words all.1
    go false = all

-- ---- commands

-- what texts ask for is formed
pub command_formed : (words : List (List ℕ)) (c : Command) → AllByRecursion IsUtf8 words → IsCommand words c → IsFormedCommand c
command_formed words c texts is =
    let read = line_read IsUtf8 words (is.line, is.given) texts is.read in
    record {
      formed = formed_given c.what is.given (subst (λ l. LineRead IsUtf8 l is.given) (sym is.means.command) read) is.means.parts;
      line = has_line c.what c.history (λ other.
          let some = line_some words (is.line, is.given) (ap takes_any (sym is.means.command) ∙ other) is.read in
          subst CanBeKept (sym is.history) (history_kept (from_command words) some.some (words_of (from_command words) (from_texts words texts) some.each)));
    }

strings : (words : List (String Global)) → AllByRecursion IsUtf8 (map (λ s. string_bytes s) words)
strings [] = tt
strings (word ∷ words) = (IsUtf8-string_bytes word, strings words)

-- what the words of a command line ask for is formed
pub string_command_formed : (words : List (String Global)) (c : Command) → IsCommand (map (λ s. string_bytes s) words) c → IsFormedCommand c
string_command_formed words c is = command_formed (map (λ s. string_bytes s) words) c (strings words) is

-- ---- freezes

named_version : (f : Fmri) → IsNamed f → IsTrue (is_some f.version)
named_version f named = go f.version named.version
  where
    go : (o : Option Parts) → HasVersion o → IsTrue (is_some o)
    go None h = absurd h
    go (Some v) h = refl

freezes_versioned : (w : Vec Fmri Global) → AllByRecursion IsNamed w.items → HasVersions (Freeze w)
freezes_versioned w all =
    recursion_from_All (λ (f : Fmri). IsTrue (is_some f.version)) w.items (All-weaker IsNamed (λ (f : Fmri). IsTrue (is_some f.version)) named_version w.items (All-from_recursion IsNamed w.items all))

-- what is formed has versions where it needs them
pub formed_versions : (w : What) → IsFormed w → HasVersions w
formed_versions (Freeze freezes) formed = freezes_versioned freezes formed
formed_versions w formed = tt

any_words : (words : List (List ℕ)) → AllByRecursion (λ (w : List ℕ). Unit {0}) words
any_words [] = tt
any_words (word ∷ words) = (tt, any_words words)

-- what is said of freezes alone
abbrev FreezeFormed : Form → Value → Type 0
FreezeFormed form.Freeze x = FormedValue form.Freeze x
FreezeFormed f x = Unit {0}

freezes_formed : (f : Form) (word : List ℕ) (x : Value) → Unit {0} → value_at f word ≡ Ok x → FreezeFormed f x
freezes_formed form.Freeze word x any is = freeze_formed word x is
freezes_formed f word x any is = tt

versions_given : (w : What) (given : List Given) → LineRead (λ (word : List ℕ). Unit {0}) (asked_by w) given → IsGiven given w → HasVersions w
versions_given (Freeze freezes) given read is =
    freezes_versioned freezes (subst (AllByRecursion IsNamed) (sym is) (lists_formed (λ word. Unit {0}) FreezeFormed freezes_formed verb.Freeze IsNamed freeze_in role.Operand refl freezes_in given read.all))
versions_given w given read is = tt

-- the freezes that a command asks for have versions
pub has_versions : (words : List (List ℕ)) (c : Command) → IsCommand words c → HasVersions c.what
has_versions words c is =
    versions_given c.what is.given (subst (λ l. LineRead (λ (word : List ℕ). Unit {0}) l is.given) (sym is.means.command) (line_read (λ word. Unit {0}) words (is.line, is.given) (any_words words) is.read)) is.means.parts
