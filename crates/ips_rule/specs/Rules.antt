-- Rules that transform manifests: what they say, and how their lines may be written.
use Rattle.std.specs.Prelude.{◌≡◌, ℕ, true, List, [], ◌∷◌, ◌++◌, map, codes}
use Rattle.std.specs.List.{list_all, flat_map, AllByRecursion}
use Rattle.ips_line.specs.Line.{is_blank, is_quote, in_key, IsRunOfBytes, Written, Quoted, written_text, IsWritten, value_of}
use Rattle.ips_action.specs.Kind.{kind_name}
use Rattle.ips_rule.specs.declared.selector.Selector.{Selector}
use Rattle.ips_rule.specs.declared.selector.Selector.TheVariants.{Kind, Criterion}
use Rattle.ips_rule.specs.declared.operation.Operation.{Operation}
use Rattle.ips_rule.specs.declared.operation.Operation.TheVariants as does

-- what a rule asks for, in the order of its words, and what it does
pub record Rule : Type 0 where
  pub selectors : List Selector
  pub operation : Operation

-- ---- the words of a rule

-- the word for what is asked: the name of a kind of action, or `key=pattern`
abbrev pub selector_word : Selector → List ℕ
selector_word (Kind kind) = kind_name kind
selector_word (Criterion key pattern) = key ++ 61 ∷ pattern

-- the key is one that actions may have
abbrev pub IsSelector : Selector → Type 0
IsSelector (Kind kind) = Unit {0}
IsSelector (Criterion key pattern) = IsRunOfBytes in_key key

-- the words for what is done
abbrev pub operation_words : Operation → List (List ℕ)
operation_words does.Drop = codes "drop" ∷ []
operation_words (does.Add key value) = codes "add" ∷ key ∷ value ∷ []
operation_words (does.Default key value) = codes "default" ∷ key ∷ value ∷ []
operation_words (does.Set key value) = codes "set" ∷ key ∷ value ∷ []
operation_words (does.Delete key pattern) = codes "delete" ∷ key ∷ pattern ∷ []
operation_words (does.Edit key pattern template) = codes "edit" ∷ key ∷ pattern ∷ template ∷ []

-- the key is one that actions may have
abbrev pub IsOperation : Operation → Type 0
IsOperation does.Drop = Unit {0}
IsOperation (does.Add key value) = IsRunOfBytes in_key key
IsOperation (does.Default key value) = IsRunOfBytes in_key key
IsOperation (does.Set key value) = IsRunOfBytes in_key key
IsOperation (does.Delete key pattern) = IsRunOfBytes in_key key
IsOperation (does.Edit key pattern template) = IsRunOfBytes in_key key

-- each key of the rule is one that actions may have
pub record IsRule (r : Rule) : Type 0 where
  pub selectors : AllByRecursion IsSelector r.selectors
  pub operation : IsOperation r.operation

-- the words up to `->`: those for what is asked, and `->`
abbrev pub asked_words : List Selector → List (List ℕ)
asked_words selectors = map selector_word selectors ++ codes "->" ∷ []

-- ---- how they are written

-- a word as it is written: a value as in the lines of a manifest, or a key, `=` and a value between two quotes
pub data Word : Type 0 where
  Value : Written → Word
  Keyed : List ℕ → ℕ → List ℕ → Word

-- the bytes of a written word
abbrev pub word_text : Word → List ℕ
word_text (Value value) = written_text value
word_text (Keyed key quote inside) = key ++ 61 ∷ written_text (Quoted quote inside)

-- the word that is written so
abbrev pub written_word : Word → List ℕ
written_word (Value value) = value_of value
written_word (Keyed key quote inside) = key ++ 61 ∷ value_of (Quoted quote inside)

-- the text begins with a key, `=` and a quote
pub record QuotesValue (text : List ℕ) : Type 0 where
  pub key : List ℕ
  pub quote : ℕ
  pub more : List ℕ
  pub is_key : IsRunOfBytes in_key key
  pub quotes : is_quote quote ≡ true
  pub whole : text ≡ key ++ 61 ∷ quote ∷ more

-- a word up to `->` may be written so. A value doesn't begin with a key, `=` and a quote: there the quote begins the value of the key
abbrev pub IsTerm : Word → Type 0
IsTerm (Value value) = IsWritten value × (QuotesValue (written_text value) → ⊥)
IsTerm (Keyed key quote inside) = IsRunOfBytes in_key key × IsWritten (Quoted quote inside)

-- a word behind `->` may be written so: as a value
abbrev pub IsValue : Word → Type 0
IsValue (Value value) = IsWritten value
IsValue (Keyed key quote inside) = ⊥

-- a written word, and the blanks before it
pub record Spelled : Type 0 where
  pub gap : List ℕ
  pub word : Word

-- the bytes of the blanks and the word
abbrev pub spelled_text : Spelled → List ℕ
spelled_text s = s.gap ++ word_text s.word

-- there are one or more blanks, and the word fits
abbrev pub IsSpelled : (Word → Type 0) → Spelled → Type 0
IsSpelled Fits s = IsRunOfBytes is_blank s.gap × Fits s.word

-- the text is a way to write the words, each behind one or more blanks, as a word that fits
abbrev pub AreSpelled : (Word → Type 0) → List (List ℕ) → List ℕ → Type 0
AreSpelled Fits words text =
    (spelled : List Spelled) × AllByRecursion (IsSpelled Fits) spelled × (map (λ s. written_word s.word) spelled ≡ words) × (text ≡ flat_map spelled_text spelled)

-- the text is a way to write the words behind `->`: as values, and blanks at the end
abbrev pub AreDone : List (List ℕ) → List ℕ → Type 0
AreDone words text = (values : List ℕ) × (behind : List ℕ) × AreSpelled IsValue words values × (list_all is_blank behind ≡ true) × (text ≡ values ++ behind)

-- the text is a way to write the words of the rule: those up to `->`, and those behind it
abbrev pub IsInside : Rule → List ℕ → Type 0
IsInside r text = (asked : List ℕ) × (done : List ℕ) × AreSpelled IsTerm (asked_words r.selectors) asked × AreDone (operation_words r.operation) done × (text ≡ asked ++ done)

-- how a rule begins
abbrev pub rule_front : List ℕ
rule_front = codes "<transform"

-- its last byte: `>`
abbrev pub rule_end : List ℕ
rule_end = 62 ∷ []

-- the text is a way to write the rule
abbrev pub Says : Rule → List ℕ → Type 0
Says r text = IsRule r × ((inside : List ℕ) × IsInside r inside × (text ≡ rule_front ++ inside ++ rule_end))
