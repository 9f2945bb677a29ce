-- The words at the front of a text.
use Rattle.std.specs.Prelude.{◌≡◌, ℕ, Bool, true, List, [], ◌∷◌, ◌++◌, Ok}
use Rattle.std.specs.List.{AllByRecursion}
use Rattle.ips_line.specs.Line.{is_blank, in_key, IsRunOfBytes, Quoted}
use Rattle.ips_line.specs.Reading.{written_at}
use Rattle.ips_rule.specs.declared.selector.Selector.{Selector}
use Rattle.ips_rule.specs.Rules.{IsSelector, asked_words, Word, Value, Keyed, QuotesValue, IsTerm, Spelled, spelled_text, IsSpelled, AreSpelled}

-- ---- one word

-- reading a word up to `->` gives this one: behind a key and `=` a value between quotes, and else a value
abbrev pub TermAt : List ℕ → Word → List ℕ → Type 0
TermAt text (Value value) behind = (QuotesValue text → ⊥) × (written_at text ≡ Ok (value, behind))
TermAt text (Keyed key quote inside) behind = IsRunOfBytes in_key key × ((rest : List ℕ) × (text ≡ key ++ 61 ∷ rest) × (written_at rest ≡ Ok (Quoted quote inside, behind)))

-- reading a word behind `->` gives this one: a value
abbrev pub ValueAt : List ℕ → Word → List ℕ → Type 0
ValueAt text (Value value) behind = written_at text ≡ Ok (value, behind)
ValueAt text (Keyed key quote inside) behind = ⊥

-- a word ends before these bytes: there are none, or a blank comes first
abbrev pub ends_word : List ℕ → Bool
ends_word [] = true
ends_word (b ∷ bytes) = is_blank b

-- blanks and a word that fits stand first, and end before what comes
pub record FirstWord (Fits : Word → Type 0) (text : List ℕ) (s : Spelled) (behind : List ℕ) : Type 0 where
  pub spelled : IsSpelled Fits s
  pub whole : text ≡ spelled_text s ++ behind
  pub ends : ends_word behind ≡ true

-- the word stands first behind blanks, and ends before what comes
abbrev pub IsNext : (Word → Type 0) → List ℕ → Word → List ℕ → Type 0
IsNext Fits text word behind = (gap : List ℕ) × FirstWord Fits text (record { gap = gap; word = word }) behind

-- no word that fits stands first behind blanks
abbrev pub IsNoWord : (Word → Type 0) → List ℕ → Type 0
IsNoWord Fits text = (s : Spelled) (behind : List ℕ) → FirstWord Fits text s behind → ⊥

-- ---- words one after the other

-- the words stand first, each behind blanks as one that fits, and end before what comes
pub record FirstWords (Fits : Word → Type 0) (words : List (List ℕ)) (text behind : List ℕ) : Type 0 where
  pub front : List ℕ
  pub spelled : AreSpelled Fits words front
  pub whole : text ≡ front ++ behind
  pub ends : ends_word behind ≡ true

-- the words up to `->` that ask for this stand first, and end before what comes
pub record Asks (selectors : List Selector) (text behind : List ℕ) : Type 0 where
  pub are : AllByRecursion IsSelector selectors
  pub words : FirstWords IsTerm (asked_words selectors) text behind
