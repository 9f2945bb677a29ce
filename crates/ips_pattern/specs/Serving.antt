-- How what searches stands to the text of its pattern.
use Rattle.std.specs.Prelude.{◌≡◌, ℕ, List, IsSomeAnd}
use Rattle.regex_syntax.specs.Grammar.{Names}
use Rattle.regex_syntax.specs.Verdict.{default_config}
use Rattle.regex.specs.Patterns.{Re, SameCaptures}
use Rattle.regex.specs.Strings.{regex_config, IsReadFromSource, IsReadFrom}
use Rattle.regex.specs.declared.string.regex.Regex.{Regex}
use Rattle.regex.specs.declared.string.template.Template.{Template}
use Rattle.ips_pattern.specs.Pattern.{pattern_of}

-- the regex is read from its text under the default options
pub record IsServed (r : Regex) : Type 0 where
  pub config : regex_config r ≡ default_config
  pub read : IsReadFromSource r

-- a search by re, whose groups have these names, finds what the pattern of the text finds
abbrev pub Serves : List ℕ → Re → Names → Type 0
Serves text re names = IsSomeAnd (pattern_of text) (λ found. SameCaptures re found.0.value × (names ≡ found.1))

-- the groups of the pattern of the text have these names
abbrev pub IsNamed : List ℕ → Names → Type 0
IsNamed text names = IsSomeAnd (pattern_of text) (λ found. names ≡ found.1)

-- the template is what the replacement stands for, under the names of the pattern's groups
abbrev pub IsTemplate : List ℕ → List ℕ → Template → Type 0
IsTemplate text replacement template = IsSomeAnd (pattern_of text) (λ found. IsReadFrom found.1 replacement template)
