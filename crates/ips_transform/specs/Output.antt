-- The manifest that is written: the actions that the rules leave, and the first line that is no action any more.
use Rattle.std.specs.Prelude.{◌≡◌, ℕ, Bool, true, not, ◌==◌, ◌⊎◌, List, [], ◌∷◌, map}
use Rattle.std.specs.List.{list_all, flat_map, AllByRecursion}
use Rattle.std.specs.Option.{option_to_list}
use Rattle.std.specs.Str.{IsUtf8}
use Rattle.ips_line.specs.declared.words.Pair.{Pair}
use Rattle.ips_line.specs.Line.{IsRunOfBytes, in_key}
use Rattle.ips_action.specs.Attrs.{AreAttrs, Gathers}
use Rattle.ips_action.specs.Action.{Fields, IfName, line_text}
use Rattle.ips_action.specs.Meaning.{Means}
use Rattle.ips_manifest.specs.declared.line.Line.{Line}
use Rattle.ips_rule.specs.declared.line.RuleLine.{RuleLine}
use Rattle.ips_rule.specs.Rules.{Rule}
use Rattle.ips_transform.specs.Transformed.{ActionParts, parts_of, after_rule, transformed}

-- what one rule leaves of an action, as a list of it or of nothing
abbrev pub left_by_one : Rule → ActionParts → List ActionParts
left_by_one rule parts = option_to_list (after_rule rule parts)

-- what the rules leave of an action, as a list of it or of nothing
abbrev pub left_by : List Rule → ActionParts → List ActionParts
left_by rules parts = option_to_list (transformed rules parts)

-- the rules of lines
abbrev pub rules_of : List RuleLine → List Rule
rules_of lines = map (λ line. line.rule) lines

-- what the rules leave of the actions of a manifest, in their order
abbrev pub left_of : List RuleLine → List Line → List ActionParts
left_of rules lines = flat_map (left_by (rules_of rules)) (map parts_of lines)

-- ---- actions of parts

-- what the parts are as an action's: the attributes have the values of the keys in their order
pub record IsFieldsOf (parts : ActionParts) (a : Fields) : Type 0 where
  pub kind : a.kind ≡ parts.kind
  pub payload : a.payload ≡ parts.payload
  pub ordered : AreAttrs a.attrs
  pub gathers : Gathers parts.pairs a.attrs

-- the canonical line of the action is one line, and is read as just this action
pub record IsOwnLine (a : Fields) : Type 0 where
  pub single : list_all (λ b. not (b == 10)) (line_text a) ≡ true
  pub means : Means (line_text a) a

-- the parts are those of this action, which its canonical line is read as; that line is UTF-8
pub record Yields (parts : ActionParts) (a : Fields) : Type 0 where
  pub of : IsFieldsOf parts a
  pub line : IsOwnLine a
  pub text : IsUtf8 (line_text a)

-- the parts print to a line that isn't read as an action of just them
abbrev pub IsNoAction : ActionParts → Type 0
IsNoAction parts = (a : Fields) × IsFieldsOf parts a × (IsOwnLine a → ⊥)

-- the parts make up these lines of a manifest, each with the number of the line that it comes from
abbrev pub Become : List ActionParts → List Line → Type 0
Become [] lines = lines ≡ []
Become (parts ∷ others) lines = (a : Fields) × (rest : List Line) × Yields parts a × Become others rest × (lines ≡ record { number = parts.number; action = a } ∷ rest)

-- the number is that of the first of the parts that are no action any more
abbrev pub IsFirstBadResult : List ActionParts → ℕ → Type 0
IsFirstBadResult [] number = ⊥
IsFirstBadResult (parts ∷ others) number = ((number ≡ parts.number) × IsNoAction parts) ⊎ (((a : Fields) × Yields parts a) × IsFirstBadResult others number)

-- the keys have the form of an action's, and the payload is one
pub record AreSoundParts (parts : ActionParts) : Type 0 where
  pub keys : AllByRecursion (λ (p : Pair). IsRunOfBytes in_key p.key) parts.pairs
  pub named : IfName parts.payload
