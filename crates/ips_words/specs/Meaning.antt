-- What a line means: each part of what a command is to do, from what the line gives.
use Rattle.std.specs.Prelude.{◌≡◌, ℕ, if◌then◌else◌, Bool, true, false, List, [], ◌∷◌, Option, Some, None}
use Rattle.std.specs.List.{flat_map}
use Rattle.ips_fmri.specs.Version.{Parts}
use Rattle.ips_fmri.specs.declared.fmri.Fmri.{Fmri}
use Rattle.ips_fmri.specs.declared.pattern.Pattern.{Pattern}
use Rattle.ips_syntax.specs.declared.table.Verb.{Verb}
use Rattle.ips_syntax.specs.declared.table.Verb.TheVariants as verb
use Rattle.ips_syntax.specs.declared.table.Role.{Role}
use Rattle.ips_syntax.specs.declared.table.Role.TheVariants.{Operand, Accept, Actuator, Facet, Implementation, Manifest, NonSticky, Publisher, Reject, SearchFirst, SearchLimit, Sticky, Variant, Version}
use Rattle.ips_syntax.specs.declared.values.Value.{Value}
use Rattle.ips_syntax.specs.declared.values.Value.TheVariants as value
use Rattle.ips_syntax.specs.declared.values.VariantWord.{VariantWord}
use Rattle.ips_syntax.specs.declared.values.FacetWord.{FacetWord}
use Rattle.ips_syntax.specs.declared.values.Given.{Given}
use Rattle.ips_syntax.specs.declared.lines.Line.{Line}
use Rattle.ips_syntax.specs.declared.lines.Line.TheVariants as line
use Rattle.ips_words.specs.declared.what.What.{What}
use Rattle.ips_words.specs.declared.what.What.TheVariants as what
use Rattle.ips_syntax.specs.Reading.{is_set_by, is_given}

-- ---- lists, in the order of the words

-- The value's word.
abbrev pub word_in : Value → List (List ℕ)
word_in (value.Word text) = text ∷ []
word_in v = []

-- The value's pattern.
abbrev pub pattern_in : Value → List Pattern
pattern_in (value.Pattern p) = p ∷ []
pattern_in v = []

-- The value's package with its version.
abbrev pub freeze_in : Value → List Fmri
freeze_in (value.Freeze f) = f ∷ []
freeze_in v = []

-- The value's variant.
abbrev pub variant_in : Value → List VariantWord
variant_in (value.Variant v) = v ∷ []
variant_in v = []

-- The value's facet.
abbrev pub facet_in : Value → List FacetWord
facet_in (value.Facet f) = f ∷ []
facet_in v = []

-- What the values of a role give.
abbrev pub all_of : {A : Type 0} → (Value → List A) → Role → List Given → List A
all_of given_in role given = flat_map (λ (g : Given). if is_set_by role g then given_in g.value else []) given

-- ---- single values

-- The first value of a role.
abbrev pub value_of : Role → List Given → Option Value
value_of role [] = None
value_of role (g ∷ given) = if is_set_by role g then Some g.value else value_of role given

-- A value's word, where there is one.
abbrev pub word_of : Option Value → Option (List ℕ)
word_of (Some (value.Word text)) = Some text
word_of v = None

-- A text, or the empty one.
abbrev pub or_empty : Option (List ℕ) → List ℕ
or_empty (Some text) = text
or_empty None = []

-- A value's number, or this one.
abbrev pub number_or : ℕ → Option Value → ℕ
number_or other (Some (value.Number n)) = n
number_or other v = other

-- A value's version, where there is one.
abbrev pub version_of : Option Value → Option Parts
version_of (Some (value.Version v)) = Some v
version_of v = None

-- A value's pattern, or the empty one.
abbrev pub pattern_of : Option Value → Pattern
pattern_of (Some (value.Pattern p)) = p
pattern_of v = record { publisher = None; anchored = false; stem = []; version = None }

-- A value's variant, or the empty one.
abbrev pub variant_or_empty : Option Value → VariantWord
variant_or_empty (Some (value.Variant v)) = v
variant_or_empty v = record { name = []; value = [] }

-- What an option says of stickiness.
abbrev pub stickiness : Role → Option Bool
stickiness Sticky = Some true
stickiness NonSticky = Some false
stickiness role = None

-- The first of two.
abbrev pub or_else : Option Bool → Option Bool → Option Bool
or_else (Some b) other = Some b
or_else None other = other

-- What the options say of stickiness.
abbrev pub sticky_of : List Given → Option Bool
sticky_of [] = None
sticky_of (g ∷ given) = or_else (stickiness g.role) (sticky_of given)

-- The limit of a search where the words give none.
abbrev pub default_limit : ℕ
default_limit = 1000000

-- The limit of a search.
abbrev pub limit_of : List Given → ℕ
limit_of given = number_or default_limit (value_of SearchLimit given)

-- The word of an operand.
abbrev pub name_of : List Given → List ℕ
name_of given = or_empty (word_of (value_of Operand given))

-- ---- the command

-- The line that asks for this.
abbrev pub asked_by : What → Line
asked_by (what.ImageCreate publisher variants facets actuator) = line.Does verb.ImageCreate
asked_by (what.Install patterns reject accept limit) = line.Does verb.Install
asked_by (what.Update patterns reject accept limit) = line.Does verb.Update
asked_by (what.Uninstall patterns limit) = line.Does verb.Uninstall
asked_by (what.ChangeFacet facets accept) = line.Does verb.ChangeFacet
asked_by (what.ChangeVariant name value accept) = line.Does verb.ChangeVariant
asked_by (what.SetMediator name version implementation) = line.Does verb.SetMediator
asked_by (what.UnsetMediator name) = line.Does verb.UnsetMediator
asked_by (what.Avoid stems) = line.Does verb.Avoid
asked_by (what.Unavoid stems) = line.Does verb.Unavoid
asked_by (what.Freeze freezes) = line.Does verb.Freeze
asked_by (what.Unfreeze stems) = line.Does verb.Unfreeze
asked_by (what.SetPublisher name first sticky) = line.Does verb.SetPublisher
asked_by (what.UnsetPublisher name) = line.Does verb.UnsetPublisher
asked_by what.UpdateFormat = line.Does verb.UpdateFormat
asked_by what.RebuildIndex = line.Does verb.RebuildIndex
asked_by what.Fix = line.Does verb.Fix
asked_by what.Verify = line.Does verb.Verify
asked_by what.List = line.Does verb.List
asked_by what.History = line.Does verb.History
asked_by (what.Contents pattern manifest) = line.Does verb.Contents
asked_by (what.Search pattern) = line.Does verb.Search
asked_by (what.Gen number) = line.Does verb.Gen
asked_by (what.Help None) = line.Help
asked_by (what.Help (Some verb)) = line.HelpOf verb
asked_by what.Version = line.Version

-- The command asks for a list of stems.
abbrev pub AsksForStems : Verb → Type 0
AsksForStems verb.Avoid = Unit {0}
AsksForStems verb.Unavoid = Unit {0}
AsksForStems verb.Unfreeze = Unit {0}
AsksForStems v = ⊥

-- The command asks for a name alone.
abbrev pub AsksForName : Verb → Type 0
AsksForName verb.UnsetMediator = Unit {0}
AsksForName verb.UnsetPublisher = Unit {0}
AsksForName verb.Search = Unit {0}
AsksForName v = ⊥

-- Each part of it is what the line gives.
abbrev pub IsGiven : List Given → What → Type 0
IsGiven given (what.ImageCreate publisher variants facets actuator) = (publisher ≡ or_empty (word_of (value_of Publisher given))) × (variants.items ≡ all_of variant_in Variant given)
    × (facets.items ≡ all_of facet_in Facet given) × (actuator ≡ word_of (value_of Actuator given))
IsGiven given (what.Install patterns reject accept limit) = (patterns.items ≡ all_of pattern_in Operand given) × (reject.items ≡ all_of pattern_in Reject given)
    × (accept ≡ is_given Accept given) × (limit ≡ limit_of given)
IsGiven given (what.Update patterns reject accept limit) = (patterns.items ≡ all_of pattern_in Operand given) × (reject.items ≡ all_of pattern_in Reject given)
    × (accept ≡ is_given Accept given) × (limit ≡ limit_of given)
IsGiven given (what.Uninstall patterns limit) = (patterns.items ≡ all_of pattern_in Operand given) × (limit ≡ limit_of given)
IsGiven given (what.ChangeFacet facets accept) = (facets.items ≡ all_of facet_in Operand given) × (accept ≡ is_given Accept given)
IsGiven given (what.ChangeVariant name value accept) = (name ≡ (variant_or_empty (value_of Operand given)).name) × (value ≡ (variant_or_empty (value_of Operand given)).value) × (accept ≡ is_given Accept given)
IsGiven given (what.SetMediator name version implementation) = (name ≡ name_of given) × (version ≡ version_of (value_of Version given)) × (implementation ≡ word_of (value_of Implementation given))
IsGiven given (what.UnsetMediator name) = name ≡ name_of given
IsGiven given (what.Avoid stems) = stems.items ≡ all_of word_in Operand given
IsGiven given (what.Unavoid stems) = stems.items ≡ all_of word_in Operand given
IsGiven given (what.Freeze freezes) = freezes.items ≡ all_of freeze_in Operand given
IsGiven given (what.Unfreeze stems) = stems.items ≡ all_of word_in Operand given
IsGiven given (what.SetPublisher name first sticky) = (name ≡ name_of given) × (first ≡ is_given SearchFirst given) × (sticky ≡ sticky_of given)
IsGiven given (what.UnsetPublisher name) = name ≡ name_of given
IsGiven given (what.Contents pattern manifest) = (pattern ≡ pattern_of (value_of Operand given)) × (manifest ≡ is_given Manifest given)
IsGiven given (what.Search pattern) = pattern ≡ name_of given
IsGiven given (what.Gen number) = number ≡ number_or 0 (value_of Operand given)
IsGiven given w = Unit {0}

-- What a line means with what it gives.
pub record Means (asked : Line) (given : List Given) (w : What) : Type 0 where
  pub command : asked_by w ≡ asked
  pub parts : IsGiven given w
