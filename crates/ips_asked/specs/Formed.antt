-- Commands whose words can be recorded.
use Rattle.std.specs.Prelude.{ℕ, false, List, ◌∷◌, ◌++◌, IsTrue, is_some}
use Rattle.std.specs.List.{AllByRecursion}
use Rattle.ips_fmri.specs.Name.{IsPublisher, IsStem}
use Rattle.ips_fmri.specs.Version.{IfVersion, IsStamp, stamp_text}
use Rattle.ips_fmri.specs.declared.fmri.Fmri.{Fmri}
use Rattle.ips_records.specs.Form.{IsWord, IfWord, IfMarked, IsNamed, IsRequestLine}
use Rattle.ips_syntax.specs.declared.values.VariantWord.{VariantWord}
use Rattle.ips_syntax.specs.declared.values.FacetWord.{FacetWord}
use Rattle.ips_words.specs.declared.command.Command.{Command}
use Rattle.ips_words.specs.declared.what.What.{What}
use Rattle.ips_words.specs.declared.what.What.TheVariants.{ImageCreate, ChangeFacet, ChangeVariant, SetMediator, Avoid, Freeze, SetPublisher, Search}

-- the names of facets are words
abbrev pub AreFacetWords : List FacetWord → Type 0
AreFacetWords facets = AllByRecursion (λ (w : FacetWord). IsWord w.name) facets

-- the names and values of variants are words
abbrev pub AreVariantWords : List VariantWord → Type 0
AreVariantWords variants = AllByRecursion (λ (w : VariantWord). IsWord w.name × IsWord w.value) variants

-- What the command would record has the form of its record: words aren't empty, and stems, publishers and versions are such.
abbrev pub IsFormed : What → Type 0
IsFormed (ImageCreate publisher variants facets actuator) = IsPublisher publisher × AreVariantWords variants.items × AreFacetWords facets.items × IfWord actuator
IsFormed (ChangeFacet facets accept) = AreFacetWords facets.items
IsFormed (ChangeVariant name value accept) = IsWord name × IsWord value
IsFormed (SetMediator name version implementation) = IsWord name × IfVersion version × IfMarked implementation
IsFormed (Avoid stems) = AllByRecursion (IsStem false) stems.items
IsFormed (Freeze freezes) = AllByRecursion IsNamed freezes.items
IsFormed (SetPublisher name first sticky) = IsPublisher name
IsFormed w = Unit {0}

-- Each freeze that the command asks for has a version.
abbrev pub HasVersions : What → Type 0
HasVersions (Freeze freezes) = AllByRecursion (λ (f : Fmri). IsTrue (is_some f.version)) freezes.items
HasVersions w = Unit {0}

-- The words can be kept: behind the text of any moment and a blank they are a line of the history.
abbrev pub CanBeKept : List ℕ → Type 0
CanBeKept words = (moment : ℕ) → IsStamp moment → IsRequestLine (stamp_text moment ++ 32 ∷ words)

-- The words of the command can be kept. A search changes nothing and isn't kept; its pattern may be empty.
abbrev pub HasLine : What → List ℕ → Type 0
HasLine (Search pattern) words = Unit {0}
HasLine w words = CanBeKept words

-- The command is such as words give: what it would record has the form of its record, and its words can be kept in the history.
pub record IsFormedCommand (c : Command) : Type 0 where
  pub formed : IsFormed c.what
  pub line : HasLine c.what c.history
