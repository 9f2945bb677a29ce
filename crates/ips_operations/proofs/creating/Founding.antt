-- The state that a command begins can be recorded, and nothing is installed in it.
use Rattle.std.proofs.Common.{◌≡◌, ℕ, Bool, true, false, IsTrue, List, [], ◌∷◌, map, Option, Some, None, refl, sym, ap, ◌∙◌, subst}
use Rattle.std.proofs.lemmas.Bool.{true≢false}
use Rattle.ips_fmri.specs.Name.{IsPublisher}
use Rattle.ips_records.specs.Form.{IfWord}
use Rattle.ips_syntax.specs.declared.values.VariantWord.{VariantWord}
use Rattle.ips_syntax.specs.declared.values.FacetWord.{FacetWord}
use Rattle.ips_words.specs.declared.what.What.{What}
use Rattle.ips_words.specs.declared.what.What.TheVariants.{ImageCreate}
use Rattle.ips_manifest.specs.declared.package.Package.{Package}
use Rattle.ips_state.specs.State.{Recorded, recorded, installed}
use Rattle.ips_state.specs.Lawful.{IsLawful}
use Rattle.ips_state.specs.declared.state.State.{State}
use Rattle.ips_asked.specs.Formed.{AreFacetWords, AreVariantWords, CanBeKept, HasLine, IsFormed}
use Rattle.ips_asked.specs.Founded.{IsFounded}
use Rattle.ips_plan.specs.created.Made.{IsBlank}
use Rattle.ips_operations.specs.creating.Creations.{AreFoundedBy, makes_image}

-- what is promised of records that are founded
abbrev pub AreLawful : Type 0
AreLawful = (publisher : List ℕ) (variants : List VariantWord) (facets : List FacetWord) (actuator : Option (List ℕ)) (new : Recorded) → IsPublisher publisher → AreVariantWords variants → AreFacetWords facets → IfWord actuator
    → IsFounded publisher variants facets actuator new → IsLawful new

pub founded_lawful : AreLawful → (w : What) (new : Recorded) → IsFormed w → AreFoundedBy w new → IsLawful new
founded_lawful law (ImageCreate publisher variants facets actuator) new formed founded = law publisher variants.items facets.items actuator new formed.0 formed.1 formed.2 formed.3 founded
founded_lawful law w new formed founded = absurd founded

-- the format, that nothing is installed, and that there is no index
pub founded_bare : (w : What) (new : Recorded) → AreFoundedBy w new → (new.format ≡ 2) × ((new.installed ≡ []) × (new.index ≡ None))
founded_bare (ImageCreate publisher variants facets actuator) new founded = (founded.format, (founded.installed, founded.index))
founded_bare w new founded = absurd founded

no_packages : (packages : List Package) → map installed packages ≡ [] → packages ≡ []
no_packages [] none = refl
no_packages (p ∷ packages) none = cc

pub kept_words : (w : What) (words : List ℕ) → IsTrue (makes_image w) → HasLine w words → CanBeKept words
kept_words (ImageCreate publisher variants facets actuator) words makes line = line
kept_words w words makes line = absurd (true≢false (sym makes))

pub blank : (w : What) (s : State) → AreFoundedBy w (recorded s) → IsBlank s
blank w s founded =
    let bare = founded_bare w (recorded s) founded in record { format = bare.0; none_installed = no_packages s.installed.items bare.1.0; no_index = bare.1.1 }
