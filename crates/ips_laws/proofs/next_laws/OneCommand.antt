-- What words ask for is one.
use Rattle.std.proofs.Common.{◌≡◌, ℕ, List, Option, Some, None, Result, Ok, Err, refl, sym, ap, subst, ◌∙◌}
use Rattle.ips_text.specs.declared.refusal.Stop.{Stop}
use Rattle.ips_syntax.specs.declared.table.Verb.{Verb}
use Rattle.ips_syntax.specs.declared.table.Why.{Why}
use Rattle.ips_syntax.specs.declared.values.Given.{Given}
use Rattle.ips_syntax.specs.declared.lines.Line.{Line}
use Rattle.ips_syntax.specs.declared.lines.Line.TheVariants as line
use Rattle.ips_words.specs.declared.what.What.{What}
use Rattle.ips_words.specs.declared.what.What.TheVariants as what
use Rattle.ips_words.specs.declared.what.Usage.{Usage}
use Rattle.ips_words.specs.declared.command.Command.{Command}
use Rattle.ips_words.specs.Command.{IsCommand, IsUsage, usage_of}
use Rattle.ips_words.specs.Meaning.{IsGiven, asked_by}
use Rattle.ips_laws.specs.next_laws.Commands.{IsSameCommand, IsSameWhat}

-- ---- what is read

abbrev read : Line → List Given → Result (Line × List Given) (Stop Why)
read line given = Ok (line, given)

abbrev stopped : Stop Why → Result (Line × List Given) (Stop Why)
stopped stop = Err stop

abbrev line_in : Line → Result (Line × List Given) (Stop Why) → Line
line_in other (Ok p) = p.0
line_in other (Err stop) = other

abbrev given_in : List Given → Result (Line × List Given) (Stop Why) → List Given
given_in other (Ok p) = p.1
given_in other (Err stop) = other

read_once : (a b : Line) (x y : List Given) → read a x ≡ read b y → (a ≡ b) × (x ≡ y)
read_once a b x y e = (ap (λ (r : Result (Line × List Given) (Stop Why)). line_in a r) e, ap (λ (r : Result (Line × List Given) (Stop Why)). given_in x r) e)

stopped_once : (a b : Stop Why) → stopped a ≡ stopped b → a ≡ b
stopped_once a b e = cc

read_not_stopped : (line : Line) (given : List Given) (stop : Stop Why) → read line given ≡ stopped stop → ⊥
read_not_stopped line given stop e = cc

-- ---- what a line means

-- it asks for help
abbrev IsHelp : Line → Type 0
IsHelp line.Help = Unit {0}
IsHelp (line.HelpOf verb) = Unit {0}
IsHelp l = ⊥

help_asked : (command : Option Verb) → IsHelp (asked_by (what.Help command))
help_asked None = tt
help_asked (Some verb) = tt

help_once : (a b : Option Verb) → asked_by (what.Help a) ≡ asked_by (what.Help b) → a ≡ b
help_once None None e = refl
help_once None (Some verb) e = absurd cc
help_once (Some verb) None e = absurd cc
help_once (Some verb) (Some verb') e = let same : verb ≡ verb' = cc in ap (λ (v : Verb). Some v) same

means_once : (given : List Given) (w v : What) → asked_by w ≡ asked_by v → IsGiven given w → IsGiven given v → IsSameWhat w v
means_once given (what.ImageCreate publisher variants facets actuator) (what.ImageCreate publisher' variants' facets' actuator') e h k = (h.0 ∙ sym k.0, h.1 ∙ sym k.1, h.2 ∙ sym k.2, h.3 ∙ sym k.3)
means_once given (what.Install patterns reject accept limit) (what.Install patterns' reject' accept' limit') e h k = (h.0 ∙ sym k.0, h.1 ∙ sym k.1, h.2 ∙ sym k.2, h.3 ∙ sym k.3)
means_once given (what.Update patterns reject accept limit) (what.Update patterns' reject' accept' limit') e h k = (h.0 ∙ sym k.0, h.1 ∙ sym k.1, h.2 ∙ sym k.2, h.3 ∙ sym k.3)
means_once given (what.Uninstall patterns limit) (what.Uninstall patterns' limit') e h k = (h.0 ∙ sym k.0, h.1 ∙ sym k.1)
means_once given (what.ChangeFacet facets accept) (what.ChangeFacet facets' accept') e h k = (h.0 ∙ sym k.0, h.1 ∙ sym k.1)
means_once given (what.ChangeVariant name value accept) (what.ChangeVariant name' value' accept') e h k = (h.0 ∙ sym k.0, h.1 ∙ sym k.1, h.2 ∙ sym k.2)
means_once given (what.SetMediator name version implementation) (what.SetMediator name' version' implementation') e h k = (h.0 ∙ sym k.0, h.1 ∙ sym k.1, h.2 ∙ sym k.2)
means_once given (what.UnsetMediator name) (what.UnsetMediator name') e h k = h ∙ sym k
means_once given (what.Avoid stems) (what.Avoid stems') e h k = h ∙ sym k
means_once given (what.Unavoid stems) (what.Unavoid stems') e h k = h ∙ sym k
means_once given (what.Freeze freezes) (what.Freeze freezes') e h k = h ∙ sym k
means_once given (what.Unfreeze stems) (what.Unfreeze stems') e h k = h ∙ sym k
means_once given (what.SetPublisher name first sticky) (what.SetPublisher name' first' sticky') e h k = (h.0 ∙ sym k.0, h.1 ∙ sym k.1, h.2 ∙ sym k.2)
means_once given (what.UnsetPublisher name) (what.UnsetPublisher name') e h k = h ∙ sym k
means_once given what.UpdateFormat what.UpdateFormat e h k = tt
means_once given what.RebuildIndex what.RebuildIndex e h k = tt
means_once given what.Fix what.Fix e h k = tt
means_once given what.Verify what.Verify e h k = tt
means_once given what.List what.List e h k = tt
means_once given what.History what.History e h k = tt
means_once given (what.Contents pattern manifest) (what.Contents pattern' manifest') e h k = (h.0 ∙ sym k.0, h.1 ∙ sym k.1)
means_once given (what.Search pattern) (what.Search pattern') e h k = h ∙ sym k
means_once given (what.Gen number) (what.Gen number') e h k = h ∙ sym k
means_once given (what.Help command) (what.Help command') e h k = help_once command command' e
means_once given (what.Help command) v e h k = absurd (subst IsHelp e (help_asked command))
means_once given w (what.Help command) e h k = absurd (subst IsHelp (sym e) (help_asked command))
means_once given what.Version what.Version e h k = tt
means_once given w v e h k = absurd cc

-- ---- words

pub command_once : (words : List (List ℕ)) (c d : Command) → IsCommand words c → IsCommand words d → IsSameCommand c d
command_once words c d x y =
    let same = read_once x.line y.line x.given y.given (sym x.read ∙ y.read) in
    let given : IsGiven y.given c.what = subst (λ (g : List Given). IsGiven g c.what) same.1 x.means.parts in
    record {
      what = means_once y.given c.what d.what (x.means.command ∙ same.0 ∙ sym y.means.command) given y.means.parts;
      history = x.history ∙ sym y.history;
    }

pub usage_once : (words : List (List ℕ)) (u v : Usage) → IsUsage words u → IsUsage words v → u ≡ v
usage_once words u v x y = x.is ∙ ap (usage_of words) (stopped_once x.stop y.stop (sym x.read ∙ y.read)) ∙ sym y.is

pub usage_or_command : (words : List (List ℕ)) (u : Usage) (c : Command) → IsUsage words u → IsCommand words c → ⊥
usage_or_command words u c x y = read_not_stopped y.line y.given x.stop (sym y.read ∙ x.read)
