-- The rules of a text have keys in their form, and the actions of a manifest are actions.
use Rattle.std.proofs.Common.{Bool, true, false, List, [], ◌∷◌, sym, subst}
use Rattle.std.specs.List.{AllByRecursion}
use Rattle.std.proofs.lemmas.List.{map-append}
use Rattle.ips_text.proofs.Lists.{all_append}
use Rattle.ips_manifest.specs.declared.line.Line.{Line}
use Rattle.ips_manifest.specs.Logical.{Logical, is_skipped}
use Rattle.ips_manifest.specs.Manifest.{StandsOnLine}
use Rattle.ips_action.specs.Action.{IsAction}
use Rattle.ips_rule.specs.declared.line.RuleLine.{RuleLine}
use Rattle.ips_rule.specs.Rules.{IsRule}
use Rattle.ips_rule.specs.File.{TextMeans, LinesMean}
use Rattle.ips_transform.specs.Output.{rules_of}

text_fits : (b : Bool) (line : Logical) (rules : List RuleLine) → TextMeans b line rules → AllByRecursion IsRule (rules_of rules)
text_fits true line rules h = subst (λ (l : List RuleLine). AllByRecursion IsRule (rules_of l)) (sym h) tt
text_fits false line rules h = subst (λ (l : List RuleLine). AllByRecursion IsRule (rules_of l)) (sym h.2) (h.1.0, tt)

pub rules_fit : (lines : List Logical) (rules : List RuleLine) → LinesMean lines rules → AllByRecursion IsRule (rules_of rules)
rules_fit [] rules h = subst (λ (l : List RuleLine). AllByRecursion IsRule (rules_of l)) (sym h) tt
rules_fit (line ∷ others) rules h =
    let front = text_fits (is_skipped line.text) line h.0 h.2.1 in
    let rest = rules_fit others h.1 h.3 in
    subst (λ (l : List RuleLine). AllByRecursion IsRule (rules_of l)) (sym h.4)
    (subst (AllByRecursion IsRule) (sym (map-append (λ (x : RuleLine). x.rule) h.0 h.1)) (all_append IsRule (rules_of h.0) (rules_of h.1) front rest))

pub actions_fit : (lines : List Line) → AllByRecursion StandsOnLine lines → AllByRecursion (λ (line : Line). IsAction line.action) lines
actions_fit [] h = tt
actions_fit (line ∷ lines) h = (h.0.action, actions_fit lines h.1)
