use Rattle.std.proofs.Common.{◌≡◌, ◌∙◌, List, ℕ, Option, Bor, Some, cond, sym, ap, subst}
use Rattle.std.specs.Prelude.{IfSome, option_map, codes}
use Rattle.std.specs.BTreeMap.{get_by_text}
use Rattle.std.specs.String.{string_bytes}
use Rattle.std.proofs.lemmas.Map.Text.{btree_map_updates_text}
use Rattle.ips_action.specs.Attrs.{is_same}
use Rattle.ips_action.specs.Action.{Fields}
use Rattle.ips_mediate.specs.Mediation.{link_value}
use Rattle.ips_meaning.specs.Taken as taken
use Rattle.ips_meaning.specs.Offers.{IsChoice, links_at}
use Rattle.ips_meaning.proofs.Offered.{best_by, choices_more}
use Rattle.ips_meaning.proofs.mediated.is_of_best.Goals as goal

pub returns-in-Some-get-clause-answer : goal.returns-in-Some-get-clause-answer
returns-in-Some-get-clause-answer c =
    let name = c.in-Some.name.now in
    let is : link_value (codes "mediator") c.args.action.now ≡ Some name = sym c.mediator.ensures ∙ ap (λ (o : Option (Bor (List ℕ))). option_map (λ b. b.now) o) c.in-Some.is in
    let chosen = subst (λ (o : Option (Option Fields)). IfSome o (λ x. IsChoice (links_at c.args.links.now name) (taken.set_for c.args.mediators.now name) x)) (sym c.in-Some-get.ensures.value) (c.requires.choices name) in
    let by = best_by c.args.mediators.now c.args.links.now c.args.action.now name c.in-Some-get.choice.now is c.requires.there chosen in
    (λ h. by.0 (c.goes_with.ensures.0 h), λ best. c.goes_with.ensures.1 (by.1 best))

pub returns-clause-answer : goal.returns-clause-answer
returns-clause-answer c =
    let name = c.in-Some.name.now in
    let is : link_value (codes "mediator") c.args.action.now ≡ Some name = sym c.mediator.ensures ∙ ap (λ (o : Option (Bor (List ℕ))). option_map (λ b. b.now) o) c.in-Some.is in
    let by = best_by c.args.mediators.now c.args.links.now c.args.action.now name c.in_ok-choice.choice is c.requires.there c.in_ok-choice.ensures in
    (λ h. by.0 (c.goes_with-answer.ensures.0 h), λ best. c.goes_with-answer.ensures.1 (by.1 best))

pub returns-clause-choices : goal.returns-clause-choices
returns-clause-choices c =
    let name = c.in-Some.name.now in
    choices_more c.args.mediators.now c.args.links.now c.args.choices.now c.insert.new.self name c.in_ok-choice.choice c.requires.choices c.in_ok-choice.ensures
    (λ q.
    btree_map_updates_text (string_bytes c.in_ok-key.key) c.args.choices.now c.insert.new.self (Some c.in_ok-choice.choice) c.in_ok-insert.ensures.updates q
    ∙ ap (λ (t : List ℕ). cond (is_same t q) (Some c.in_ok-choice.choice) (get_by_text c.args.choices.now q)) c.in_ok-key.ensures.ok)
