use Rattle.std.proofs.Common.{◌∙◌, sym}
use Rattle.std.specs.Prelude.{option_map}
use Rattle.std.proofs.lemmas.Bool.{true≢false}
use Rattle.ips_mediate.proofs.Ranked.{found_all, best_of_found, none_of_found, lead_more, stay_more}
use Rattle.ips_mediate.proofs.choice.choose.Goals as goal
use Rattle.ips_mediate.proofs.choice.choose.Goals.{then-leads, else-leads}

pub loop-i-preserved : goal.loop-i-preserved
loop-i-preserved c =
    let set = option_map (λ s. s.now) c.args.set in
    elim c.if-leads.branch [
      | then-leads w ↦ lead_more c.args.links.now set c.loop-i.found c.if-leads.found c.loop-i.i _ w.found-is c.loop-i-test.true c.index-links-i.is c.loop-i.invariant (c.leads.ensures.0 w.if-leads.true)
      | else-leads w ↦
          stay_more c.args.links.now set c.loop-i.found c.if-leads.found c.loop-i.i c.index-links-i.result w.found-is c.loop-i-test.true c.index-links-i.is c.loop-i.invariant
          (λ lead. true≢false (sym (c.leads.ensures.1 lead) ∙ w.if-leads.false))
    ]

pub returns-in-Some-clause-best : goal.returns-in-Some-clause-best
returns-in-Some-clause-best c =
    let set = option_map (λ s. s.now) c.args.set in
    best_of_found c.args.links.now set c.loop-i.found c.in-Some.i c.in-Some.field-0-1 c.in-Some.is (found_all c.args.links.now set c.loop-i.found c.loop-i.i c.loop-i-test.false c.loop-i.invariant)

pub returns-in-None-clause-none : goal.returns-in-None-clause-none
returns-in-None-clause-none c =
    let set = option_map (λ s. s.now) c.args.set in
    none_of_found c.args.links.now set c.loop-i.found c.in-None.is (found_all c.args.links.now set c.loop-i.found c.loop-i.i c.loop-i-test.false c.loop-i.invariant)
