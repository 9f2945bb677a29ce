use Rattle.std.proofs.Common.{ℕ, List, Option, Err, subst}
use Rattle.ips_text.specs.Reading.{IfBad}
use Rattle.ips_line.specs.Line.{Said}
use Rattle.ips_line.specs.Seen.{seen}
use Rattle.ips_action.specs.Action.{Fields}
use Rattle.ips_action.specs.Meaning.{FaultOf}
use Rattle.ips_action.specs.declared.fault.ActionFault.{ActionFault}
use Rattle.ips_action.proofs.Drafts.{same_bad}
use Rattle.ips_action.proofs.drafting.draft_of.Goals as goal

pub returns-in-Err-clause-first : goal.returns-in-Err-clause-first
returns-in-Err-clause-first c =
    let P : Said → Type 0 = λ s. IfBad {X = Fields × Option (List ℕ)} (Err c.in-Err.fault) (λ f. FaultOf s f) in
    subst P c.blanked.ensures.said (same_bad Fields (Fields × Option (List ℕ)) c.in-Err.fault (λ (f : ActionFault). FaultOf (seen c.blanked.result) f) c.in-Err.ensures.first)
