use Rattle.std.proofs.Common.{List, refl, sym, subst}
use Rattle.std.proofs.lemmas.Result.{IfOk-weaker}
use Rattle.std.specs.List.{AllByRecursion}
use Rattle.std.specs.List.Sorted.{IsStrictlySortedBy}
use Rattle.std.specs.Ordering.{nat_cmp}
use Rattle.std.specs.Cmp.Lexicographic.{slice_cmp}
use Rattle.ips_text.specs.Path.{IsPath}
use Rattle.ips_after.specs.Request.{Request}
use Rattle.ips_change.specs.survey.Tables.{AreSpoken}
use Rattle.ips_change.specs.declared.survey.said.Spoken.{Spoken}
use Rattle.ips_laying.specs.Laying.{LaysFor}
use Rattle.ips_due.specs.outstanding.Parts.{due_of}
use Rattle.ips_due_laying.specs.Laying.{Place, laid_at}
use Rattle.ips_image_steps.specs.Asked.{HasOwnFolder, IsAsked}
use Rattle.ips_image_steps.specs.Answers.{HasSteps, IsHindered}
use Rattle.ips_plan.specs.image_plan.Steps.{AreStepsBetween, HasOver, IsHinderedBetween, said_between}
use Rattle.ips_plan.proofs.image_plan.Asked.{asked, has_request, ok_holds, own_folder, unmovable_weaker}
use Rattle.ips_plan.proofs.image_plan.steps.steps_over.Goals as goal

pub image_steps-requires-clause-request : goal.image_steps-requires-clause-request
image_steps-requires-clause-request g c =
    has_request c.args.between c.requires.meant c.in-Ok-merge.table.rows.items c.in-Ok-merge.table.said.items c.in-Ok.spoken.items (subst (IsStrictlySortedBy (slice_cmp nat_cmp)) (sym c.in-Ok.ensures.paths) c.requires.order)
    (subst (λ (l : List Spoken). AllByRecursion (λ s. IsPath s.path.now.bytes) l) c.deref.ensures.value c.are_paths.ensures)
    (λ over spoken. c.in-Ok-merge.ensures.table _ (c.surveyed_rows_are_of_the_request.ensures _ _ _ _ refl refl c.requires.rows) (subst (AreSpoken over) (sym c.deref-2.ensures.value) spoken))

pub image_steps-requires-clause-looked : goal.image_steps-requires-clause-looked
image_steps-requires-clause-looked g c = λ told. c.in-Ok-merge.ensures.looked ((g.F.Source.outside.state c.args.folder.now).held) (c.requires.looked told)

pub returns-clause-planned : goal.returns-clause-planned
returns-clause-planned g c = λ told.
    let b = c.args.between in
    let m = c.requires.meant in
    let t = (g.F.Source.outside.state c.args.folder.now).held in
    let due = due_of g.R.Records.records c.args.due.now in
    let rows = c.in-Ok-merge.table.rows.items in
    let spoken = c.in-Ok-merge.table.said.items in
    let named = c.args.outstanding.now.named.items in
    let moment = c.args.moment.now in
    let laid = laid_at c.new-laying.result in
    IfOk-weaker c.image_steps.result (λ e. (r : Request) → IsAsked laid rows spoken r → HasOwnFolder r t → HasSteps moment r t e) (AreStepsBetween moment b due t)
    (λ e given bytes over said.
    given (said_between b bytes over)
    (asked b m due t bytes over said laid rows spoken c.requires.together c.requires.proper
    (c.in-Ok-merge.ensures.table _ (c.surveyed_rows_are_of_the_request.ensures _ _ _ _ refl refl c.requires.rows) (subst (AreSpoken over) (sym c.deref-2.ensures.value) (c.in-Ok.ensures.named bytes due t over (c.requires.found told bytes) said.is_over)))
    (subst (λ (places : List Place). LaysFor bytes (laid_at places) over) (sym c.new-laying.ensures) (c.due_is_laid.ensures.laid bytes due t over named (c.requires.found told bytes) said.is_over)))
    (own_folder b m due t bytes over said))
    (c.image_steps.ensures.planned told)

pub returns-clause-hindered : goal.returns-clause-hindered
returns-clause-hindered g c = λ told.
    let b = c.args.between in
    let m = c.requires.meant in
    let t = (g.F.Source.outside.state c.args.folder.now).held in
    let due = due_of g.R.Records.records c.args.due.now in
    let rows = c.in-Ok-merge.table.rows.items in
    let spoken = c.in-Ok-merge.table.said.items in
    let named = c.args.outstanding.now.named.items in
    let moment = c.args.moment.now in
    let laid = laid_at c.new-laying.result in
    unmovable_weaker c.image_steps.result (λ p. (r : Request) → IsAsked laid rows spoken r → HasOwnFolder r t → IsHindered moment r t p) (IsHinderedBetween moment b due t)
    (λ p given bytes over said.
    given (said_between b bytes over)
    (asked b m due t bytes over said laid rows spoken c.requires.together c.requires.proper
    (c.in-Ok-merge.ensures.table _ (c.surveyed_rows_are_of_the_request.ensures _ _ _ _ refl refl c.requires.rows) (subst (AreSpoken over) (sym c.deref-2.ensures.value) (c.in-Ok.ensures.named bytes due t over (c.requires.found told bytes) said.is_over)))
    (subst (λ (places : List Place). LaysFor bytes (laid_at places) over) (sym c.new-laying.ensures) (c.due_is_laid.ensures.laid bytes due t over named (c.requires.found told bytes) said.is_over)))
    (own_folder b m due t bytes over said))
    (c.image_steps.ensures.hindered told)

pub returns-clause-over : goal.returns-clause-over
returns-clause-over g c = λ told. ok_holds c.image_steps.result (HasOver (due_of g.R.Records.records c.args.due.now) (g.F.Source.outside.state c.args.folder.now).held) (c.requires.over told)
