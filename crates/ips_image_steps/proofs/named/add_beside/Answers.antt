use Rattle.std.proofs.Common.{◌∙◌, subst}
use Rattle.std.specs.Prelude.{IfOk}
use Rattle.ips_outside.specs.State.{State}
use Rattle.ips_after.specs.Request.{Request}
use Rattle.ips_image_steps.specs.Asked.{HasOwnFolder, IsAsked}
use Rattle.ips_image_steps.specs.Answers.{IsAnswer}
use Rattle.ips_image_steps.proofs.named.add_beside.Goals as goal

pub returns-clause-told : goal.returns-clause-told
returns-clause-told g c = λ told.
    let table = c.args.table.now in
    let reads = c.in_ok-root.ensures.reads in
    subst (λ (s : State). IfOk c.add_named.result (λ hindrance. (r : Request) → IsAsked (g.L.Laying.laid c.args.laying.now) table.rows.items table.said.items r → HasOwnFolder r s.held → IsAnswer c.args.moment.now r s.held hindrance c.add_named.new.emitted)) reads.kept
    (c.add_named.ensures.told (reads.call.same_kind ∙ told))
