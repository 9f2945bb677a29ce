use Rattle.std.proofs.Common.{List, sym, ◌∙◌, ap, subst}
use Rattle.std.specs.Prelude.{IfOk}
use Rattle.ips_outside.specs.Image.{Image}
use Rattle.ips_outside.specs.State.{State}
use Rattle.ips_after.specs.Request.{Request}
use Rattle.ips_aside.specs.declared.sides.side.Side.{Side}
use Rattle.ips_image_steps.specs.Asked.{HasOwnFolder, IsAsked}
use Rattle.ips_image_steps.specs.Answers.{IsAnswer}
use Rattle.ips_image_steps.specs.Findings.{AreFiles}
use Rattle.ips_image_steps.proofs.Moved.{files_found}
use Rattle.ips_image_steps.proofs.named.add_saving.Goals as goal

pub add_beside-requires-clause-files : goal.add_beside-requires-clause-files
add_beside-requires-clause-files g c = λ told.
    let o = g.F.Source.outside in
    let table = c.args.table.now in
    let reads = c.in_ok-sides.ensures.reads in
    let start = sym reads.call.same_kind ∙ told in
    let found = files_found (o.state c.args.folder.now).held table.rows.items c.deref.result.now table.said.items c.in_ok-sides.sides.items c.deref.ensures.value (c.in_ok-sides.ensures.found start) (c.requires.settled start).looked in
    subst (λ (sides : List Side). AreFiles (o.state c.sides.new.source).held table.rows.items table.said.items sides) (sym c.deref-2.ensures.value)
    (subst (λ (t : Image). AreFiles t table.rows.items table.said.items c.in_ok-sides.sides.items) (sym (ap (λ (s : State). s.held) reads.kept)) found)

pub returns-clause-told : goal.returns-clause-told
returns-clause-told g c = λ told.
    let table = c.args.table.now in
    let reads = c.in_ok-sides.ensures.reads in
    subst (λ (s : State). IfOk c.add_beside.result (λ hindrance. (r : Request) → IsAsked (g.L.Laying.laid c.args.laying.now) table.rows.items table.said.items r → HasOwnFolder r s.held → IsAnswer c.args.moment.now r s.held hindrance c.add_beside.new.emitted)) reads.kept
    (c.add_beside.ensures.told (reads.call.same_kind ∙ told))
