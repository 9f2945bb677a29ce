use Rattle.std.proofs.Common.{Option, refl, subst}
use Rattle.std.specs.Prelude.{IfNone}
use Rattle.std.specs.List.{AllByRecursion}
use Rattle.ips_text.specs.Kept.{Kept}
use Rattle.ips_after.specs.Salvage.{is_unmovable}
use Rattle.ips_change.specs.Told.{naming}
use Rattle.ips_movable.specs.First.{IsFirstPath}
use Rattle.ips_movable.specs.Movable.{CanMove}
use Rattle.ips_image_steps.proofs.Gathered as found
use Rattle.ips_image_steps.proofs.found.add_found.Goals as goal

pub returns-in-Some-clause-told : goal.returns-in-Some-clause-told
returns-in-Some-clause-told g c = λ told r asked folder.
    let t = (g.F.Source.outside.state c.args.folder.now).held in
    let laid = g.L.Laying.laid c.args.laying.now in
    let moment = c.args.moment.now in
    let table = c.args.table.now in
    let settled = c.args.settled.now in
    let things = c.args.things.now in
    let sides = c.args.sides.now in
    let root = c.args.root.now.bytes in
    let names = c.args.names.now in
    let ways = c.args.ways.now in
    let a = found.aside_found table settled root names ways in
    let formed = g.met.F.Source.sane.formed c.args.folder.now told in
    let are = found.are laid moment r t table settled things sides root names ways asked folder formed (c.requires.settled told) (c.requires.saved told) (c.requires.files told) (c.requires.root told) c.requires.names in
    let first = c.in_ok-path.ensures.first told r a asked.good asked.table refl refl are in
    found.hindered laid moment r t table settled things sides root names ways asked folder formed (c.requires.settled told) (c.requires.saved told) (c.requires.files told) (c.requires.root told) c.requires.names c.requires.above (c.requires.standing told) c.in-Some.path
    (subst (λ (o : Option Kept). IsFirstPath (is_unmovable (naming r) t a) o) c.in-Some.is first)

pub returns-in_ok-add_all-in-None-clause-told : goal.returns-in_ok-add_all-in-None-clause-told
returns-in_ok-add_all-in-None-clause-told g c = λ told r asked folder.
    let t = (g.F.Source.outside.state c.args.folder.now).held in
    let laid = g.L.Laying.laid c.args.laying.now in
    let moment = c.args.moment.now in
    let table = c.args.table.now in
    let settled = c.args.settled.now in
    let things = c.args.things.now in
    let sides = c.args.sides.now in
    let root = c.args.root.now.bytes in
    let names = c.args.names.now in
    let ways = c.args.ways.now in
    let a = found.aside_found table settled root names ways in
    let e = c.add_all.new.emitted in
    let formed = g.met.F.Source.sane.formed c.args.folder.now told in
    let known = c.requires.settled told in
    let saved = c.requires.saved told in
    let files = c.requires.files told in
    let at_root = c.requires.root told in
    let standing = c.requires.standing told in
    let are = found.are laid moment r t table settled things sides root names ways asked folder formed known saved files at_root c.requires.names in
    let first = c.in_ok-path.ensures.first told r a asked.good asked.table refl refl are in
    let none = subst (λ (o : Option Kept). IsFirstPath (is_unmovable (naming r) t a) o) c.in-None.is first in
    let can = subst (λ (o : Option Kept). IfNone o (AllByRecursion (CanMove root) things)) c.in-None.is c.in_ok-path.ensures.movable in
    let all = found.are_found laid moment r t table settled things sides root names ways asked folder formed known saved files at_root c.requires.names c.requires.above standing none can in
    let adds = c.in_ok-add_all-in-None.ensures r t a asked all refl in
    let own = found.own laid moment r t table settled things sides root names ways asked folder formed known saved files at_root c.requires.names c.requires.above standing in
    let is = found.is_aside laid moment r t table settled things sides root names ways asked folder formed known saved files at_root c.requires.names c.requires.above standing in
    found.has_steps laid moment r t table settled things sides root names ways asked folder formed known saved files at_root c.requires.names c.requires.above standing none can e adds c.requires.path
    (c.drafted_saving_steps_are_a_plan.ensures.steps r t a adds.asides adds.provenances e asked.good formed own is adds.are_asides none adds.steps)
    (c.drafted_saving_steps_are_a_plan.ensures.staged r t a adds.asides adds.provenances e asked.good formed own is adds.are_asides none adds.steps)
