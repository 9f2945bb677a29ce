use Rattle.std.proofs.Common.{◌≡◌, ◌++◌, ◌+◌, ◌<◌, ℕ, false, cond, List, [], ◌∷◌, map, get_or, length, take, take_all, sym, ◌∙◌, ap, subst, arith}
use Rattle.std.proofs.lemmas.List.{get_or_default}
use Rattle.ips_after.specs.After.{change_after, over_or, supported}
use Rattle.ips_after.specs.Change.{Removed}
use Rattle.ips_change.specs.Told.{change_told, naming}
use Rattle.ips_change.specs.survey.Marks.{row_paths}
use Rattle.ips_change.proofs.survey.Placed.{path_at}
use Rattle.ips_change.proofs.survey.Filling.{said_at}
use Rattle.ips_emptied.specs.order.Chosen.{path_in}
use Rattle.ips_emit.specs.Emitted.{IsEmitted, Provenance, Turn}
use Rattle.ips_links.proofs.Linked.{at_row, told_here}
use Rattle.ips_image_steps.specs.draft.Drafting.{provenances_at, provenances_in, turns_of}
use Rattle.ips_image_steps.proofs.draft.Drafted.{from_here, provenances_more, turn_here, turns_more, within_here}
use Rattle.ips_image_steps.proofs.draft.drafting.draft.Goals as goal

pub loop-i-preserved : goal.loop-i-preserved
loop-i-preserved g c = λ r t e turns provenances table lays are marks before.
    let rows = c.args.table.now.rows.items in
    let said = c.args.table.now.said.items in
    let changes = c.args.changes.now in
    let emptied = c.args.emptied.now in
    let order = c.args.order.now in
    let paths = row_paths rows in
    let entries = g.L.Laying.laid c.args.laying.now in
    let i = c.loop-i.i in
    let lt : i < length order = c.loop-i-test.true in
    let place = get_or order i 0 in
    let row = c.index.result.now in
    let q = row.path.now.bytes in
    let one = c.index-in-loop-i.result.now in
    let change = c.index-changes-place.result in
    let gone = get_or emptied place false in
    let within : place < length rows = within_here order (length rows) i 0 lt c.requires.places in
    let at : path_in paths place ≡ q = path_at rows place row within c.index.ensures in
    let less : place < length changes = omega (arith, within, c.requires.changes) in
    let long : place < length said = omega (arith, within, c.requires.said) in
    let new = c.add.new.emitted in
    let before_turns = turns ++ turns_of r t e (map (path_in paths) (take i order)) in
    let before_from = provenances ++ provenances_in entries paths said changes emptied (take i order) in
    let becomes = cond gone Removed (over_or (r.over.at q) (change_told r.bytes change)) in
    let from = provenances_at gone one (entries q) change in
    let step = c.in_ok-add.ensures r.bytes t before_turns before_from (r.over.at q) (c.index-in-loop-i.ensures ∙ at_row (said_at r.over) said rows place row one table.said within c.index.ensures) (lays q) (c.loop-i.invariant r t e turns provenances table lays are marks before) in
    let moved = subst (λ (x : List ℕ). IsEmitted r.bytes t (before_turns ++ (x, becomes) ∷ []) (before_from ++ from) new) (sym at) step in
    let turn = turn_here r t e q gone (change_told r.bytes change) (at_row e emptied rows place row false marks within c.index.ensures) (told_here (change_told r.bytes) (supported (naming r) t) changes rows place change row are less c.index-changes-place.is within c.index.ensures)
    ∙ ap (change_after (naming r) t e) (sym at) in
    let is = get_or_default order i 0 place lt in
    subst (λ (l : List Turn). IsEmitted r.bytes t l (provenances ++ provenances_in entries paths said changes emptied (take (i + 1) order)) new) (turns_more r t e paths order i place turns becomes lt is turn)
    (subst (λ (l : List Provenance). IsEmitted r.bytes t (before_turns ++ (path_in paths place, becomes) ∷ []) l new)
    (provenances_more entries paths said changes emptied order i place provenances from lt is (from_here entries paths said changes emptied place q one change long less at c.index-in-loop-i.ensures c.index-changes-place.is)) moved)

pub returns : goal.returns
returns g c = λ r t e turns provenances table lays are marks before.
    let rows = c.args.table.now.rows.items in
    let paths = row_paths rows in
    let entries = g.L.Laying.laid c.args.laying.now in
    let whole = take_all c.loop-i.i c.args.order.now (omega (arith, c.loop-i-test.false)) in
    subst (λ (l : List ℕ). IsEmitted r.bytes t (turns ++ turns_of r t e (map (path_in paths) l)) (provenances ++ provenances_in entries paths c.args.table.now.said.items c.args.changes.now c.args.emptied.now l) c.loop-i.emitted) whole
    (c.loop-i.invariant r t e turns provenances table lays are marks before)
