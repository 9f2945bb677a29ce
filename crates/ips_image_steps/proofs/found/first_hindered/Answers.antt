use Rattle.std.proofs.Common.{map, ◌∙◌, ap}
use Rattle.ips_change.specs.Told.{change_told, naming}
use Rattle.ips_change.specs.survey.Marks.{row_paths}
use Rattle.ips_image_steps.proofs.Hindered.{losing}
use Rattle.ips_image_steps.proofs.found.first_hindered.Goals as goal

pub returns-in-Ok-clause-first : goal.returns-in-Ok-clause-first
returns-in-Ok-clause-first g c = λ told r a good table root emptied are.
    let t = (g.F.Source.outside.state c.args.folder.now).held in
    let s = c.args.settled.now in
    let saved = c.requires.saved told in
    let settles = (c.requires.settled told).settles r good table in
    let foreign = losing (naming r) t a (row_paths c.args.table.now.rows.items) s.emptied.items c.deref-2.result.now c.in_ok-foreign.foreign _ c.deref-2.ensures.value emptied c.as_ref.ensures.value
    (c.in_ok-foreign.ensures.found told r good table (ap (map (change_told r.bytes)) c.deref.ensures.value ∙ settles.changes)) in
    c.in-Ok.ensures.first (naming r) t a root saved.found (saved.listed_just r good table) are foreign
