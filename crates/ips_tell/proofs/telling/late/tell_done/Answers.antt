use Rattle.std.proofs.Common.{List, ◌++◌, ◌∷◌, [], true}
use lib.Chars.{codes}
use Rattle.ips_report.specs.Report.{counts_text, line, prefixed_lines, sorts_text}
use Rattle.ips_files.proofs.Tellings.{tells_nothing}
use Rattle.ips_tell.proofs.telling.late.tell_done.Goals as goal

pub returns : goal.returns
returns g c =
    let lines = prefixed_lines (codes "license: ") c.args.licenses.now in
    let counts = counts_text c.args.counts.now in
    let sorts = sorts_text c.args.steps.now in
    c.put.ensures c.args.out.now ((lines ++ counts) ++ sorts)
    (c.put_sorts-told.ensures c.args.out.now (lines ++ counts)
    (c.put_counts-told.ensures c.args.out.now lines
    (c.put_lines-told.ensures c.args.out.now [] (tells_nothing g.O.Sink.taking c.args.out.now))))
