use Rattle.std.proofs.Common.{◌≡◌, ℕ, List, true, false, refl, sym, ◌∙◌, ap, subst}
use Rattle.ips_load.proofs.HeadFiles.{all_fit, read_whole_lines, read_bad_line}
use Rattle.ips_load.proofs.heading.read_heading.Goals as goal

pub returns-in-Ok-clause-lines : goal.returns-in-Ok-clause-lines
returns-in-Ok-clause-lines c =
    read_whole_lines c.from_lines.result c.args.bytes.now c.in-Ok.lines.items c.deref.result.now c.in-Ok.rest.now c.is_empty.result c.deref.ensures.value c.in-Ok.ensures.lines c.is_empty.ensures c.from_lines.ensures.items c.from_lines.ensures.whole

pub returns-in-Ok-clause-bad : goal.returns-in-Ok-clause-bad
returns-in-Ok-clause-bad c =
    read_bad_line c.from_lines.result c.args.bytes.now c.in-Ok.lines.items c.deref.result.now c.in-Ok.rest.now c.is_empty.result c.deref.ensures.value c.in-Ok.ensures.sole c.in-Ok.ensures.lines c.in-Ok.ensures.ends c.is_empty.ensures c.from_lines.ensures.bad
