use Rattle.std.proofs.Common.{sym}
use Rattle.ips_sends.specs.Published.{fmri_text}
use Rattle.ips_prepare.proofs.Named.{named_already, named_first}
use Rattle.ips_prepare.proofs.naming.first_lines.Goals as goal

pub returns-then-tell_name-clause-named : goal.returns-then-tell_name-clause-named
returns-then-tell_name-clause-named c =
    named_already (fmri_text c.args.publisher.now c.args.stem.now c.args.version.now) c.new.result.items c.args.filled.now c.new.ensures.items (sym c.if-tell_name.ensures)

pub returns-clause-named : goal.returns-clause-named
returns-clause-named c =
    named_first (fmri_text c.args.publisher.now c.args.stem.now c.args.version.now) c.in_ok-lines.lines.items c.in_ok-line.line c.args.filled.now c.in_ok-lines.ensures.items c.in_ok-line.ensures.action (sym c.if-tell_name.ensures)
