use Rattle.std.proofs.Common.{sym, ◌∙◌}
use Rattle.ips_passwd.proofs.Found.{no_line, first_line}
use Rattle.ips_passwd.proofs.names.find.Goals as goal

pub returns-in_default : goal.returns-in_default
returns-in_default c = sym (no_line c.args.places.now c.args.lines.now c.args.name.now c.requires (sym c.led.ensures ∙ c.in_default.is))

pub returns-then-stands_at : goal.returns-then-stands_at
returns-then-stands_at c = sym (first_line c.args.places.now c.args.lines.now c.args.name.now c.in-Some.place c.requires (sym c.led.ensures ∙ c.in-Some.is) (sym c.stands_at.ensures ∙ c.if-stands_at.true))
