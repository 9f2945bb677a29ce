use Rattle.std.proofs.Common.{sym, ◌∙◌}
use Rattle.ips_passwd.proofs.Maps.{name_stays, name_leads, same_place}
use Rattle.ips_passwd.proofs.names.lead.Goals as goal

pub returns-in_err-insert-clause-stays : goal.returns-in_err-insert-clause-stays
returns-in_err-insert-clause-stays c = λ other i led. same_place c.args.places.now c.insert.new.self other i c.in_err-insert.ensures.err led

pub returns-clause-stays : goal.returns-clause-stays
returns-clause-stays c = λ other i led. name_stays c.args.places.now c.insert.new.self c.in_ok-key.key c.args.name.now other c.args.place i c.in_ok-key.ensures.items c.in_ok-insert.ensures.entries (sym c.is_led.ensures ∙ c.if-is_led.false) led

pub returns-clause-leads : goal.returns-clause-leads
returns-clause-leads c = name_leads c.args.places.now c.insert.new.self c.in_ok-key.key c.args.name.now c.args.place c.in_ok-key.ensures.items c.in_ok-insert.ensures.entries
