use Rattle.ips_next.proofs.Leading.{led_bad, led_seen}
use Rattle.ips_next.proofs.next.changed.Goals as goal

pub returns-in-Ok : goal.returns-in-Ok
returns-in-Ok g c = led_seen g.S.Source.outside (λ done. c.go_on.new.next) c.args.old.now c.args.command.now c.args.moment c.args.source.now c.go_on.new.source _ c.in-Ok.ensures

pub returns-in-Err-Bad : goal.returns-in-Err-Bad
returns-in-Err-Bad g c =
    led_bad g.S.Source.outside (λ done. c.go_on.new.next) c.args.old.now c.args.command.now c.args.moment c.args.source.now c.go_on.new.source _ (rw c.in-Err-Bad.field-0-is at c.in-Err-Bad.ensures)

pub returns : goal.returns
returns g c =
    led_bad g.S.Source.outside (λ done. c.go_on.new.next) c.args.old.now c.args.command.now c.args.moment c.args.source.now c.go_on.new.source _ (rw c.in-Err-OutOfMemory.field-0-is at c.in-Err-OutOfMemory.ensures)
