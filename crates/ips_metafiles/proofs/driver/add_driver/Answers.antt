use Rattle.std.proofs.Common.{◌≡◌, ◌∙◌, ap, sym}
use Rattle.ips_action.specs.declared.kind.ActionKind.TheVariants.{Driver}
use Rattle.ips_action.specs.Action.{Fields}
use Rattle.ips_metafiles.proofs.DriverLines.{driver_put}
use Rattle.ips_metafiles.proofs.driver.add_driver.Goals as goal

pub returns-in_ok-print_line-in-Driver : goal.returns-in_ok-print_line-in-Driver
returns-in_ok-print_line-in-Driver c =
    let a = c.args.action.now in
    let driver : a.kind ≡ Driver = sym (ap (λ (x : Fields). x.kind) c.action.view_is) ∙ c.in-Driver.is in
    driver_put c.args.lines.now c.add_line.new.lines c.add_line.result a c.in_ok-print_line-in-Driver.field-0 driver c.in_ok-print_line-in-Driver.ensures c.add_line.ensures
