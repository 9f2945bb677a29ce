use Rattle.std.proofs.Common.{◌∙◌, List, ℕ, ap, subst}
use Rattle.ips_due.specs.Due.{Own}
use Rattle.ips_action.specs.Action.{Fields}
use Rattle.ips_metafiles.specs.Records.{IsDrivers}
use Rattle.ips_delivered.proofs.delivered.Drivers.{drivers_are}
use Rattle.ips_delivered.proofs.delivered.Places.{drivers_place}
use Rattle.ips_delivered.proofs.delivered.delivering.drivers_record.Goals as goal

pub parsed-requires : goal.parsed-requires
parsed-requires c = drivers_place

pub returns : goal.returns
returns c =
    let bytes = c.in_ok-text.text.items in
    let of_drivers = subst (λ (l : List Fields). IsDrivers l bytes) (c.deref.ensures.value ∙ c.in_ok-actions.ensures) c.in_ok-text.ensures in
    (bytes, drivers_are c.args.admitted.now bytes of_drivers, ap (λ (p : List ℕ). (p, Own bytes)) c.in_ok-path.ensures)
