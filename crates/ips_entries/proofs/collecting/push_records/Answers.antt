use Rattle.std.proofs.Common.{refl}
use Rattle.ips_state.specs.State.{recorded}
use Rattle.ips_entries.specs.Part.{HasPart}
use Rattle.ips_entries.specs.declared.part.Place.{Place}
use Rattle.ips_entries.proofs.Written.{one_of, record_more}
use Rattle.ips_entries.proofs.collecting.push_records.Goals as goal

pub loop-place-init : goal.loop-place-init
loop-place-init c = rw c.requires.empty refl

pub record_at-requires-clause-part : goal.record_at-requires-clause-part
record_at-requires-clause-part c = one_of (λ (p : Place). HasPart (recorded c.args.state.now) p.part) c.args.places.now c.loop-place.place-index c.place-item.result c.requires.parts c.loop-place-test.true c.place-item.is

pub loop-place-preserved : goal.loop-place-preserved
loop-place-preserved c =
    record_more (recorded c.args.state.now) c.args.places.now c.loop-place.place-index c.place-item.result c.loop-place.records.items c.push.new.self.items c.in_ok-one.one
    c.loop-place-test.true c.place-item.is c.in_ok-push.ensures.items c.loop-place.invariant c.in_ok-one.ensures
