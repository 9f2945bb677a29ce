use Rattle.ips_pkg.specs.Sent.{Worked}
use Rattle.ips_pkg.proofs.sending.number_under.Goals as goal

pub returns-in-Ok : goal.returns-in-Ok
returns-in-Ok c = Worked (record {
  proto = c.in-Ok.places.proto;
  proto_now = c.work-number.new.places.proto;
  target = c.in-Ok.places.target;
  target_now = c.work-number.new.places.target;
  out = c.in-Ok.places.sink;
  out_now = c.work-number.new.places.sink;
  is_target = c.in-Ok.ensures.target;
  is_proto = c.in-Ok.ensures.proto;
  ends = c.work-number.ensures;
})
