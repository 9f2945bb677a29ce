use Rattle.ips_pkg.specs.Mogrified.{Transformed}
use Rattle.ips_pkg.proofs.mogrifying.number_for.Goals as goal

pub returns-in-Ok : goal.returns-in-Ok
returns-in-Ok c = Transformed (record {
  source = c.in-Ok.places.source;
  source_now = c.carry_out-number.new.places.source;
  out = c.in-Ok.places.sink;
  out_now = c.carry_out-number.new.places.sink;
  is_folder = c.in-Ok.ensures;
  ends = c.carry_out-number.ensures;
})
