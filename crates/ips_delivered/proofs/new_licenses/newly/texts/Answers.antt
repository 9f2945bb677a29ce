use Rattle.std.proofs.Common.{map}
use Rattle.ips_delivered.specs.delivered.Delivering.{licenses_of}
use Rattle.ips_delivered.specs.new_licenses.Kept.{told}
use Rattle.ips_delivered.proofs.delivered.Outcomes.{both_ok}
use Rattle.ips_delivered.proofs.new_licenses.newly.texts.Goals as goal

pub returns : goal.returns
returns c = both_ok c.written.result _ _ _ c.written.ensures.order c.written.ensures.texts (λ texts order is old named keys. record {
  names = map told c.in_ok-names.names.keys;
  order = order;
  each = c.in_ok-names.ensures (licenses_of old) named keys;
  written = is;
})
