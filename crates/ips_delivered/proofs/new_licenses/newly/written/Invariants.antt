use Rattle.std.proofs.Common.{◌≡◌, map}
use Rattle.ips_delivered.specs.new_licenses.New.{shown_license}
use Rattle.ips_delivered.specs.new_licenses.Kept.{told}
use Rattle.ips_delivered.proofs.new_licenses.newly.written.Given as goal

abbrev pub invariant-loop-name : goal.invariant-loop-name
invariant-loop-name l = l.texts.items ≡ map shown_license (map (λ k. told k.now) l.yielded)
