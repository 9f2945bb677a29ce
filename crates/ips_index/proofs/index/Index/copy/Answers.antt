use Rattle.std.proofs.Common.{◌∙◌, sym, subst}
use Rattle.ips_index.specs.Text.{AreIndexRows}
use Rattle.ips_index.proofs.Listed.{kept_listed}
use Rattle.ips_index.proofs.index.Index.copy.Goals as goal

pub invariant_of-result : goal.invariant_of-result
invariant_of-result c = kept_listed c.in_ok-rows.rows c.in_ok-stems.stems (subst AreIndexRows (sym c.in_ok-rows.ensures) c.self.invariant.lawful) c.in_ok-stems.ensures

pub returns-clause-same : goal.returns-clause-same
returns-clause-same c = c.in_ok-rows.ensures ∙ c.self.view_is
