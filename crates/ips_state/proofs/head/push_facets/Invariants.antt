use Rattle.std.proofs.Common.{◌≡◌, ◌++◌, take}
use Rattle.std.specs.List.{flat_map}
use Rattle.ips_records.specs.Lines.{ended}
use Rattle.ips_state.specs.Text.{facet_line}
use Rattle.ips_state.proofs.head.push_facets.Given as goal

abbrev pub invariant-loop-pattern : goal.invariant-loop-pattern
invariant-loop-pattern l = l.out.items ≡ l.fn.out.items ++ flat_map (λ f. ended (facet_line (f.0.now, f.1))) (take l.pattern-index l.facets)
