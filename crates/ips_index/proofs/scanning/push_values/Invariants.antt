use Rattle.std.proofs.Common.{◌≡◌, ◌++◌, take}
use Rattle.ips_action.specs.Attrs.{values_of}
use Rattle.ips_index.specs.Rows.{rows_in}
use Rattle.ips_index.specs.Entries as spec
use Rattle.ips_index.specs.Entries.{AreFit}
use Rattle.ips_index.proofs.scanning.push_values.Given as goal

abbrev pub invariant-loop-i : goal.invariant-loop-i
invariant-loop-i l = (l.entries.items ≡ l.initial.entries.items ++ rows_in l.stem l.action.kind (spec.index_name l.action.kind l.field) (take l.i (values_of l.key l.action.attrs))) × (AreFit l.initial.entries.items → AreFit l.entries.items)
