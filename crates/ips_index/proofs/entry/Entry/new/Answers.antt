use Rattle.std.proofs.Common.{◌∙◌}
use Rattle.ips_index.proofs.Places.{places_of, row_kept}
use Rattle.ips_index.proofs.entry.Entry.new.Goals as goal

pub invariant_of-row : goal.invariant_of-row
invariant_of-row c = rw c.in_ok-text.ensures (places_of c.args.value.now c.args.stem.now c.args.token c.utf8.value c.utf8.stem c.requires)

pub returns : goal.returns
returns c = c.in_ok-new.ensures.ok ∙ rw c.in_ok-text.ensures (row_kept c.args.kind c.args.field c.args.value.now c.args.stem.now c.args.token c.requires.0)
