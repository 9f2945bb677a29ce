use Rattle.std.proofs.Common.{[], ◌∷◌, drop}
use Rattle.ips_text.proofs.Lists.{all_append}
use Rattle.ips_index.specs.Text.{IsRow}
use Rattle.ips_index.specs.Entries.{row_of}
use Rattle.ips_index.proofs.scanning.push_row.Goals as goal

pub returns-clause-fit : goal.returns-clause-fit
returns-clause-fit c = λ is fit.
    rw (c.in_ok-push.ensures.items, c.in_ok-entry.ensures)
    (all_append IsRow c.args.entries.now.items (row_of c.args.kind c.args.field (drop c.args.token c.args.value.now) c.args.value.now c.args.stem.now ∷ []) fit (is, tt))
