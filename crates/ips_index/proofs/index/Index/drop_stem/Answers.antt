use Rattle.std.proofs.Common.{subst, List}
use Rattle.ips_index.specs.Rows.{IndexedValue}
use Rattle.ips_index.specs.Scan.{IsDropped}
use Rattle.ips_index.proofs.index.Index.drop_stem.Goals as goal

pub returns : goal.returns
returns c = record {
  dropped = subst (λ (old : List IndexedValue). IsDropped c.args.stem.now old c.drop_rows.new.rows.keys) c.self.view_is c.drop_rows.ensures.dropped;
  rows = c.drop_rows.ensures.kept.lawful;
}
