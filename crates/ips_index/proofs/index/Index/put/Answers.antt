use Rattle.std.proofs.Common.{subst, List}
use Rattle.std.specs.Prelude.{OnOk}
use Rattle.ips_index.specs.Rows.{IndexedValue}
use Rattle.ips_index.specs.Scan.{IsPut}
use Rattle.ips_index.proofs.Facts.{are_of}
use Rattle.ips_index.proofs.index.Index.put.Goals as goal

pub put_rows-requires-clause-list : goal.put_rows-requires-clause-list
put_rows-requires-clause-list c = are_of c.args.stem.now c.args.actions.now c.in_ok-rows.rows.items c.in_ok-rows.ensures.rows c.in_ok-rows.ensures.fit

pub returns-clause-put : goal.returns-clause-put
returns-clause-put c =
    subst (λ (rows : List IndexedValue). OnOk c.put_rows.result (IsPut c.args.stem.now rows c.args.self.now c.put_rows.new.rows.keys)) c.in_ok-rows.ensures.rows
    (subst (λ (old : List IndexedValue). OnOk c.put_rows.result (IsPut c.args.stem.now c.in_ok-rows.rows.items old c.put_rows.new.rows.keys)) c.self.view_is c.put_rows.ensures.put)
