use Rattle.std.proofs.Common.{Bool, cond, sym, ◌∙◌, ap}
use Rattle.ips_after.specs.Change.{Removed}
use Rattle.ips_change.specs.Told.{change_told}
use Rattle.ips_account_files.proofs.ledger.Silent.{fits_here, settled_here}
use Rattle.ips_account_files.proofs.ledger.changing.settled_at.Goals as goal

pub returns-else-index : goal.returns-else-index
returns-else-index c = record {
  told = λ r t p silent are there.
      ap (λ (b : Bool). cond b Removed (change_told r.bytes c.index-else-index.result.now)) (sym c.if-index.false)
      ∙ settled_here r t c.args.rows.now c.args.settled.now c.args.i p c.index.result.now c.index-else-index.result.now silent c.requires.settled are c.requires.within there c.index.ensures c.index-else-index.ensures;
  fits = λ r p of there. fits_here r c.args.rows.now c.args.settled.now c.args.i p c.index-else-index.result.now c.requires.settled of c.requires.within there c.index-else-index.ensures;
}
