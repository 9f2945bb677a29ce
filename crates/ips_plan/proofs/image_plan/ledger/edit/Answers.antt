use Rattle.std.proofs.Common.{inr, refl}
use Rattle.ips_plan.specs.image_plan.Accounts.{silent_request}
use Rattle.ips_plan.proofs.image_plan.ledger.edit.Goals as goal

pub returns-in-Ok-clause-given : goal.returns-in-Ok-clause-given
returns-in-Ok-clause-given g c = λ bytes. record {
  emptied = _;
  is_emptied = λ told. rw c.deref.ensures.value ((c.requires.settled told bytes).emptied);
  behind = rw c.as_str.ensures at (c.in-Ok.ensures.given (silent_request c.args.between.was.now c.args.between.is.now bytes) (record { said = c.args.table.now.said.items; good = c.requires.good bytes; table = rw c.deref.ensures.value (c.requires.silent bytes); silent = λ q. refl; settles = λ told. rw c.deref.ensures.value (c.requires.settled told bytes) }));
}

pub returns-in-Err-Bad-clause-refused : goal.returns-in-Err-Bad-clause-refused
returns-in-Err-Bad-clause-refused g c = inr (λ bytes. record {
  emptied = _;
  is_emptied = λ told. rw c.deref.ensures.value ((c.requires.settled told bytes).emptied);
  behind = rw c.as_str.ensures at ((rw c.in-Err-Bad.field-0-is at c.in-Err-Bad.ensures.refused) (silent_request c.args.between.was.now c.args.between.is.now bytes) (record { said = c.args.table.now.said.items; good = c.requires.good bytes; table = rw c.deref.ensures.value (c.requires.silent bytes); silent = λ q. refl; settles = λ told. rw c.deref.ensures.value (c.requires.settled told bytes) }));
})
