use Rattle.std.proofs.Common.{◌≡◌, Result, Ok, Err}
use Rattle.std.proofs.lemmas.Result.{IfOk-weaker}
use Rattle.ips_text.specs.Reading.{IfBad}
use Rattle.ips_text.specs.declared.refusal.Or.{Or}
use Rattle.ips_text.specs.declared.refusal.Or.TheVariants.{Bad, OutOfMemory}
use Rattle.ips_books.specs.Seen.{texts}
use Rattle.ips_account_files.specs.declared.ledger.fault.LedgerFault.{LedgerFault}
use Rattle.ips_account_files.specs.ledger.Editing.{due_books, edited_where}
use Rattle.ips_account_files.proofs.ledger.Answered.{fault_as, if_both}
use Rattle.ips_account_files.specs.Behind.{IsEditRefused, files_seen}
use Rattle.ips_account_files.proofs.Refused.{edit_refused, refused_by}
use Rattle.ips_account_files.proofs.giving.read_and_edit.Goals as goal

pub returns-in-Ok-clause-given : goal.returns-in-Ok-clause-given
returns-in-Ok-clause-given g c =
    let bases = c.read_all.new.bases in
    IfOk-weaker c.edited.result (λ files. (edited_where bases.blocked (texts bases.books) c.args.old.now c.args.new.now ≡ Ok (texts files.books)) × ((files_seen files).due ≡ due_books bases.modes (texts bases.books) (texts files.books))) _
    (λ files both. λ r silent. record { blocked = bases.blocked; base = texts bases.books; modes = bases.modes; bases = c.in-Ok.ensures.bases r silent; edit = both.0; due = both.1 })
    (if_both c.edited.result (λ files. edited_where bases.blocked (texts bases.books) c.args.old.now c.args.new.now ≡ Ok (texts files.books)) (λ files. (files_seen files).due ≡ due_books bases.modes (texts bases.books) (texts files.books)) c.edited.ensures.edit c.edited.ensures.due)

pub returns-in-Ok-clause-refused : goal.returns-in-Ok-clause-refused
returns-in-Ok-clause-refused g c =
    let bases = c.read_all.new.bases in
    weaker c.edited.result (IsEditRefused bases.blocked (texts bases.books) c.args.old.now c.args.new.now) _
    (λ why no. λ r silent. edit_refused _ r c.args.old.now c.args.new.now bases.blocked (texts bases.books) bases.modes why (c.in-Ok.ensures.bases r silent) no)
    c.edited.ensures.refused
  where
    weaker : {A : Type 0} (x : Result A (Or LedgerFault)) (P Q : LedgerFault → Type 0) → ((why : LedgerFault) → P why → Q why) → IfBad x P → IfBad x Q
    weaker (Ok files) P Q to h = tt
    weaker (Err (Bad why)) P Q to h = to why h
    weaker (Err OutOfMemory) P Q to h = tt

pub returns-clause-refused : goal.returns-clause-refused
returns-clause-refused g c =
    fault_as c.in-Err.fault _ _ (λ why lost. λ r silent. refused_by _ r c.args.old.now c.args.new.now why (lost r silent)) c.in-Err.ensures.refused
