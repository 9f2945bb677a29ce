use Rattle.std.proofs.Common.{◌≡◌, ◌∙◌, List, map, Some, sym}
use Rattle.ips_books.specs.Seen.{accounts}
use Rattle.ips_due.specs.outstanding.Parts.{due_record}
use Rattle.ips_delivered.specs.delivered.Delivering.{first_unknown}
use Rattle.ips_delivered.specs.delivered.Kept.{ActionsDeliver}
use Rattle.ips_delivered.proofs.delivered.Numbered.{GiveSame, same_first, same_rows}
use Rattle.ips_delivered.proofs.delivered.Outcomes.{when_bad, when_ok}
use Rattle.ips_delivered.proofs.delivered.delivering.of_actions.Goals as goal

pub returns-clause-records : goal.returns-clause-records
returns-clause-records c =
    let found = c.in_ok-accounts.accounts in
    let books = accounts c.args.books.now in
    let admitted = c.args.admitted.now in
    let same : GiveSame found books = c.in_ok-accounts.ensures in
    when_ok c.of_owned.result (λ records. ActionsDeliver found admitted (map due_record records.items)) c.of_owned.ensures.records (λ records. ActionsDeliver books admitted (map due_record records.items)) (λ records h. (
      sym (same_first found books admitted same) ∙ h.0,
      h.1,
      same_rows found books admitted h.1 same h.2,
      h.3,
    ))

pub returns-clause-unknown : goal.returns-clause-unknown
returns-clause-unknown c =
    let found = c.in_ok-accounts.accounts in
    let books = accounts c.args.books.now in
    let admitted = c.args.admitted.now in
    let same : GiveSame found books = c.in_ok-accounts.ensures in
    when_bad c.of_owned.result (λ fault. first_unknown found admitted ≡ Some (fault.path.bytes, fault.name)) c.of_owned.ensures.unknown (λ fault. first_unknown books admitted ≡ Some (fault.path.bytes, fault.name)) (λ fault h. sym (same_first found books admitted same) ∙ h)
