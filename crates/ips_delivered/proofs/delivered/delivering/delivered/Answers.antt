use Rattle.std.proofs.Common.{◌≡◌, List, map, Some, refl, sym, subst}
use Rattle.ips_books.specs.Seen.{accounts}
use Rattle.ips_conflict.specs.declared.placed.Placed.{Placed}
use Rattle.ips_meaning.specs.Taken.{AreAdmitted}
use Rattle.ips_due.specs.outstanding.Parts.{due_record}
use Rattle.ips_delivered.specs.delivered.Delivering.{delivered_with, first_unknown}
use Rattle.ips_delivered.specs.delivered.Kept.{ActionsDeliver}
use Rattle.ips_delivered.proofs.delivered.Outcomes.{when_bad, when_ok}
use Rattle.ips_delivered.proofs.delivered.Picked.{stems_of}
use Rattle.ips_delivered.proofs.delivered.delivering.delivered.Goals as goal

pub of_actions-requires : goal.of_actions-requires
of_actions-requires c =
    let are = subst (λ (l : List Placed). AreAdmitted c.args.settings.now c.args.packages.now l) (sym c.deref.ensures.value) c.in_ok-admitted.ensures in
    record { stems = stems_of c.args.settings.now c.args.packages.now c.deref.result.now are c.requires.stems }

pub returns-clause-records : goal.returns-clause-records
returns-clause-records c =
    let books = accounts c.args.books.now in
    let admitted = c.deref.result.now in
    let are = subst (λ (l : List Placed). AreAdmitted c.args.settings.now c.args.packages.now l) (sym c.deref.ensures.value) c.in_ok-admitted.ensures in
    when_ok c.of_actions.result (λ records. ActionsDeliver books admitted (map due_record records.items)) c.of_actions.ensures.records _ (λ records h.
    let rows = h.1 in
    let d = h.3 in (
      delivered_with rows d.drivers admitted,
      record { admitted = admitted; are_admitted = are; known = h.0; rows = rows; are_rows = h.2; drivers = d.drivers; are_drivers = d.are_drivers; is = refl },
      d.named,
      d.records_are,
    ))

pub returns-clause-unknown : goal.returns-clause-unknown
returns-clause-unknown c =
    let books = accounts c.args.books.now in
    let admitted = c.deref.result.now in
    let are = subst (λ (l : List Placed). AreAdmitted c.args.settings.now c.args.packages.now l) (sym c.deref.ensures.value) c.in_ok-admitted.ensures in
    when_bad c.of_actions.result (λ fault. first_unknown books admitted ≡ Some (fault.path.bytes, fault.name)) c.of_actions.ensures.unknown _ (λ fault h. record { admitted = admitted; are_admitted = are; unknown = h })
