use Rattle.std.proofs.Common.{rules, ◌≡◌, Option, Some, None, sym, ◌∙◌, ap, Bor}
use Rattle.std.specs.Option.{option_map}
use Rattle.ips_digest.specs.Name.{spelling}
use Rattle.ips_meaning.specs.declared.entry.Entry.{Entry}
use Rattle.ips_after.specs.After as after
use Rattle.ips_after.specs.Request.{WantFile, Wanted}
use Rattle.ips_change.specs.wanted.Named.{is_payload_of}
use Rattle.ips_change.specs.wanted.Wanted.{wanted_of}
use Rattle.ips_change.specs.Stands.{seen_of}
use Rattle.ips_change.specs.Told.{naming}
use Rattle.ips_change.proofs.rules.goes.Goals as goal

pub returns-in-Some-File : goal.returns-in-Some-File
returns-in-Some-File c = λ r e h.
    let f = λ (x : Bor Entry). wanted_of x.now in
    let payload = spelling c.in-Some-File.field-0-0 in
    let file : option_map f c.args.old ≡ Some (WantFile payload c.in-Some-File.field-0-1 c.in-Some-File.preserve) = search rules in
    ap after.removed_if (c.drops.ensures ∙ ap after.drops (c.answer_gone.ensures r payload c.in-Some-File.field-0-1 e (h ∙ ap (λ (o : Option Wanted). seen_of is_payload_of o None e) file)))
    ∙ sym (ap (λ (o : Option Wanted). after.by_itself (naming r) o None e) file)
