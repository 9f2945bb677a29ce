use Rattle.std.proofs.Common.{rules, ◌≡◌, Option, Some, None, sym, ◌∙◌, ap, Bor}
use Rattle.std.specs.Option.{option_map}
use Rattle.ips_digest.specs.Name.{spelling}
use Rattle.ips_meaning.specs.declared.entry.Entry.{Entry}
use Rattle.ips_after.specs.Request.{WantFile, Wanted}
use Rattle.ips_after.specs.Salvage.{drops_edit_as, is_salvage}
use Rattle.ips_change.specs.wanted.Named.{is_payload_of}
use Rattle.ips_change.specs.wanted.Wanted.{wanted_of}
use Rattle.ips_change.specs.Stands.{stands_of}
use Rattle.ips_change.specs.Told.{naming}
use Rattle.ips_change.proofs.Ruled.{nothing_in}
use Rattle.ips_change.proofs.rules.drops_edit.Goals as goal

pub returns-in-Some-File : goal.returns-in-Some-File
returns-in-Some-File c = λ r e h.
    let f = λ (x : Bor Entry). wanted_of x.now in
    let payload = spelling c.in-Some-File.field-0-0 in
    let was : Option Wanted = Some (WantFile payload c.in-Some-File.field-0-1 c.in-Some-File.preserve) in
    let file : option_map f c.args.old ≡ was = search rules in
    let none : option_map f c.args.new ≡ None = ap (option_map f) (nothing_in c.args.new (sym c.is_some.ensures ∙ c.if-is_some.false)) in
    let here = h ∙ ap (λ (o : Option Wanted). stands_of is_payload_of o (option_map f c.args.new) e) file ∙ ap (λ (o : Option Wanted). stands_of is_payload_of was o e) none in
    c.is_salvage.ensures ∙ ap is_salvage (c.answer_gone.ensures r payload c.in-Some-File.field-0-1 e here)
    ∙ sym (ap (λ (o : Option Wanted). drops_edit_as (naming r) o (option_map f c.args.new) e) file ∙ ap (λ (o : Option Wanted). drops_edit_as (naming r) was o e) none)
