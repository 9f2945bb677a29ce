use Rattle.std.proofs.Common.{rules, ◌≡◌, Bool, ◌||◌, Option, Some, sym, ◌∙◌, ap, Bor}
use Rattle.std.specs.Option.{option_map}
use Rattle.ips_digest.specs.Name.{spelling}
use Rattle.ips_meaning.specs.declared.entry.Entry.{Entry}
use Rattle.ips_after.specs.Request.{WantFile, Wanted}
use Rattle.ips_after.specs.Salvage.{copies, saved_as}
use Rattle.ips_change.specs.wanted.Named.{is_payload_of}
use Rattle.ips_change.specs.wanted.Wanted.{wanted_of}
use Rattle.ips_change.specs.Stands.{has_fresh, is_unasked, seen_of}
use Rattle.ips_change.specs.Told.{naming}
use Rattle.ips_change.proofs.Ruled.{file_there, fresh_there, saved_there}
use Rattle.ips_change.proofs.rules.saved.Goals as goal

pub returns-else-has_new : goal.returns-else-has_new
returns-else-has_new c = λ r e h asked kept.
    let f = λ (x : Bor Entry). wanted_of x.now in
    let was = option_map f c.args.old in
    let payload = spelling c.in-Some-File.payload in
    let m = c.in-Some-File.field-0-1 in
    let new : Option Wanted = Some (WantFile payload m c.in-Some-File.preserve) in
    let file : option_map f c.args.new ≡ new = search rules in
    let seen = h ∙ ap (λ (o : Option Wanted). seen_of is_payload_of was o e) file in
    let there = file_there was new c.in-File.mode c.in-File.known c.in-File.fresh e (sym c.in-File.is ∙ seen) in
    ap (λ (b : Bool). b || c.copies.result) (sym c.if-has_new.false ∙ c.has_new.ensures)
    ∙ saved_there r was payload m c.in-Some-File.preserve e (has_fresh was c.in-File.known c.in-File.fresh) c.copies.result
    (fresh_there was payload m c.in-Some-File.preserve c.in-File.known c.in-File.fresh e there kept)
    (c.copies.ensures ∙ ap copies (c.answer.ensures r m e (sym c.in-File.is ∙ seen)))
    (sym (ap (λ (o : Option Wanted). is_unasked was o) file) ∙ asked)
    ∙ sym (ap (λ (o : Option Wanted). saved_as (naming r) was o e) file)
