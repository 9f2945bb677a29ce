use Rattle.std.proofs.Common.{rules, ◌≡◌, Option, Some, is_some, sym, ◌∙◌, ap, subst, Bor}
use Rattle.std.specs.Option.{option_map}
use Rattle.ips_digest.specs.Name.{spelling}
use Rattle.ips_meaning.specs.declared.entry.Entry.{Entry}
use Rattle.ips_after.specs.Request.{WantFile, Wanted}
use Rattle.ips_after.specs.Salvage.{Side, side_as}
use Rattle.ips_change.specs.wanted.Named.{is_payload_of}
use Rattle.ips_change.specs.wanted.Wanted.{wanted_of}
use Rattle.ips_change.specs.Stands.{stands_of}
use Rattle.ips_change.specs.Told.{naming, side_told}
use Rattle.ips_change.proofs.Ruled.{sideless, some_side, told_side}
use Rattle.ips_change.proofs.rules.side.Goals as goal

pub returns-in_default : goal.returns-in_default
returns-in_default c = record {
  told = λ r e h. sideless r (option_map (λ (x : Bor Entry). wanted_of x.now) c.args.old) (option_map (λ (x : Bor Entry). wanted_of x.now) c.args.new) e c.args.stands h c.in_default.not-File;
  only = λ r e h. ap (λ (x : Option Side). is_some x) (sideless r (option_map (λ (x : Bor Entry). wanted_of x.now) c.args.old) (option_map (λ (x : Bor Entry). wanted_of x.now) c.args.new) e c.args.stands h c.in_default.not-File);
}

pub returns-in-Some-File-clause-told : goal.returns-in-Some-File-clause-told
returns-in-Some-File-clause-told c = λ r e h.
    let f = λ (x : Bor Entry). wanted_of x.now in
    let was = option_map f c.args.old in
    let payload = spelling c.in-Some-File.payload in
    let m = c.in-Some-File.field-0-1 in
    let new : Option Wanted = Some (WantFile payload m c.in-Some-File.preserve) in
    let file : option_map f c.args.new ≡ new = search rules in
    let learned = sym c.in-File.is ∙ h ∙ ap (λ (o : Option Wanted). stands_of is_payload_of was o e) file in
    subst (λ (o : Option Wanted). side_told r.bytes o e c.beside.result ≡ side_as (naming r) was o e) (sym file)
    (told_side r was payload m c.in-Some-File.preserve e c.in-File.mode c.in-File.known c.in-File.fresh learned c.answer.result (λ seen. c.answer.ensures r m e (c.in-File.is ∙ seen)) c.beside.result c.beside.ensures)

pub returns-in-Some-File-clause-only : goal.returns-in-Some-File-clause-only
returns-in-Some-File-clause-only c = λ r e h.
    let f = λ (x : Bor Entry). wanted_of x.now in
    let was = option_map f c.args.old in
    let payload = spelling c.in-Some-File.payload in
    let m = c.in-Some-File.field-0-1 in
    let new : Option Wanted = Some (WantFile payload m c.in-Some-File.preserve) in
    let file : option_map f c.args.new ≡ new = search rules in
    let learned = sym c.in-File.is ∙ h ∙ ap (λ (o : Option Wanted). stands_of is_payload_of was o e) file in
    subst (λ (o : Option Wanted). is_some c.beside.result ≡ is_some (side_as (naming r) was o e)) (sym file)
    (some_side r was payload m c.in-Some-File.preserve e c.in-File.mode c.in-File.known c.in-File.fresh learned c.answer.result (λ seen. c.answer.ensures r m e (c.in-File.is ∙ seen)) c.beside.result c.beside.ensures)
