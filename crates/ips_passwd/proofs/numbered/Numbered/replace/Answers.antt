use Rattle.std.proofs.Common.{◌≡◌, ◌<◌, List, ℕ, length, get_or, sym, subst, ap, ◌∙◌}
use Rattle.std.proofs.lemmas.List.{length-set}
use Rattle.ips_books.specs.Lines.{AccountLine}
use Rattle.ips_books.specs.Writing.{has_number}
use Rattle.ips_books.specs.Seen.{as_line}
use Rattle.ips_passwd.specs.Entries.{IsByNumber, leads_by}
use Rattle.ips_passwd.proofs.Places.{led_stays, led_set, either_way}
use Rattle.ips_passwd.proofs.Frees.{free_set}
use Rattle.ips_passwd.proofs.numbered.Numbered.replace.Goals as goal

pub invariant_of-self-2 : goal.invariant_of-self-2
invariant_of-self-2 c =
    let test = λ (id : ℕ) (text : List ℕ). has_number id (as_line text) in
    let old = leads_by c.self.inside.numbers in
    let new = leads_by c.list.new.numbers in
    let lines = c.self.inside.named in
    let was = c.index-lines-place.result in
    let at : was ≡ get_or lines c.args.place was = c.index-lines-place.is ∙ ap (λ (l : List AccountLine). get_or l c.args.place was) c.lines.ensures in
    let within : c.args.place < length lines = subst (λ (l : List AccountLine). c.args.place < length l) (sym c.self.view_is) c.requires in
    either_way c.replace.result c.replace.ensures.replaced c.replace.ensures.same
    (λ is. record {
      led = led_set test old new lines c.replace.new.self c.args.place c.args.line c.text-2.result.now is within c.text-2.ensures c.list.ensures.stays c.in_ok-list.ensures.listed c.self.invariant.led;
      kept = free_set c.self.inside.free c.give_up.new.free lines c.replace.new.self c.args.place c.args.line was c.text.result.now is (ap (λ (l : List AccountLine). length l) is ∙ length-set lines c.args.place c.args.line) at c.text.ensures c.give_up.ensures.stays c.in_ok-give_up.ensures.given c.self.invariant.kept;
    })
    (λ same. subst (λ (l : List AccountLine). IsByNumber c.list.new.numbers c.give_up.new.free l) (sym same) (record {
      led = led_stays test old new (length lines) lines c.list.ensures.stays c.self.invariant.led;
      kept = λ k lt unused. c.give_up.ensures.stays k (c.self.invariant.kept k lt unused);
    }))
