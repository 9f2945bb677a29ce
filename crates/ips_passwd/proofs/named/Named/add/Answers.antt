use Rattle.std.proofs.Common.{◌≡◌, List, ℕ, true, length, sym, subst, ap, arith, ◌∙◌}
use Rattle.ips_books.specs.Lines.{AccountLine}
use Rattle.ips_books.specs.Accounts.{is_of}
use Rattle.ips_books.specs.Seen.{as_line}
use Rattle.ips_passwd.specs.Entries.{leads_up_to}
use Rattle.ips_passwd.proofs.Places.{Led, led_stays, led_added, either_way}
use Rattle.ips_passwd.proofs.named.Named.add.Goals as goal

pub invariant_of-self-2 : goal.invariant_of-self-2
invariant_of-self-2 c =
    let test = λ (name text : List ℕ). is_of name (as_line text) in
    let old = leads_up_to c.self.inside.places in
    let new = leads_up_to c.note.new.places in
    let lines = c.self.inside.lines.items in
    let place : c.len.result ≡ length lines = omega (arith, c.len.ensures) in
    either_way c.add.result c.add.ensures.added c.add.ensures.same
    (λ is. led_added test old new lines c.add.new.lines.items c.args.text.items is c.note.ensures.stays
    (λ name e. subst (λ (n : ℕ). leads_up_to c.note.new.places name n ≡ true) place (c.in_ok-note.ensures.noted name (ap (test name) c.deref.ensures.value ∙ e))) c.self.invariant)
    (λ same. subst (λ (l : List AccountLine). Led test new (length l) l) (sym same) (led_stays test old new (length lines) lines c.note.ensures.stays c.self.invariant))
