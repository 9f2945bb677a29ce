use Rattle.std.proofs.Common.{◌≡◌, List, ℕ, true, nat_cmp, length, sym, subst, ap, ◌∙◌}
use Rattle.std.specs.BTreeSet.{contains}
use Rattle.ips_books.specs.Lines.{AccountLine}
use Rattle.ips_books.specs.Writing.{has_number}
use Rattle.ips_books.specs.Seen.{as_line}
use Rattle.ips_passwd.specs.Entries.{IsByNumber, leads_by}
use Rattle.ips_passwd.proofs.Places.{led_stays, led_added, either_way}
use Rattle.ips_passwd.proofs.Frees.{kept_more, free_added}
use Rattle.ips_passwd.proofs.numbered.Numbered.add.Goals as goal

pub invariant_of-self-2 : goal.invariant_of-self-2
invariant_of-self-2 c =
    let test = λ (id : ℕ) (text : List ℕ). has_number id (as_line text) in
    let old = leads_by c.self.inside.numbers in
    let new = leads_by c.list.new.numbers in
    let lines = c.self.inside.named in
    let place : length c.lines-place.result.now ≡ length lines = ap (λ (l : List AccountLine). length l) c.lines-place.ensures in
    let stays : (k : ℕ) → contains nat_cmp c.self.inside.free k ≡ true → contains nat_cmp c.insert.new.self k ≡ true = λ k. kept_more c.self.inside.free c.insert.new.self (length c.lines-place.result.now) k c.in_ok-insert.ensures.updates.0 in
    either_way c.add.result c.add.ensures.added c.add.ensures.same
    (λ is. record {
      led = led_added test old new lines c.add.new.self c.args.text.items is c.list.ensures.stays
          (λ id e. subst (λ (n : ℕ). leads_by c.list.new.numbers id n ≡ true) place (c.in_ok-list.ensures.listed id (ap (test id) c.deref.ensures.value ∙ e))) c.self.invariant.led;
      kept = free_added c.self.inside.free c.insert.new.self lines c.add.new.self c.args.text.items is stays (subst (λ (n : ℕ). contains nat_cmp c.insert.new.self n ≡ true) place c.in_ok-insert.ensures.updates.1) c.self.invariant.kept;
    })
    (λ same. subst (λ (l : List AccountLine). IsByNumber c.list.new.numbers c.insert.new.self l) (sym same) (record {
      led = led_stays test old new (length lines) lines c.list.ensures.stays c.self.invariant.led;
      kept = λ k lt unused. stays k (c.self.invariant.kept k lt unused);
    }))
