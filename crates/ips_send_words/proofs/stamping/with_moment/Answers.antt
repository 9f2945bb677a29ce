use Rattle.std.proofs.Common.{◌≡◌, ℕ, List, refl, sym, ap, subst, ◌∙◌}
use Rattle.ips_send_words.proofs.Stamps.{stamped_some, stamped_none}
use Rattle.ips_send_words.proofs.stamping.with_moment.Goals as goal

pub returns-in-Ok-clause-some : goal.returns-in-Ok-clause-some
returns-in-Ok-clause-some c =
    let made = c.in_ok-text.ensures in
    let read = c.in-Ok.ensures.found in
    (stamped_some c.args.moment c.args.given.now _ made.0 made.1 made.3 c.in-Ok.version c.requires.is made.2 read.0 (sym c.as_str.ensures ∙ read.1), read.0)

pub returns-in-Err-Bad-clause-none : goal.returns-in-Err-Bad-clause-none
returns-in-Err-Bad-clause-none c =
    let made = c.in_ok-text.ensures in
    stamped_none c.args.moment c.args.given.now _ made.0 made.1 made.3 (λ v is e. let bad = rw c.in-Err-Bad.field-0-is at (c.in-Err-Bad.ensures.only v is (c.as_str.ensures ∙ e)) in cc)
