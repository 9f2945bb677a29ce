use Rattle.std.proofs.Common.{Option, ℕ, is_some, refl, sym, ap, arith, ◌∙◌}
use Rattle.ips_books.specs.Accounts.{gid_at}
use Rattle.ips_accounts.specs.Seen.{tables_seen}
use Rattle.ips_accounts.proofs.Steps.{known_more, known_not, known_done}
use Rattle.ips_accounts.proofs.users.are_known.Goals as goal

pub loop-user-init : goal.loop-user-init
loop-user-init c = refl

pub loop-user-preserved : goal.loop-user-preserved
loop-user-preserved c =
    let found = c.gid_at.ensures ∙ (λ i. gid_at (c.named.ensures i) (c.value_of-group.ensures i)) in
    known_more c.args.users.now c.loop-user.user-index c.user-item.result (tables_seen c.args.tables.now) c.loop-user-test.true c.user-item.is (sym (ap (λ (o : Option ℕ). is_some o) found) ∙ c.if-is_none.ensures) c.loop-user.invariant

pub returns-then-is_none : goal.returns-then-is_none
returns-then-is_none c =
    let found = c.gid_at.ensures ∙ (λ i. gid_at (c.named.ensures i) (c.value_of-group.ensures i)) in
    known_not c.args.users.now c.loop-user.user-index c.user-item.result (tables_seen c.args.tables.now) c.in_ok-name.name c.loop-user-test.true c.user-item.is (sym (ap (λ (o : Option ℕ). is_some o) found) ∙ c.if-is_none.ensures) (c.in_ok-name.ensures ∙ c.value_of-group.ensures) c.loop-user.invariant

pub returns : goal.returns
returns c = known_done c.args.users.now c.loop-user.user-index (tables_seen c.args.tables.now) (omega arith) c.loop-user.invariant
