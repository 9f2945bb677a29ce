use Rattle.std.proofs.Common.{sym, ◌∙◌}
use Rattle.std.proofs.lemmas.Bool.{true≢false}
use Rattle.ips_records.proofs.NameForms.{named_fmri, named_sole, not_named}
use Rattle.ips_records.proofs.names.name.Goals as goal

pub returns-in_default-clause-none : goal.returns-in_default-clause-none
returns-in_default-clause-none c = λ n h e. (rw c.in_default.is at c.in_ok-fmri.ensures.none) n (named_fmri n h) e

pub returns-then-is_named-clause-sole : goal.returns-then-is_named-clause-sole
returns-then-is_named-clause-sole c = named_sole c.in-Some.fmri (rw c.in-Some.is at c.in_ok-fmri.ensures.sole) (c.is_named.ensures.0 c.if-is_named.true)

pub returns-else-is_named-clause-none : goal.returns-else-is_named-clause-none
returns-else-is_named-clause-none c = λ n h e.
    not_named c.in-Some.fmri c.args.bytes.now n (rw c.in-Some.is at c.in_ok-fmri.ensures.sole) (rw c.in-Some.is at c.in_ok-fmri.ensures.of_bytes) (λ both. true≢false (sym (c.is_named.ensures.1 both) ∙ c.if-is_named.false)) h e
