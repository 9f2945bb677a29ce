use Rattle.std.proofs.Common.{sym, ◌∙◌}
use Rattle.std.proofs.lemmas.Bool.{true≢false}
use Rattle.ips_records.proofs.NameForms.{bare, bare_fmri, bare_text, not_stem}
use Rattle.ips_records.proofs.names.stem.Goals as goal

pub returns-in_default-clause-none : goal.returns-in_default-clause-none
returns-in_default-clause-none c = λ s h e. (rw c.in_default.is at c.in_ok-fmri.ensures.none) (bare s) (bare_fmri s h) (bare_text s ∙ e)

pub returns-else-is_bare-clause-none : goal.returns-else-is_bare-clause-none
returns-else-is_bare-clause-none c = λ s h e.
    not_stem c.in-Some.fmri c.args.bytes.now s (rw c.in-Some.is at c.in_ok-fmri.ensures.sole) (rw c.in-Some.is at c.in_ok-fmri.ensures.of_bytes) (λ both. true≢false (sym (c.is_bare.ensures.1 both) ∙ c.if-is_bare.false)) h e
