use Rattle.std.proofs.Common.{List, ℕ, ap, subst, sym, ◌∙◌}
use Rattle.ips_depend.specs.Asking.{AreWritten, marks_root}
use Rattle.ips_depend.proofs.Made.{asked_made}
use Rattle.ips_depend.proofs.reading.test_of.Goals as goal

pub returns : goal.returns
returns c =
    let before = rw c.in-Some-2.is at c.in_ok-predicates.ensures in
    let about = rw c.in-Some-3.is at c.in_ok-fmris.ensures in
    asked_made c.args.attrs.now c.marks_root-rooted.result c.in-Some.of_type c.in-Some-2.predicates.items c.in-Some-3.fmris.items c.new.result (ap marks_root (sym c.values-4.ensures) ∙ sym c.marks_root-rooted.ensures) (sym c.values.ensures ∙ c.in-Some.ensures)
    (subst (λ (texts : List (List ℕ)). AreWritten texts c.in-Some-2.predicates.items) c.values-2.ensures before)
    (subst (λ (texts : List (List ℕ)). AreWritten texts c.in-Some-3.fmris.items) c.values-3.ensures about) c.new.ensures
