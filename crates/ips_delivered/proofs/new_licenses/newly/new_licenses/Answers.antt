use Rattle.std.proofs.Common.{List, sym, subst}
use Rattle.ips_conflict.specs.declared.placed.Placed.{Placed}
use Rattle.ips_meaning.specs.Taken.{AreAdmitted}
use Rattle.ips_delivered.proofs.delivered.Picked.{stems_of}
use Rattle.ips_delivered.proofs.delivered.Outcomes.{both_ok}
use Rattle.ips_delivered.proofs.new_licenses.newly.new_licenses.Goals as goal

pub of_actions-requires : goal.of_actions-requires
of_actions-requires c =
    let was = subst (λ (l : List Placed). AreAdmitted c.args.old_settings.now c.args.old.now l) (sym c.deref.ensures.value) c.in_ok-before.ensures in
    let is = subst (λ (l : List Placed). AreAdmitted c.args.new_settings.now c.args.new.now l) (sym c.deref-2.ensures.value) c.in_ok-after.ensures in
    record { was = stems_of c.args.old_settings.now c.args.old.now c.deref.result.now was c.requires.old; is = stems_of c.args.new_settings.now c.args.new.now c.deref-2.result.now is c.requires.new }

pub returns : goal.returns
returns c =
    let was = subst (λ (l : List Placed). AreAdmitted c.args.old_settings.now c.args.old.now l) (sym c.deref.ensures.value) c.in_ok-before.ensures in
    let is = subst (λ (l : List Placed). AreAdmitted c.args.new_settings.now c.args.new.now l) (sym c.deref-2.ensures.value) c.in_ok-after.ensures in
    both_ok c.of_actions.result _ _ _ c.of_actions.ensures.display c.of_actions.ensures.accept (λ found display accept. record { was = c.deref.result.now; were_admitted = was; is = c.deref-2.result.now; are_admitted = is; display = display; accept = accept })
