use Rattle.std.proofs.Common.{◌≡◌, List, map, refl, subst}
use Rattle.ips_steps.specs.declared.step.Step.{Step}
use Rattle.ips_steps.specs.View.{step_of}
use Rattle.ips_report.specs.declared.outcome.Outcome.TheVariants.{Done}
use Rattle.ips_tell.specs.told.Laying.{no_counts, sorts_among}
use Rattle.ips_tell.specs.told.Naming.{AreNamed}
use Rattle.ips_tell.proofs.told.laying.change_of_steps.Goals as goal

pub returns : goal.returns
returns c = record {
  publisher_is = refl;
  steps = refl;
  staged = refl;
  named = subst AreNamed c.deref.ensures.value c.payloads_are_named.ensures;
  none_before = c.new-2.ensures.items;
  none_after = c.new-3.ensures.items;
  licenses = c.new.result;
  none_shown = c.new.ensures.items;
  told = subst (λ (steps : List Step). c.done-told.result ≡ Done no_counts (sorts_among (map step_of steps)) c.new.result) c.deref-2.ensures.value c.done-told.ensures;
}
