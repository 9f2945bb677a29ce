use Rattle.std.proofs.Common.{◌∙◌, sym, ap}
use Rattle.ips_send_report.specs.declared.outcome.SendOutcome.TheVariants as outcome
use Rattle.ips_publish.specs.Told.{created_as}
use Rattle.ips_publish.proofs.Outcomes.{Made}
use Rattle.ips_publish.proofs.Causes.{made_cause}
use Rattle.ips_publish.proofs.requests.created.Goals as goal

pub returns-in-Ok-clause-ends : goal.returns-in-Ok-clause-ends
returns-in-Ok-clause-ends g c = (
  c.create.result,
  sym (ap (λ (x : Made). created_as x) c.in-Ok.is),
  λ told. record {
    created = c.create.ensures.created told;
    says = c.create.ensures.says told;
    creates = c.create.ensures.creates told;
    marked = c.create.ensures.marked told;
    kept = c.create.ensures.kept;
    begun = c.create.ensures.begun;
  },
)

pub returns-in-Ok-clause-folder : goal.returns-in-Ok-clause-folder
returns-in-Ok-clause-folder g c = made_cause _ _ c.create.result outcome.Created (ap (λ (x : Made). created_as x) c.in-Ok.is) c.create.ensures.cause

pub returns-in-Err-clause-ends : goal.returns-in-Err-clause-ends
returns-in-Err-clause-ends g c = (
  c.create.result,
  c.uncreated.ensures ∙ sym (ap (λ (x : Made). created_as x) c.in-Err.is),
  λ told. record {
    created = c.create.ensures.created told;
    says = c.create.ensures.says told;
    creates = c.create.ensures.creates told;
    marked = c.create.ensures.marked told;
    kept = c.create.ensures.kept;
    begun = c.create.ensures.begun;
  },
)

pub returns-in-Err-clause-folder : goal.returns-in-Err-clause-folder
returns-in-Err-clause-folder g c = made_cause _ _ c.create.result c.uncreated.result (ap (λ (x : Made). created_as x) c.in-Err.is ∙ sym c.uncreated.ensures) c.create.ensures.cause
