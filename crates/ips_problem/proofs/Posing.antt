-- The puzzle of a subject is that of its request, and so is its fault.
use Rattle.std.proofs.Common.{◌≡◌, Option, sym, ap, subst, ◌∙◌}
use Rattle.ips_outside.specs.Image.{Image}
use Rattle.ips_repo.specs.Opening.{Opened}
use Rattle.ips_state.specs.State.{Recorded}
use Rattle.ips_request.specs.declared.asking.Subject.{Subject}
use Rattle.ips_request.specs.declared.fault.ProblemFault.{ProblemFault}
use Rattle.ips_request.specs.declared.request.Request.{Request}
use Rattle.ips_request.specs.Request.{IsSubjectOf, asked_case}
use Rattle.ips_request.specs.Case.{IsReading, ManifestReading}
use Rattle.ips_request.specs.Subject.{case_in, case_of, catalog_of, files_of}
use Rattle.ips_problem.specs.Asked.{IsAsked, IsNeededFault}
use Rattle.ips_problem.specs.Fault.{IsFirstFault}
use Rattle.ips_problem.specs.Gathered.{IsPosedBy}
use Rattle.ips_problem.specs.Posed.{Posed}

module _ (q : Request) (s : Recorded) (repo : Option Opened) (subject : Subject) (held : Image) (is : IsSubjectOf q s repo subject) where
  -- the case of the subject is that of the request
  case_same : (r : ManifestReading) → case_in subject held r ≡ asked_case q s (catalog_of repo) (files_of repo held) is.named is.rejects r
  case_same r = ap (λ o. case_of subject (files_of o held) r) is.offered ∙ is.same (files_of repo held) r

  reads_same : (r : ManifestReading) → IsReading s.settings r → IsReading subject.state.now.settings r
  reads_same r reads = subst (λ t. IsReading t r) (sym is.settings) reads

  pub asked_by : (p : Posed) → ((r : ManifestReading) → IsReading subject.state.now.settings r → IsPosedBy (case_in subject held r) p) → IsAsked q s repo held p
  asked_by p posed = record {
    named = is.named;
    rejects = is.rejects;
    names = is.names;
    poses = λ r reads. subst (λ c. IsPosedBy c p) (case_same r) (posed r (reads_same r reads));
  }

  pub needed_fault : (why : ProblemFault) → ((r : ManifestReading) → IsReading subject.state.now.settings r → IsFirstFault subject.state.now.settings (case_in subject held r) why) → IsNeededFault q s repo held why
  needed_fault why first = record {
    named = is.named;
    rejects = is.rejects;
    names = is.names;
    first = λ r reads.
        subst (λ t. IsFirstFault t (asked_case q s (catalog_of repo) (files_of repo held) is.named is.rejects r) why) is.settings
        (subst (λ c. IsFirstFault subject.state.now.settings c why) (case_same r) (first r (reads_same r reads)));
  }
