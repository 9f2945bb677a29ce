use Rattle.std.proofs.Common.{refl}
use Rattle.ips_state.specs.State.{installed}
use Rattle.ips_request.specs.Subject.{case_of}
use Rattle.ips_problem.proofs.Judging.{judged_so}
use Rattle.ips_problem.proofs.Recording.{asked_stems}
use Rattle.ips_problem.proofs.gathering.judged_read.Goals as goal

pub returns-clause-read : goal.returns-clause-read
returns-clause-read c = λ file r.
    judged_so c.args.subject.now.state.now.settings (case_of c.args.subject.now file r) c.args.stem.now c.args.version.now c.in_ok-version.version c.args.manifest.lines.items _ (λ p. installed p.now) c.own.result
    c.in_ok-version.ensures.same refl refl c.in_ok-tests.ensures.asked c.is_obsolete-gone.ensures (c.may_come-comes.ensures file r) c.is_some-stands.ensures (c.own.ensures file r) (c.is_greatest-newest.ensures file r)

pub returns-clause-sound : goal.returns-clause-sound
returns-clause-sound c = λ manifest. record {
  version = c.in_ok-version.ensures.version;
  manifest = manifest;
  tests = asked_stems c.args.subject.now.state.now.settings c.args.manifest.lines.items c.in_ok-tests.tests.items c.in_ok-tests.ensures.asked;
}
