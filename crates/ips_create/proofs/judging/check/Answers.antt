use Rattle.std.proofs.Common.{◌≡◌, false, sym, ap, subst, ◌∙◌}
use Rattle.ips_text.specs.Reading.{IfBad}
use Rattle.std.specs.Prelude.{OnOk}
use Rattle.ips_outside.specs.Children.{path_bytes}
use Rattle.ips_outside.specs.State.{State}
use Rattle.ips_outside.proofs.Reading.{reads_then}
use Rattle.ips_repo.specs.Mark.{is_repository}
use Rattle.ips_ways.specs.Ways.{IsFree}
use Rattle.ips_create.specs.Judging.{SaysOfChecking}
use Rattle.ips_create.proofs.judging.check.Goals as goal

pub returns-in-Ok-false-clause-free : goal.returns-in-Ok-false-clause-free
returns-in-Ok-false-clause-free g c = λ told.
    let reads = c.in-Ok-false.ensures.reads in
    subst (λ (s : State). OnOk c.check_ways.result (IsFree s.held (path_bytes c.args.dirs.now))) reads.kept (c.check_ways.ensures.free (reads.call.same_kind ∙ told))

pub returns-in-Ok-false-clause-says : goal.returns-in-Ok-false-clause-says
returns-in-Ok-false-clause-says g c = λ told.
    let reads = c.in-Ok-false.ensures.reads in
    let unmarked : is_repository (g.S.Source.outside.state c.is_marked.new.source).held ≡ false =
    ap (λ (s : State). is_repository s.held) reads.kept ∙ sym (c.in-Ok-false.ensures.found told) ∙ c.in-Ok-false.field-0-test in
    subst (λ (s : State). IfBad c.check_ways.result (SaysOfChecking s.held (path_bytes c.args.dirs.now))) reads.kept (c.check_ways.ensures.says (reads.call.same_kind ∙ told) unmarked)

pub returns-in-Ok-false-clause-reads : goal.returns-in-Ok-false-clause-reads
returns-in-Ok-false-clause-reads g c =
    reads_then g.S.Source.outside c.args.source.now c.is_marked.new.source c.check_ways.new.source _ _ c.in-Ok-false.ensures.reads c.check_ways.ensures.reads (λ f. f) (λ f. f)
