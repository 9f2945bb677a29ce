use Rattle.std.proofs.Common.{◌≡◌, sym, ◌∙◌, ap, subst}
use Rattle.ips_outside.specs.State.{State, settled}
use Rattle.ips_steps.specs.Private.{gate_name}
use Rattle.ips_run.specs.Creating.{IsMissing}
use Rattle.ips_run.proofs.Created.{failed_of, made_of, blocked_of}
use Rattle.ips_run.proofs.creating.make_in.Goals as goal

pub make_missing-requires-clause-missing : goal.make_missing-requires-clause-missing
make_missing-requires-clause-missing g c = λ told.
    subst (λ (s : State). IsMissing s.held c.in-Ok.missing) (sym c.find_missing.ensures.reads.kept) (c.in-Ok.ensures.found (sym c.find_missing.ensures.reads.call.same_kind ∙ told))

pub make_missing-requires-clause-safe : goal.make_missing-requires-clause-safe
make_missing-requires-clause-safe g c = λ told.
    subst (λ (s : State). s ≡ settled s) (sym c.find_missing.ensures.reads.kept) (c.requires.safe (sym c.find_missing.ensures.reads.call.same_kind ∙ told))

pub make_missing-requires-clause-shut : goal.make_missing-requires-clause-shut
make_missing-requires-clause-shut g c = λ told.
    ap (λ (s : State). s.held.look gate_name) c.find_missing.ensures.reads.kept ∙ c.requires.shut (sym c.find_missing.ensures.reads.call.same_kind ∙ told)

pub returns-in-Err-clause-unmade : goal.returns-in-Err-clause-unmade
returns-in-Err-clause-unmade g c = λ told.
    blocked_of g.F.Source.outside g.met.F.Source.sane c.args.folder.now told c.find_missing.new.folder c.in-Err.fault c.find_missing.ensures.reads.call.time c.find_missing.ensures.reads.kept (c.in-Err.ensures.in_the_way told)

pub returns-in-Ok-make_missing-clause-made : goal.returns-in-Ok-make_missing-clause-made
returns-in-Ok-make_missing-clause-made g c = λ told.
    let told_at = c.find_missing.ensures.reads.call.same_kind ∙ told in
    made_of g.F.Source.outside g.met.F.Source.sane c.args.folder.now told c.find_missing.new.folder c.make_missing.new.folder c.find_missing.ensures.reads.call.time c.find_missing.ensures.reads.kept c.in-Ok.missing
    (c.in-Ok.ensures.found told) (c.make_missing.ensures.kept told_at) (c.make_missing.ensures.last told_at) (c.requires.shut told) (c.in-Ok-make_missing.ensures.made told_at) (c.in-Ok-make_missing.ensures.shut told_at)

pub returns-in-Err-make_missing-clause-unmade : goal.returns-in-Err-make_missing-clause-unmade
returns-in-Err-make_missing-clause-unmade g c = λ told.
    let told_at = c.find_missing.ensures.reads.call.same_kind ∙ told in
    failed_of g.F.Source.outside g.met.F.Source.sane c.args.folder.now told c.find_missing.new.folder c.make_missing.new.folder c.find_missing.ensures.reads.call.time c.find_missing.ensures.reads.kept c.in-Ok.missing
    (c.in-Ok.ensures.found told) (c.make_missing.ensures.kept told_at) (c.in-Err-make_missing.ensures.in_part told_at)
