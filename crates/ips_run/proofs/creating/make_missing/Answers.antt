use Rattle.std.proofs.Common.{sym, subst, refl}
use Rattle.ips_run.specs.declared.creating.Missing.{Missing}
use Rattle.ips_steps.specs.Private.{records_name}
use Rattle.ips_run.specs.Creating.{IsMissing, HasMade, HasMadeAtLast, HasMadeInPart}
use Rattle.ips_run.proofs.Directories.{can_make_records, shut_now, on_failure, unsafe_since, safe_at_last}
use Rattle.ips_run.proofs.Created.{made_nothing, made_records_alone, made_both}
use Rattle.ips_run.proofs.creating.make_missing.Goals as goal

pub make_records-requires-clause-can : goal.make_records-requires-clause-can
make_records-requires-clause-can g c = λ told.
    let both = subst (λ (m : Missing). IsMissing (g.F.Source.outside.state c.args.folder.now).held m) c.in-Records.is (c.requires.missing told) in
    can_make_records (g.F.Source.outside.state c.args.folder.now).held both.0 both.1

pub make_both-requires-clause-absent : goal.make_both-requires-clause-absent
make_both-requires-clause-absent g c = λ told. subst (λ (m : Missing). IsMissing (g.F.Source.outside.state c.args.folder.now).held m) c.in-Both.is (c.requires.missing told)

pub returns-in-Nothing-clause-made : goal.returns-in-Nothing-clause-made
returns-in-Nothing-clause-made g c = λ told. made_nothing g.F.Source.outside g.met.F.Source.sane c.args.folder.now told c.args.missing c.in-Nothing.is (c.requires.missing told) (c.requires.safe told)

pub returns-in-Nothing-clause-shut : goal.returns-in-Nothing-clause-shut
returns-in-Nothing-clause-shut g c = λ told. shut_now g.F.Source.outside g.met.F.Source.sane c.args.folder.now (c.requires.shut told)

pub returns-in-Nothing-clause-kept : goal.returns-in-Nothing-clause-kept
returns-in-Nothing-clause-kept g c = λ told. subst (λ (m : Missing). HasMade g.F.Source.outside m c.args.folder.now c.args.folder.now) (sym c.in-Nothing.is) refl

pub returns-in-Records-clause-made : goal.returns-in-Records-clause-made
returns-in-Records-clause-made g c = λ told.
    made_records_alone g.F.Source.outside g.met.F.Source.sane c.args.folder.now told c.make_records.new.folder c.make_records.result c.args.missing (c.requires.missing told) c.in-Records.is (c.make_records.ensures.made told)

pub returns-in-Records-clause-kept : goal.returns-in-Records-clause-kept
returns-in-Records-clause-kept g c = λ told. subst (λ (m : Missing). HasMade g.F.Source.outside m c.args.folder.now c.make_records.new.folder) (sym c.in-Records.is) (c.make_records.ensures.kept told)

pub returns-in-Both-clause-made : goal.returns-in-Both-clause-made
returns-in-Both-clause-made g c = λ told.
    made_both g.F.Source.outside g.met.F.Source.sane c.args.folder.now told c.make_both.new.folder c.make_both.result c.args.missing (c.requires.missing told) c.in-Both.is (c.make_both.ensures.made told)

pub returns-in-Both-clause-kept : goal.returns-in-Both-clause-kept
returns-in-Both-clause-kept g c = λ told. subst (λ (m : Missing). HasMade g.F.Source.outside m c.args.folder.now c.make_both.new.folder) (sym c.in-Both.is) (c.make_both.ensures.kept told)

pub returns-in-Records-clause-in_part : goal.returns-in-Records-clause-in_part
returns-in-Records-clause-in_part g c = λ told. on_failure c.make_records.result (c.make_records.ensures.in_part told) (λ run.
    subst (λ (m : Missing). HasMadeInPart g.F.Source.outside m c.args.folder.now c.make_records.new.folder) (sym c.in-Records.is) (unsafe_since g.F.Source.outside g.met.F.Source.sane records_name c.args.folder.now c.make_records.new.folder run))

pub returns-in-Both-clause-in_part : goal.returns-in-Both-clause-in_part
returns-in-Both-clause-in_part g c = λ told. on_failure c.make_both.result (c.make_both.ensures.in_part told) (λ run.
    subst (λ (m : Missing). HasMadeInPart g.F.Source.outside m c.args.folder.now c.make_both.new.folder) (sym c.in-Both.is) run)

pub returns-in-Nothing-clause-last : goal.returns-in-Nothing-clause-last
returns-in-Nothing-clause-last g c = λ told. subst (λ (m : Missing). HasMadeAtLast g.F.Source.outside m c.args.folder.now c.args.folder.now) (sym c.in-Nothing.is) tt

pub returns-in-Records-clause-last : goal.returns-in-Records-clause-last
returns-in-Records-clause-last g c = λ told. subst (λ (m : Missing). HasMadeAtLast g.F.Source.outside m c.args.folder.now c.make_records.new.folder) (sym c.in-Records.is)
    (safe_at_last g.F.Source.outside g.met.F.Source.sane records_name c.args.folder.now c.make_records.new.folder (c.make_records.ensures.last told))

pub returns-in-Both-clause-last : goal.returns-in-Both-clause-last
returns-in-Both-clause-last g c = λ told. subst (λ (m : Missing). HasMadeAtLast g.F.Source.outside m c.args.folder.now c.make_both.new.folder) (sym c.in-Both.is) (c.make_both.ensures.last told)
