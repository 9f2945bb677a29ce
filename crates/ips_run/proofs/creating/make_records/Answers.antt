use Rattle.std.proofs.Common.{List, ℕ, sym, subst}
use Rattle.ips_folder.specs.Calls.{CanMake}
use Rattle.ips_run.proofs.Directories.{records_failed, records_kept, records_made, records_shut, records_in_part, records_unsynced, records_last, records_last_failed}
use Rattle.ips_run.proofs.creating.make_records.Goals as goal

pub make_dir-requires-clause-can : goal.make_dir-requires-clause-can
make_dir-requires-clause-can g c = λ told. subst (λ (q : List ℕ). CanMake (g.F.Source.outside.state c.args.folder.now).held q) (sym c.requires.records) (c.requires.can told)

pub returns-in-Ok-clause-made : goal.returns-in-Ok-clause-made
returns-in-Ok-clause-made g c = λ told.
    records_made g.F.Source.outside g.met.F.Source.sane c.args.records.now.bytes c.requires.records c.args.folder.now c.make_dir.new.self told c.make_dir.result c.make_dir.ensures c.sync.new.self c.sync.result c.sync.ensures (c.in-Ok.ensures.done told)

pub returns-in-Ok-clause-shut : goal.returns-in-Ok-clause-shut
returns-in-Ok-clause-shut g c = λ told.
    records_shut g.F.Source.outside g.met.F.Source.sane c.args.records.now.bytes c.requires.records c.args.folder.now c.make_dir.new.self told c.make_dir.result c.make_dir.ensures c.sync.new.self c.sync.result c.sync.ensures (c.in-Ok.ensures.done told) (c.requires.shut told)

pub returns-in-Ok-clause-kept : goal.returns-in-Ok-clause-kept
returns-in-Ok-clause-kept g c = λ told.
    records_kept g.F.Source.outside g.met.F.Source.sane c.args.records.now.bytes c.requires.records c.args.folder.now c.make_dir.new.self told c.make_dir.result c.make_dir.ensures c.sync.new.self c.sync.result c.sync.ensures

pub returns-in-Err-clause-kept : goal.returns-in-Err-clause-kept
returns-in-Err-clause-kept g c = λ told. records_failed g.F.Source.outside g.met.F.Source.sane c.args.records.now.bytes c.requires.records c.args.folder.now c.make_dir.new.self told c.make_dir.result c.make_dir.ensures

pub returns-in-Ok-clause-in_part : goal.returns-in-Ok-clause-in_part
returns-in-Ok-clause-in_part g c = λ told.
    records_unsynced g.F.Source.outside g.met.F.Source.sane c.args.records.now.bytes c.requires.records c.args.folder.now c.make_dir.new.self told c.make_dir.result c.make_dir.ensures c.sync.new.self c.sync.result c.sync.ensures

pub returns-in-Err-clause-in_part : goal.returns-in-Err-clause-in_part
returns-in-Err-clause-in_part g c = λ told. records_in_part g.F.Source.outside g.met.F.Source.sane c.args.records.now.bytes c.requires.records c.args.folder.now c.make_dir.new.self told c.make_dir.result c.make_dir.ensures

pub returns-in-Ok-clause-last : goal.returns-in-Ok-clause-last
returns-in-Ok-clause-last g c = λ told. records_last g.F.Source.outside g.met.F.Source.sane c.args.records.now.bytes c.requires.records c.args.folder.now c.make_dir.new.self told c.make_dir.result c.make_dir.ensures c.sync.new.self c.sync.result c.sync.ensures

pub returns-in-Err-clause-last : goal.returns-in-Err-clause-last
returns-in-Err-clause-last g c = λ told. records_last_failed g.F.Source.outside g.met.F.Source.sane c.args.records.now.bytes c.requires.records c.args.folder.now c.make_dir.new.self told c.make_dir.result c.make_dir.ensures
