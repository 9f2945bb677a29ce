use Rattle.std.proofs.Common.{List, ℕ, sym, ◌∙◌, subst}
use Rattle.ips_folder.specs.Calls.{CanMake}
use Rattle.ips_run.proofs.Directories.{can_make_var, var_failed, var_can, var_gate_shut, both_kept, both_made, both_shut, var_in_part, both_in_part, var_last_failed, both_last}
use Rattle.ips_run.proofs.creating.make_both.Goals as goal

pub make_dir-requires-clause-can : goal.make_dir-requires-clause-can
make_dir-requires-clause-can g c = λ told. subst (λ (q : List ℕ). CanMake (g.F.Source.outside.state c.args.folder.now).held q) (sym c.requires.var) (can_make_var (g.F.Source.outside.state c.args.folder.now).held (c.requires.absent told))

pub make_records-requires-clause-can : goal.make_records-requires-clause-can
make_records-requires-clause-can g c = λ told.
    let old = sym c.make_dir.ensures.call.same_kind ∙ told in
    var_can g.F.Source.outside g.met.F.Source.sane c.args.var.now.bytes c.requires.var c.args.folder.now c.make_dir.new.self old c.make_dir.result c.make_dir.ensures (c.in-Ok.ensures.done old)

pub make_records-requires-clause-shut : goal.make_records-requires-clause-shut
make_records-requires-clause-shut g c = λ told.
    let old = sym c.make_dir.ensures.call.same_kind ∙ told in
    var_gate_shut g.F.Source.outside g.met.F.Source.sane c.args.var.now.bytes c.requires.var c.args.folder.now c.make_dir.new.self old c.make_dir.result c.make_dir.ensures (c.in-Ok.ensures.done old)

pub returns-in-Ok-clause-made : goal.returns-in-Ok-clause-made
returns-in-Ok-clause-made g c = λ told.
    both_made g.F.Source.outside g.met.F.Source.sane c.args.var.now.bytes c.requires.var c.args.folder.now c.make_dir.new.self told c.make_dir.result c.make_dir.ensures (c.in-Ok.ensures.done told) c.make_records.new.folder c.make_records.result
    (c.make_records.ensures.made (c.make_dir.ensures.call.same_kind ∙ told))

pub returns-in-Ok-clause-shut : goal.returns-in-Ok-clause-shut
returns-in-Ok-clause-shut g c = λ told.
    both_shut g.F.Source.outside g.met.F.Source.sane c.args.var.now.bytes c.requires.var c.args.folder.now c.make_dir.new.self told c.make_dir.result c.make_dir.ensures (c.in-Ok.ensures.done told) c.make_records.new.folder c.make_records.result (c.requires.shut told)
    (c.make_records.ensures.shut (c.make_dir.ensures.call.same_kind ∙ told))

pub returns-in-Ok-clause-kept : goal.returns-in-Ok-clause-kept
returns-in-Ok-clause-kept g c = λ told.
    both_kept g.F.Source.outside g.met.F.Source.sane c.args.folder.now c.make_dir.new.self c.make_records.new.folder
    (var_failed g.F.Source.outside g.met.F.Source.sane c.args.var.now.bytes c.requires.var c.args.folder.now c.make_dir.new.self told c.make_dir.result c.make_dir.ensures) (c.make_records.ensures.kept (c.make_dir.ensures.call.same_kind ∙ told))

pub returns-in-Err-clause-kept : goal.returns-in-Err-clause-kept
returns-in-Err-clause-kept g c = λ told. var_failed g.F.Source.outside g.met.F.Source.sane c.args.var.now.bytes c.requires.var c.args.folder.now c.make_dir.new.self told c.make_dir.result c.make_dir.ensures

pub returns-in-Ok-clause-in_part : goal.returns-in-Ok-clause-in_part
returns-in-Ok-clause-in_part g c = λ told.
    both_in_part g.F.Source.outside g.met.F.Source.sane c.args.var.now.bytes c.requires.var c.args.folder.now c.make_dir.new.self told c.make_dir.result c.make_dir.ensures (c.in-Ok.ensures.done told) c.make_records.new.folder c.make_records.result
    (c.make_records.ensures.in_part (c.make_dir.ensures.call.same_kind ∙ told))

pub returns-in-Err-clause-in_part : goal.returns-in-Err-clause-in_part
returns-in-Err-clause-in_part g c = λ told. var_in_part g.F.Source.outside g.met.F.Source.sane c.args.var.now.bytes c.requires.var c.args.folder.now c.make_dir.new.self told c.make_dir.result c.make_dir.ensures

pub returns-in-Ok-clause-last : goal.returns-in-Ok-clause-last
returns-in-Ok-clause-last g c = λ told.
    both_last g.F.Source.outside g.met.F.Source.sane c.args.var.now.bytes c.requires.var c.args.folder.now c.make_dir.new.self told c.make_dir.result c.make_dir.ensures (c.in-Ok.ensures.done told) c.make_records.new.folder
    (c.make_records.ensures.last (c.make_dir.ensures.call.same_kind ∙ told))

pub returns-in-Err-clause-last : goal.returns-in-Err-clause-last
returns-in-Err-clause-last g c = λ told. var_last_failed g.F.Source.outside g.met.F.Source.sane c.args.var.now.bytes c.requires.var c.args.folder.now c.make_dir.new.self told c.make_dir.result c.make_dir.ensures
