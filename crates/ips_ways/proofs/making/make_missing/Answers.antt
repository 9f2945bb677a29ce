use Rattle.std.proofs.Common.{sym, ◌∙◌}
use Rattle.ips_ways.proofs.Made.{made_behind}
use Rattle.ips_ways.proofs.making.make_missing.Goals as goal

pub returns-in-Err-make_anew-clause-any_moment : goal.returns-in-Err-make_anew-clause-any_moment
returns-in-Err-make_anew-clause-any_moment g c = λ told.
    made_behind g.F.Source.outside g.met.F.Source.sane c.args.path.now.bytes c.args.folder.now c.is_free.new.folder c.make_anew.new.folder _ c.is_free.ensures.reads
    (sym (c.in-Ok-true.ensures.found told) ∙ c.in-Ok-true.field-0-test) (c.make_anew.ensures.any_moment (c.is_free.ensures.reads.call.same_kind ∙ told))
