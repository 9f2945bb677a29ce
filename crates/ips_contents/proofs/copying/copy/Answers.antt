use Rattle.std.proofs.Common.{IsErr, ◌∙◌}
use Rattle.ips_contents.proofs.Copies.{kept_behind}
use Rattle.ips_contents.proofs.copying.copy.Goals as goal

pub returns-clause-any_moment : goal.returns-clause-any_moment
returns-clause-any_moment g c = λ told.
    kept_behind g.F.Source.outside g.met.F.Source.sane c.args.path.now.bytes c.args.from.now.bytes c.args.folder.now c.size_of.new.folder c.copy_sized.new.folder (IsErr c.size_of.result) c.size_of.ensures.reads
    (c.copy_sized.ensures.any_moment (c.size_of.ensures.reads.call.same_kind ∙ told))
