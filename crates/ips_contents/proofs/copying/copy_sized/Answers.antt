use Rattle.std.proofs.Common.{IsErr}
use Rattle.ips_outside.proofs.Reading.{answered}
use Rattle.ips_contents.proofs.Copies.{kept_writing, copied_more}
use Rattle.ips_contents.proofs.copying.copy_sized.Goals as goal

pub returns-in_err-append-clause-any_moment : goal.returns-in_err-append-clause-any_moment
returns-in_err-append-clause-any_moment g c =
    kept_writing g.F.Source.outside g.met.F.Source.sane c.args.path.now.bytes c.args.from.now.bytes c.requires.apart c.args.folder.now c.loop-at.folder c.loop-at.at c.loop-at.invariant.1
    c.read_part.new.folder (IsErr c.read_part.result) c.read_part.ensures.reads c.append.new.self _ c.append.result c.append.ensures

pub loop-at-preserved : goal.loop-at-preserved
loop-at-preserved g c = (
  c.in_ok-count.ensures.within,
  copied_more g.F.Source.outside g.met.F.Source.sane c.args.path.now.bytes c.args.from.now.bytes c.requires.apart c.args.folder.now c.loop-at.folder c.loop-at.at c.loop-at.invariant.1
      c.read_part.new.folder (IsErr c.read_part.result) c.read_part.ensures.reads (answered c.read_part.result _ c.in_ok-count.was) c.read_part.new.buffer c.in_ok-count.count c.in_ok-count.ensures.found
      c.append.new.self c.append.result _ c.in_ok-append.was c.append.ensures c.in_ok-append.ensures.done,
)
