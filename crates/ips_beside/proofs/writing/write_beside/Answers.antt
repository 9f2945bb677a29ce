use Rattle.std.proofs.Common.{◌≡◌, ◌∙◌, true, sym, subst}
use Rattle.ips_outside.specs.Children.{path_bytes}
use Rattle.ips_outside.specs.Image.{Image, has_parent}
use Rattle.ips_lay.specs.Lists.{names_of}
use Rattle.ips_ways.specs.Ways.{with_dirs}
use Rattle.ips_beside.proofs.Writes.{on_ok, stays_off, dirs_only, dirs_then}
use Rattle.ips_beside.proofs.writing.write_beside.Goals as goal

pub lay_safe-requires-clause-parents : goal.lay_safe-requires-clause-parents
lay_safe-requires-clause-parents g c = λ told_now n x at.
    let told = sym c.make_directories.ensures.same_kind ∙ told_now in
    subst (λ (t : Image). has_parent t x.place.bytes ≡ true) (sym (c.in-Ok.ensures.done told)) (c.requires.parents told n x at)

pub returns-in-Err-clause-beside : goal.returns-in-Err-clause-beside
returns-in-Err-clause-beside g c = λ told.
    dirs_only g.F.Source.outside c.args.publisher.now (names_of c.args.contents.now) (path_bytes c.args.ways.now) c.args.target.now c.make_directories.new.folder (c.make_directories.ensures.any_moment told)

pub returns-clause-beside : goal.returns-clause-beside
returns-clause-beside g c = λ told.
    dirs_then g.F.Source.outside c.args.publisher.now (names_of c.args.contents.now) (path_bytes c.args.ways.now) c.args.target.now c.make_directories.new.folder c.lay_safe.new.target (c.make_directories.ensures.any_moment told)
    (c.lay_safe.ensures.beside (c.make_directories.ensures.same_kind ∙ told))

pub returns-clause-stays : goal.returns-clause-stays
returns-clause-stays g c = λ told.
    on_ok c.lay_safe.result
    (stays_off g.F.Source.outside c.args.publisher.now (names_of c.args.contents.now) (with_dirs (path_bytes c.args.ways.now) (g.F.Source.outside.state c.args.target.now).held) c.make_directories.new.folder c.lay_safe.new.target
    (c.in-Ok.ensures.done told) (c.lay_safe.ensures.beside (c.make_directories.ensures.same_kind ∙ told)))
