use Rattle.std.proofs.Common.{◌≡◌, true, sym, ap, subst, ◌∙◌}
use Rattle.ips_outside.specs.Children.{path_bytes}
use Rattle.ips_outside.specs.Image.{Image, has_parent}
use Rattle.ips_create.proofs.Phases.{dirs_put, catalog_put, begun_at_last}
use Rattle.ips_create.proofs.making.lay.Goals as goal

pub write_safe-requires : goal.write_safe-requires
write_safe-requires g c = λ told_one.
    let told = sym c.make_directories.ensures.same_kind ∙ told_one in
    subst (λ (t : Image). has_parent t c.args.catalog.now.bytes ≡ true) (sym (c.in-Ok.ensures.done told)) (c.requires.parent told)

pub returns-in-Err-clause-any_moment : goal.returns-in-Err-clause-any_moment
returns-in-Err-clause-any_moment g c = λ told.
    dirs_put g.F.Source.outside c.args.catalog.now.bytes (path_bytes c.args.places.now) c.args.folder.now c.make_directories.new.folder (c.make_directories.ensures.any_moment told)

pub returns-in-Ok-write_safe-clause-others : goal.returns-in-Ok-write_safe-clause-others
returns-in-Ok-write_safe-clause-others g c = λ told q off.
    (c.write_safe.ensures.any_moment (c.make_directories.ensures.same_kind ∙ told)).now.agrees.look q off off ∙ ap (λ (t : Image). t.look q) (c.in-Ok.ensures.done told)

pub returns-in-Ok-write_safe-clause-any_moment : goal.returns-in-Ok-write_safe-clause-any_moment
returns-in-Ok-write_safe-clause-any_moment g c = λ told.
    let o = g.F.Source.outside in
    let catalog = c.args.catalog.now.bytes in
    let dirs = path_bytes c.args.places.now in
    catalog_put o catalog dirs c.args.folder.now c.make_directories.new.folder c.write_safe.new.folder
    (dirs_put o catalog dirs c.args.folder.now c.make_directories.new.folder (c.make_directories.ensures.any_moment told)) (c.write_safe.ensures.any_moment (c.make_directories.ensures.same_kind ∙ told))

pub returns-in-Ok-write_safe-clause-begun : goal.returns-in-Ok-write_safe-clause-begun
returns-in-Ok-write_safe-clause-begun g c =
    let o = g.F.Source.outside in
    begun_at_last (o.changes c.args.folder.now) (o.changes c.make_directories.new.folder) (o.changes c.write_safe.new.folder) c.make_directories.ensures.changes c.write_safe.ensures.made

pub returns-in-Err-write_safe-clause-any_moment : goal.returns-in-Err-write_safe-clause-any_moment
returns-in-Err-write_safe-clause-any_moment g c = λ told.
    let o = g.F.Source.outside in
    let catalog = c.args.catalog.now.bytes in
    let dirs = path_bytes c.args.places.now in
    catalog_put o catalog dirs c.args.folder.now c.make_directories.new.folder c.write_safe.new.folder
    (dirs_put o catalog dirs c.args.folder.now c.make_directories.new.folder (c.make_directories.ensures.any_moment told)) (c.write_safe.ensures.any_moment (c.make_directories.ensures.same_kind ∙ told))

pub returns-in-Err-write_safe-clause-begun : goal.returns-in-Err-write_safe-clause-begun
returns-in-Err-write_safe-clause-begun g c =
    let o = g.F.Source.outside in
    begun_at_last (o.changes c.args.folder.now) (o.changes c.make_directories.new.folder) (o.changes c.write_safe.new.folder) c.make_directories.ensures.changes c.write_safe.ensures.made
