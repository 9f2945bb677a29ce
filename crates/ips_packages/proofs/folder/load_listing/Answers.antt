use Rattle.std.proofs.Common.{◌∙◌, sym}
use Rattle.ips_packages.proofs.Folders.{folder_held, folder_records, packages_told}
use Rattle.ips_packages.proofs.folder.load_listing.Goals as goal

pub returns-in-Ok-by_stem-clause-lawful : goal.returns-in-Ok-by_stem-clause-lawful
returns-in-Ok-by_stem-clause-lawful g c = packages_told c.load_children.new.packages.items c.by_stem.new.packages.items c.in-Ok-by_stem.ensures.moved c.in-Ok.ensures.lawful c.in-Ok-by_stem.ensures.order

pub returns-in-Ok-by_stem-clause-found : goal.returns-in-Ok-by_stem-clause-found
returns-in-Ok-by_stem-clause-found g c = λ told.
    let listing = c.requires.listing told in
    folder_held (g.F.Source.outside.state c.args.folder.now).held c.args.path.now.bytes c.args.listing.now.names c.load_children.new.packages.items c.by_stem.new.packages.items c.requires.path (c.requires.dir told)
    (sym listing.foreign ∙ c.if-listing.false) listing.children (c.in-Ok.ensures.places ∙ c.as_slice-children.ensures) c.in-Ok-by_stem.ensures.moved (c.in-Ok.ensures.found told)

pub returns-in-Ok-by_stem-clause-children : goal.returns-in-Ok-by_stem-clause-children
returns-in-Ok-by_stem-clause-children g c = λ told.
    let listing = c.requires.listing told in
    folder_records (g.F.Source.outside.state c.args.folder.now).held c.args.path.now.bytes c.args.listing.now.names c.load_children.new.packages.items c.requires.path (c.requires.dir told)
    (sym listing.foreign ∙ c.if-listing.false) listing.children
    (c.in-Ok.ensures.places ∙ c.as_slice-children.ensures) c.in-Ok.ensures.lawful (c.in-Ok.ensures.found told)
