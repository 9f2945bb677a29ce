use Rattle.std.proofs.Common.{ℕ, List, map, sym, ◌∙◌, ap, subst}
use Rattle.ips_records.specs.Lines.{lines_in}
use Rattle.ips_records.proofs.Texts.{text_is}
use Rattle.ips_load.specs.Held.{Stands}
use Rattle.ips_load.proofs.files.load_list.Goals as goal

pub returns-in-Ok-clause-found : goal.returns-in-Ok-clause-found
returns-in-Ok-clause-found g c = λ told.
    let lines = ap lines_in (sym c.deref.ensures.value) ∙ c.in-Ok.ensures.lines in
    let text = text_is c.in_ok-bytes.bytes.items (map g.L.Listing.line c.in-Ok.items.items) lines in
    subst (λ (bytes : List ℕ). Stands (g.F.Source.outside.state c.args.folder.now).held c.args.path.now.bytes bytes) text (c.in_ok-bytes.ensures.found told)
