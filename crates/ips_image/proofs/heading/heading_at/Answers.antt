use Rattle.std.proofs.Common.{ℕ, List, sym, ◌∙◌, ap, subst}
use Rattle.ips_records.specs.Lines.{lines_in}
use Rattle.ips_records.proofs.Texts.{text_is}
use Rattle.ips_state.specs.Text.{head_lines}
use Rattle.ips_load.specs.HeadLines.{head_read}
use Rattle.ips_load.specs.Held.{Stands}
use Rattle.ips_image.proofs.heading.heading_at.Goals as goal

pub returns-in-Ok-clause-found : goal.returns-in-Ok-clause-found
returns-in-Ok-clause-found g c = λ told.
    let text = text_is c.in_ok-bytes.bytes.items (head_lines (head_read c.in-Ok.heading)) (ap lines_in (sym c.deref.ensures.value) ∙ c.in-Ok.ensures.lines) in
    subst (λ (bytes : List ℕ). Stands (g.F.Source.outside.state c.args.folder.now).held c.args.path.now.bytes bytes) text (c.in_ok-bytes.ensures.found told)
