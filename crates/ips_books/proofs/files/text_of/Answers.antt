use Rattle.std.proofs.Common.{List, ℕ, ◌++◌, sym, ap, ◌∙◌}
use Rattle.ips_text.proofs.Lists.{flat_item}
use Rattle.ips_books.specs.Lines.{line_bytes}
use Rattle.ips_books.proofs.files.text_of.Goals as goal

pub loop-line-preserved : goal.loop-line-preserved
loop-line-preserved c =
    c.in_ok-push_line.ensures ∙ ap (λ (t : List ℕ). t ++ line_bytes c.line-item.result) c.loop-line.invariant
    ∙ sym (flat_item line_bytes c.args.lines.now c.loop-line.line-index c.line-item.result c.loop-line-test.true c.line-item.is)
