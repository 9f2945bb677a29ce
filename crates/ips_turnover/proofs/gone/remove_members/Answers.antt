use Rattle.std.proofs.Common.{◌≡◌, get_or, set, ap, ◌∙◌}
use Rattle.std.proofs.lemmas.List.Edits.{map_over_more}
use Rattle.ips_books.specs.Lines.{AccountLine}
use Rattle.ips_turnover.specs.Seen.{has_gone}
use Rattle.ips_turnover.specs.Turnover.{left_by}
use Rattle.ips_turnover.proofs.gone.remove_members.Goals as goal

pub loop-i-preserved : goal.loop-i-preserved
loop-i-preserved c =
    let lines = c.loop-i.lines in
    let i = c.loop-i.i in
    let line = get_or lines i c.index-lines-i.result in
    let at : line ≡ get_or lines i line = ap (λ (d : AccountLine). get_or lines i d) c.index-lines-i.is in
    c.replace.ensures line at ∙ ap (set lines i) c.in_ok-next.ensures
    ∙ map_over_more (left_by (has_gone c.args.gone.now)) c.args.lines.now lines i line c.loop-i-test.true c.loop-i.invariant at
