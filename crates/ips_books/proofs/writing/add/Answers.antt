use Rattle.std.proofs.Common.{[], ◌∷◌, ◌++◌, ap, arith, ◌∙◌}
use Rattle.ips_books.specs.Lines.{AccountLine, last_ended}
use Rattle.ips_books.proofs.Ended.{ended_before}
use Rattle.ips_books.proofs.writing.add.Goals as goal

pub returns-then-count-gt0-clause-added : goal.returns-then-count-gt0-clause-added
returns-then-count-gt0-clause-added c =
    ended_before c.args.lines.now.items c.push.new.self.items c.new.result c.index_mut.result.now c.end.new.self c.len-count.result c.in_ok-push.ensures.items (omega (arith, c.len-count.ensures)) c.if-count-gt0.true c.index_mut.ensures.value c.end.ensures
    ∙ ap (λ (line : AccountLine). last_ended c.args.lines.now.items ++ line ∷ []) c.new.ensures
