use Rattle.std.proofs.Common.{◌≤◌, List, ℕ, length, sym, ap, ◌∙◌, subst, drop}
use Rattle.ips_journal.proofs.LinePieces.{skipped}
use Rattle.ips_journal.proofs.ahead.Ahead.skip.Goals as goal

pub returns : goal.returns
returns c =
    skipped c.self.inside.buffer.items c.self.inside.start c.self.inside.end c.args.count (subst (λ (l : List ℕ). c.args.count ≤ length l) (sym c.self.view_is) c.requires)
    ∙ ap (drop c.args.count) c.self.view_is
