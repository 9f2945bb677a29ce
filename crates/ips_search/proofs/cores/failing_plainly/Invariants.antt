use Rattle.std.proofs.Common.{◌≡◌, ℕ, ◌<◌, ◌∷◌, false}
use Rattle.ips_search.proofs.cores.failing_plainly.Given as goal

abbrev pub invariant-loop-test : goal.invariant-loop-test
invariant-loop-test g l = let m = g.P.Puzzle.meaning l.puzzle in (t : ℕ) → t < l.test → m.last t ≡ l.more.stem → m.breaks t (l.more ∷ l.chosen) ≡ false
