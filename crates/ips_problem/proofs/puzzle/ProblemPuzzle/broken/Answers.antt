use Rattle.std.proofs.Common.{◌∷◌, ◌∙◌, ℕ, List, Option, not, option_to_list, sym, ap}
use Rattle.std.specs.List.{list_all}
use Rattle.ips_depend.specs.Holds.{holds}
use Rattle.ips_problem.specs.declared.rows.Row.{Row}
use Rattle.ips_problem.specs.Posed.{decides, picked, before, spared}
use Rattle.ips_problem.specs.Seen.{puzzle_of}
use Rattle.ips_problem.proofs.Answering.{broken_told, mentioned_at, unbroken_undecided}
use Rattle.ips_problem.proofs.puzzle.ProblemPuzzle.broken.Goals as goal

pub returns-then-not-decides_all : goal.returns-then-not-decides_all
returns-then-not-decides_all c =
    let set = c.args.more ∷ c.args.set.now in
    unbroken_undecided c.args.self.now c.args.test c.index-numbered.result.now c.index.result.now set c.requires.known c.index-numbered.ensures c.index.ensures
    (ap (list_all (λ (o : Option ℕ). decides set (option_to_list o))) (sym c.as_slice-mentioned.ensures.value) ∙ sym c.decides_all.ensures ∙ c.if-not-decides_all.true)

pub fails-requires-clause-numbered : goal.fails-requires-clause-numbered
fails-requires-clause-numbered c =
    c.as_slice-mentioned.ensures.value ∙ mentioned_at c.args.self.now c.args.test c.index-numbered.result.now c.index.result.now c.requires.known c.index-numbered.ensures c.index.ensures

pub returns : goal.returns
returns c =
    let set = c.args.more ∷ c.args.set.now in
    let keys = c.args.self.now.stems.keys in
    let n = c.index-numbered.result.now in
    broken_told c.args.self.now c.args.test n c.index.result.now set c.fails.result c.requires.known c.index-numbered.ensures c.index.ensures
    (sym c.is_chosen.ensures ∙ c.if-not-is_chosen.false)
    (ap (list_all (λ (o : Option ℕ). decides set (option_to_list o))) (sym c.as_slice-mentioned.ensures.value) ∙ sym c.decides_all.ensures ∙ c.if-not-decides_all.false)
    (c.fails.ensures ∙ ap (λ (rows : List Row). not (holds (picked (puzzle_of keys rows) set) (before (puzzle_of keys rows)) (spared (puzzle_of keys rows)) n.test)) c.deref.ensures.value)
