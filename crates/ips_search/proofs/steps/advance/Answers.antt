use Rattle.std.proofs.Common.{◌≡◌, ap, ◌∙◌, ◌∷◌, ◌++◌, [], length, arith}
use Rattle.ips_refute.proofs.Choices.{pair}
use Rattle.ips_search.specs.declared.state.Level.{Level}
use Rattle.ips_search.specs.Searching.{next_pair}
use Rattle.ips_search.proofs.Walks.{advanced, first_as}
use Rattle.ips_search.proofs.steps.advance.Goals as goal

pub returns : goal.returns
returns g c =
    let m = g.P.Puzzle.meaning c.args.puzzle.now in
    let s = c.args.state.now in
    let stem : c.len-stem.result ≡ length s.choice.items = omega (arith, c.len-stem.ensures, s.choice.ok.0) in
    let last : c.len-candidate.result ≡ length s.top.reasons.items = omega (arith, c.len-candidate.ensures, s.top.reasons.ok.0) in
    let pushed : c.push-2.new.self.items ≡ s.pairs.items ++ next_pair s ∷ [] =
    c.in_ok-push-2.ensures.items ∙ ap (λ k. s.pairs.items ++ pair k c.len-candidate.result ∷ []) stem ∙ ap (λ k. s.pairs.items ++ pair (length s.choice.items) k ∷ []) last in
    advanced m c.args.state.now c.push.new.self c.push-2.new.self c.push-3.new.self c.replace-level.new.dest c.requires.searching c.requires.room c.requires.begins
    (c.in_ok-push.ensures.items ∙ ap (λ k. s.choice.items ++ k ∷ []) last)
    pushed
    (c.in_ok-push-3.ensures.items ∙ ap (λ (l : Level). s.levels.items ++ l ∷ []) c.replace-level.ensures.value)
    (first_as m s c.push-2.new.self.items c.deref.result.now c.in_ok-set.set.items c.replace-level.new.dest.set.items c.requires.searching pushed c.deref.ensures.value (ap (λ (l : Level). l.set.items) c.replace-level.ensures.after) c.in_ok-set.ensures)
    (ap (λ (l : Level). l.reasons.items) c.replace-level.ensures.after ∙ c.new.ensures.items)
