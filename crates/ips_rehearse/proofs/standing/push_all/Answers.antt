use Rattle.std.proofs.Common.{◌≡◌, ⊎_elim, ℕ, ◌||◌, List, sym, ◌∙◌, ap, arith}
use Rattle.std.proofs.lemmas.Bool.{or_cases, or_left, or_right}
use Rattle.std.proofs.lemmas.List.{take_all}
use Rattle.ips_text.specs.Ancestry.{covers}
use Rattle.ips_text.specs.Kept.{Kept}
use Rattle.ips_rehearse.specs.Going.{is_under}
use Rattle.ips_rehearse.proofs.Going.{under_more, under_next}
use Rattle.ips_rehearse.proofs.standing.push_all.Goals as goal

pub loop-path-init : goal.loop-path-init
loop-path-init c = record { left = λ d is. is; paths = λ d is. cc }

pub loop-path-preserved : goal.loop-path-preserved
loop-path-preserved c =
    let inv = c.loop-path.invariant in
    let pushed : (d : List ℕ) → is_under c.push.new.self.items d ≡ (is_under c.loop-path.left.items d || covers c.in_ok-copy.copy.bytes d) =
    (λ d. ap (λ (l : List Kept). is_under l d) c.in_ok-push.ensures.items ∙ under_more c.loop-path.left.items c.in_ok-copy.copy d) in
    record {
      left = λ d is. pushed d ∙ or_left (is_under c.loop-path.left.items d) (covers c.in_ok-copy.copy.bytes d) (inv.left d is);
      paths = λ d is. pushed d ∙ ⊎_elim
          (λ here. or_right (is_under c.loop-path.left.items d) (covers c.in_ok-copy.copy.bytes d) (ap (λ (p : List ℕ). covers p d) c.in_ok-copy.ensures.same ∙ here))
          (λ before. or_left (is_under c.loop-path.left.items d) (covers c.in_ok-copy.copy.bytes d) (inv.paths d before))
          (or_cases _ _ (sym (under_next c.args.paths.now c.loop-path.path-index c.path-item.result d c.loop-path-test.true c.path-item.is) ∙ is));
    }

pub returns-clause-left : goal.returns-clause-left
returns-clause-left c = λ d is. c.loop-path.invariant.left d is

pub returns-clause-paths : goal.returns-clause-paths
returns-clause-paths c = λ d is.
    c.loop-path.invariant.paths d (ap (λ (l : List Kept). is_under l d) (take_all c.loop-path.path-index c.args.paths.now (omega (arith, c.loop-path-test.false))) ∙ is)
