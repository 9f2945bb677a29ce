use Rattle.std.proofs.Common.{◌∷◌, ◌++◌, [], List, Option, Some, slice_get, sym, ◌∙◌, ap, arith}
use Rattle.ips_fmri.specs.Version.{Parts}
use Rattle.ips_problem.specs.Held.{posed_of}
use Rattle.ips_next.specs.Tried.{offered_in}
use Rattle.ips_next.proofs.Fronts.{front_more, candidate_there}
use Rattle.ips_next.proofs.tried.tried_of.Goals as goal

pub loop-candidate-preserved : goal.loop-candidate-preserved
loop-candidate-preserved c =
    let row = slice_get (posed_of c.args.problem.now).rows c.args.stem in
    let k = c.loop-candidate.candidate in
    let there = candidate_there row k (omega (arith, c.candidates-candidate-end.ensures)) in
    let version = c.in_ok-version.ensures ∙ c.version.ensures in
    c.in_ok-push.ensures.items
    ∙ ap (λ (l : List (Option Parts)). l ++ c.in_ok-version.version ∷ []) c.loop-candidate.invariant
    ∙ sym (front_more (offered_in row) k c.in_ok-version.version (there ∙ ap (λ (o : Option Parts). Some o) (sym version)))
