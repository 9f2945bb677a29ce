use Rattle.std.proofs.Common.{◌≡◌, ◌+◌, ◌-◌, ℕ, List, take, drop, None, length, length-drop, sym, subst, arith}
use Rattle.std.proofs.lemmas.List.{take_all}
use Rattle.ips_text.specs.Ancestry.{parent}
use Rattle.ips_text.specs.Path.{IsPath}
use Rattle.ips_text.proofs.Ancestry.{parent_length}
use Rattle.ips_rehearse.proofs.Paths.{name_is}
use Rattle.ips_rehearse.proofs.asking.last_part.Goals as goal

pub slice_bounds-result-count : goal.slice_bounds-result-count
slice_bounds-result-count c = let less = parent_length c.args.path.now c.in-Some.dir.now c.in-Some.ensures.some in omega (arith, less)

pub slice_bounds-result-start : goal.slice_bounds-result-start
slice_bounds-result-start c = let less = parent_length c.args.path.now c.in-Some.dir.now c.in-Some.ensures.some in omega (arith, less)

pub returns-in-Some-clause-name : goal.returns-in-Some-clause-name
returns-in-Some-clause-name c =
    let p = c.args.path.now in
    let front = length c.in-Some.dir.now + 1 in
    let all : take (length p - front) (drop front p) ≡ drop front p = take_all (length p - front) (drop front p) (omega (arith, length-drop front p)) in
    subst (λ (l : List ℕ). IsPath l × (parent l ≡ None)) (sym all) (name_is p c.in-Some.dir.now c.in-Some.ensures.some c.requires)
