use Rattle.std.proofs.Common.{◌∙◌, ◌+◌, ◌-◌, ◌/◌, ◌<◌, ◌≤◌, List, ℕ, length, sym, ap, arith}
use Rattle.std.specs.Ordering.{nat_cmp}
use Rattle.std.specs.Cmp.Lexicographic.{slice_cmp}
use Rattle.ips_change.proofs.survey.Placed.{between_all, between_less, between_more, path_at, found_equal, found_none}
use Rattle.ips_change.proofs.survey.placing.place.Goals as goal

pub loop-low-init : goal.loop-low-init
loop-low-init c = between_all c.args.rows.now c.args.path.now

pub loop-low-preserved-in-Less : goal.loop-low-preserved-in-Less
loop-low-preserved-in-Less c =
    let rows = c.args.rows.now in
    let path = c.args.path.now in
    let middle = c.loop-low.low + (c.loop-low.high - c.loop-low.low) / 2 in
    let lt : middle < c.loop-low.high = omega arith in
    let within : middle < length rows = omega (arith, c.loop-low.invariant.within) in
    between_less rows path c.loop-low.low c.loop-low.high middle c.requires c.loop-low.invariant lt
    (ap (λ (p : List ℕ). slice_cmp nat_cmp p path) (path_at rows middle c.index-rows-middle.result within c.index-rows-middle.is) ∙ sym c.compare.ensures ∙ c.in-Less.is)

pub returns-in-Equal-clause-some : goal.returns-in-Equal-clause-some
returns-in-Equal-clause-some c =
    let rows = c.args.rows.now in
    let path = c.args.path.now in
    let middle = c.loop-low.low + (c.loop-low.high - c.loop-low.low) / 2 in
    let lt : middle < c.loop-low.high = omega arith in
    let within : middle < length rows = omega (arith, c.loop-low.invariant.within) in
    found_equal rows path middle within
    (ap (λ (p : List ℕ). slice_cmp nat_cmp p path) (path_at rows middle c.index-rows-middle.result within c.index-rows-middle.is) ∙ sym c.compare.ensures ∙ c.in-Equal.is)

pub loop-low-preserved : goal.loop-low-preserved
loop-low-preserved c =
    let rows = c.args.rows.now in
    let path = c.args.path.now in
    let middle = c.loop-low.low + (c.loop-low.high - c.loop-low.low) / 2 in
    let lt : middle < c.loop-low.high = omega arith in
    let le : c.loop-low.low ≤ middle = omega arith in
    let within : middle < length rows = omega (arith, c.loop-low.invariant.within) in
    between_more rows path c.loop-low.low c.loop-low.high middle c.requires c.loop-low.invariant le lt
    (ap (λ (p : List ℕ). slice_cmp nat_cmp p path) (path_at rows middle c.index-rows-middle.result within c.index-rows-middle.is) ∙ sym c.compare.ensures ∙ c.in-Greater.is)

pub returns-clause-none : goal.returns-clause-none
returns-clause-none c = found_none c.args.rows.now c.args.path.now c.loop-low.low c.loop-low.high c.loop-low.invariant (omega (arith, c.loop-low-test.false))
