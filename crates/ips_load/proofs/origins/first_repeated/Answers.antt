use Rattle.std.proofs.Common.{◌≡◌, ◌<◌, List, ℕ, false, true, not, sym, ◌∙◌, ap, subst, arith, length, rules}
use Rattle.std.specs.Ordering.{nat_cmp}
use Rattle.std.specs.Cmp.Lexicographic.{slice_cmp}
use Rattle.std.specs.BTreeSet.{contains, Updates}
use Rattle.ips_state.specs.declared.state.Origin.{Origin}
use Rattle.ips_load.proofs.OriginsDiffer.{seen_next, seen_again}
use Rattle.ips_load.proofs.origins.first_repeated.Goals as goal

pub returns-then-not-branch-clause-some : goal.returns-then-not-branch-clause-some
returns-then-not-branch-clause-some c =
    let key : c.in_ok-copy.field-0 ≡ c.index-origins-place.result.name = c.in_ok-copy.ensures ∙ ap (λ (o : Origin). o.name) (sym c.index-origins-place.is) in
    let added = subst (λ (key : List ℕ). c.in_ok-insert.field-0 ≡ not (contains (slice_cmp nat_cmp) c.loop-place.names key)) key c.in_ok-insert.ensures.added in
    let lt : c.loop-place.place < length c.args.origins.now = search rules in
    seen_again c.args.format c.args.origins.now c.loop-place.place c.index-origins-place.result c.loop-place.names c.in_ok-insert.field-0 lt c.index-origins-place.is c.requires.each c.requires.none c.loop-place.invariant added c.if-not-branch.true

pub loop-place-preserved : goal.loop-place-preserved
loop-place-preserved c =
    let key : c.in_ok-copy.field-0 ≡ c.index-origins-place.result.name = c.in_ok-copy.ensures ∙ ap (λ (o : Origin). o.name) (sym c.index-origins-place.is) in
    let added = subst (λ (key : List ℕ). c.in_ok-insert.field-0 ≡ not (contains (slice_cmp nat_cmp) c.loop-place.names key)) key c.in_ok-insert.ensures.added in
    let updates = subst (λ (key : List ℕ). Updates (slice_cmp nat_cmp) c.loop-place.names c.insert.new.self key true) key c.in_ok-insert.ensures.updates in
    let lt : c.loop-place.place < length c.args.origins.now = search rules in
    seen_next c.args.origins.now c.loop-place.place c.index-origins-place.result c.loop-place.names c.insert.new.self c.in_ok-insert.field-0 lt c.index-origins-place.is c.loop-place.invariant updates added c.if-not-branch.false
