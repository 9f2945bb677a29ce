use Rattle.std.proofs.Common.{◌≡◌, ℕ, ◌+◌, ◌++◌, ◌<◌, ◌∙◌, List, None, Option, ap, arith, flat_map, get_or, length, map, subst, take}
use Rattle.std.proofs.lemmas.List.{get_or_default, length-take-le}
use Rattle.ips_depend.specs.Dependency.{Dependency}
use Rattle.ips_request.specs.Stems.{stems_of, put_all}
use Rattle.ips_request.proofs.Lookups.{put_next}
use Rattle.ips_problem.specs.Gathered.{asked_at, tests_asked}
use Rattle.ips_problem.specs.Posed.{numbered}
use Rattle.ips_problem.specs.Reach.{stems_wanted}
use Rattle.ips_problem.specs.Seen.{seen_test}
use Rattle.ips_problem.proofs.Growth.{list_next, tests_asked_more}
use Rattle.ips_problem.proofs.growing.add_row.Goals as goal
use Rattle.ips_text.proofs.Lists.{take_item, flat_item}

pub loop-candidate-preserved : goal.loop-candidate-preserved
loop-candidate-preserved c =
    let reads = c.args.row.now.reads.items in
    let os = c.args.row.now.candidates.items in
    let i = c.loop-candidate.candidate in
    let same = c.deref-version-items.ensures.value in
    let l = subst (λ (os : List (Option ℕ)). i < length os) same c.loop-candidate-test.true in
    let o = get_or os i None in
    let at = get_or_default os i None o l in
    let wanted = c.asked.ensures ∙ ap (λ (os : List (Option ℕ)). asked_at reads (get_or os i None)) same in
    let stem = c.args.number in
    let now = map seen_test c.loop-candidate.tests.items in
    let cur = stems_of c.loop-candidate.stems.keys in
    let wants = λ (o : Option ℕ). stems_wanted (asked_at reads o) in
    let place : 0 + length (take i os) ≡ i = omega (arith, length-take-le i os (omega (arith, l))) in
    let more = ap (tests_asked stem 0 reads) (take_item os i o l at) ∙ tests_asked_more stem 0 reads (take i os) o ∙ ap (λ (n : ℕ). tests_asked stem 0 reads (take i os) ++ numbered stem n (asked_at reads o)) place in (
      list_next (map seen_test c.args.tests.now.items) now (map seen_test c.add_all.new.tests.items) (tests_asked stem 0 reads (take i os)) (numbered stem i (asked_at reads o)) (tests_asked stem 0 reads (take (i + 1) os))
          more c.loop-candidate.invariant.0 (c.in_ok-add_all.ensures.tests ∙ ap (λ (ds : List Dependency). now ++ numbered stem i ds) wanted),
      put_next (stems_of c.args.stems.now.keys) cur (stems_of c.add_all.new.stems.keys) (flat_map wants (take i os)) (wants o) (flat_map wants (take (i + 1) os))
          (flat_item wants os i o l at) c.loop-candidate.invariant.1 (c.in_ok-add_all.ensures.stems ∙ ap (λ (ds : List Dependency). put_all cur (stems_wanted ds)) wanted),
    )
