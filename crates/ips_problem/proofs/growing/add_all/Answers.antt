use Rattle.std.proofs.Common.{◌+◌, ◌++◌, ◌∷◌, [], ◌∙◌, List, ap, map, take}
use Rattle.std.proofs.lemmas.List.{map_push}
use Rattle.ips_fmri.specs.declared.fmri.Fmri.{Fmri}
use Rattle.ips_depend.specs.Dependency.{Dependency, stems, wanted}
use Rattle.ips_request.specs.Stems.{stems_of, put_all}
use Rattle.ips_request.proofs.Lookups.{put_next}
use Rattle.ips_problem.specs.declared.rows.Numbered as declared
use Rattle.ips_problem.specs.Posed.{Numbered, numbered}
use Rattle.ips_problem.specs.Reach.{stems_wanted}
use Rattle.ips_problem.specs.Seen.{seen_test}
use Rattle.ips_problem.proofs.Growth.{list_next}
use Rattle.ips_problem.proofs.growing.add_all.Goals as goal
use Rattle.ips_text.proofs.Lists.{take_item, flat_item}

pub loop-dependency-preserved : goal.loop-dependency-preserved
loop-dependency-preserved c =
    let ds = c.args.dependencies.now in
    let i = c.loop-dependency.dependency-index in
    let d = c.dependency-item.result in
    let l = c.loop-dependency-test.true in
    let at = c.dependency-item.is in
    let stem = c.args.number in
    let candidate = c.args.candidate in
    let test : Dependency → Numbered = λ d. record { stem = stem; candidate = candidate; dependency = d } in
    let now = map seen_test c.loop-dependency.tests.items in
    let one : declared.Numbered = record { stem = stem; candidate = candidate; test = c.in_ok-test.test } in
    let added = ap (map seen_test) c.in_ok-push.ensures.items ∙ map_push seen_test c.loop-dependency.tests.items one ∙ ap (λ (d : Dependency). now ++ test d ∷ []) c.in_ok-test.ensures in
    let cur = stems_of c.loop-dependency.stems.keys in
    let wants = λ (d : Dependency). stems (wanted d) in (
      list_next (map seen_test c.args.tests.now.items) now (map seen_test c.push.new.self.items) (numbered stem candidate (take i ds)) (test d ∷ []) (numbered stem candidate (take (i + 1) ds))
          (ap (numbered stem candidate) (take_item ds i d l at) ∙ map_push test (take i ds) d) c.loop-dependency.invariant.0 added,
      put_next (stems_of c.args.stems.now.keys) cur (stems_of c.add_fmris.new.stems.keys) (stems_wanted (take i ds)) (wants d) (stems_wanted (take (i + 1) ds))
          (flat_item wants ds i d l at) c.loop-dependency.invariant.1 (c.in_ok-add_fmris.ensures ∙ ap (λ (fs : List Fmri). put_all cur (stems fs)) c.wanted.ensures),
    )
