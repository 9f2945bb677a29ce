use Rattle.std.proofs.Common.{◌∙◌, ◌<◌, ◌≤◌, Option, Bor, List, ℕ, Some, length, sym, ap, subst, cond, arith}
use Rattle.std.specs.Prelude.{IfSome, option_map}
use Rattle.ips_text.specs.Path.{IsPath}
use Rattle.ips_action.specs.Attrs.{is_same}
use Rattle.ips_conflict.proofs.Places.{at_index}
use Rattle.ips_meaning.specs.Places.{first_of, has_path}
use Rattle.ips_meaning.proofs.Added.{WantedTo, added, wanted_none, wanted_holds, wanted_more, wanted_same, wanted_done}
use Rattle.ips_meaning.proofs.Counted.{PathsTo, paths_none, paths_more, paths_same, paths_done, paths_within}
use Rattle.ips_meaning.proofs.paths.paths.Goals as goal
use Rattle.ips_meaning.proofs.paths.paths.Goals.{in-Some+in_ok-add_above+in_ok-count, in_default}

pub loop-i-init : goal.loop-i-init
loop-i-init c = (
  wanted_none c.args.kept.now c.in_ok-paths.paths c.in_ok-paths.ensures.paths c.in_ok-paths.ensures.proper,
  paths_none c.args.kept.now c.in_ok-paths.paths c.in_ok-paths.ensures.places,
)

pub add_above-requires : goal.add_above-requires
add_above-requires c = wanted_holds c.args.kept.now c.loop-i.i c.loop-i.paths c.loop-i.invariant.0

pub count-requires-clause-counted : goal.count-requires-clause-counted
count-requires-clause-counted c =
    let path = c.as_bytes-path.result.now in
    let within : c.loop-i.i ≤ length c.args.kept.now = omega (arith, c.loop-i-test.true) in
    subst (λ (o : Option ℕ). IfSome o (λ j. j < length c.args.kept.now)) (sym (c.in_ok-add_above.ensures.places path)) (paths_within c.args.kept.now c.loop-i.i (length c.args.kept.now) c.loop-i.paths path within c.loop-i.invariant.1)

pub loop-i-preserved : goal.loop-i-preserved
loop-i-preserved c =
    let kept = c.args.kept.now in
    let i = c.loop-i.i in
    let item = c.index-kept-i.result in
    let here = at_index kept i item c.loop-i-test.true c.index-kept-i.is in
    let text : Option (Bor (List ℕ)) → Option (List ℕ) = option_map (λ b. b.now) in
    elim c.match-path_of.branch [
      | in-Some+in_ok-add_above+in_ok-count w ↦
          let path = w.as_bytes-path.result.now in
          let same = w.as_bytes-path.ensures.value in
          let gives = sym c.path_of.ensures.path ∙ ap text w.in-Some.is ∙ ap (λ (x : List ℕ). Some x) (sym same) in
          let proper = subst (λ (o : Option (Bor (List ℕ))). IfSome o (λ b. IsPath b.now)) w.in-Some.is c.path_of.ensures.proper in (
            subst (WantedTo kept _) (sym w.paths-is)
                (wanted_more kept i item path c.loop-i.paths w.count.new.paths here gives (subst IsPath (sym same) proper) c.loop-i.invariant.0
                (λ p. added path p (has_path c.loop-i.paths p) (has_path w.add_above.new.paths p) (has_path w.count.new.paths p) (w.in_ok-add_above.ensures.paths p) (w.in_ok-count.ensures.paths p))),
            subst (PathsTo kept _) (sym w.paths-is)
                (paths_more kept i item path c.loop-i.paths w.count.new.paths here gives c.loop-i.invariant.1
                (λ q. w.in_ok-count.ensures.places q ∙ ap (λ (o : Option ℕ). cond (is_same q path) (Some (first_of kept o i)) o) (w.in_ok-add_above.ensures.places q))),
          )
      | in_default w ↦
          let gives = sym c.path_of.ensures.path ∙ ap text w.in_default.is in
          (subst (WantedTo kept _) (sym w.paths-is) (wanted_same kept i item c.loop-i.paths here gives c.loop-i.invariant.0), subst (PathsTo kept _) (sym w.paths-is) (paths_same kept i item c.loop-i.paths here gives c.loop-i.invariant.1))
    ]

pub returns-clause-wanted : goal.returns-clause-wanted
returns-clause-wanted c = wanted_done c.args.kept.now c.loop-i.i c.loop-i.paths c.loop-i-test.false c.loop-i.invariant.0

pub returns-clause-leading : goal.returns-clause-leading
returns-clause-leading c = paths_done c.args.kept.now c.loop-i.i c.loop-i.paths c.loop-i-test.false c.loop-i.invariant.1
