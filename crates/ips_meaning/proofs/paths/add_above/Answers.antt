use Rattle.std.proofs.Common.{◌∙◌, sym, subst, refl, Option, Bor, List, ℕ, ◌<◌}
use Rattle.ips_meaning.specs.Places.{has_path}
use Rattle.ips_conflict.proofs.Marked.{MarkingTo, height, marking_begins, marking_goes_on, marks_end, height_falls}
use Rattle.ips_meaning.proofs.paths.add_above.Goals as goal

pub loop-at-init : goal.loop-at-init
loop-at-init c = (marking_begins (has_path c.args.paths.now) c.args.path.now c.parent-at.result (c.parent-at.ensures.none, c.parent-at.ensures.some), λ p. refl)

pub loop-at-preserved : goal.loop-at-preserved
loop-at-preserved c =
    let P : Option (Bor (List ℕ)) → Type 0 = λ o. MarkingTo (has_path c.args.paths.now) (has_path c.loop-at.paths) c.args.path.now o in (
      marking_goes_on (has_path c.args.paths.now) (has_path c.loop-at.paths) (has_path c.add_one.new.paths) c.args.path.now c.in-Some.dir c.parent-at-in-Some.result (subst P c.in-Some.is c.loop-at.invariant.0)
          (c.parent-at-in-Some.ensures.none, c.parent-at-in-Some.ensures.some) c.in_ok-add_one.ensures.paths,
      λ p. c.in_ok-add_one.ensures.places p ∙ c.loop-at.invariant.1 p,
    )

pub loop-at-smaller : goal.loop-at-smaller
loop-at-smaller c =
    let P : Option (Bor (List ℕ)) → Type 0 = λ o. height c.parent-at-in-Some.result < height o in
    subst P (sym c.in-Some.is) (height_falls c.in-Some.dir c.parent-at-in-Some.result (c.parent-at-in-Some.ensures.none, c.parent-at-in-Some.ensures.some))

pub returns-clause-paths : goal.returns-clause-paths
returns-clause-paths c = λ p.
    let P : Option (Bor (List ℕ)) → Type 0 = λ o. MarkingTo (has_path c.args.paths.now) (has_path c.loop-at.paths) c.args.path.now o in
    marks_end (has_path c.args.paths.now) (has_path c.loop-at.paths) c.args.path.now p (subst P c.in_default.is c.loop-at.invariant.0).marks

pub returns-clause-places : goal.returns-clause-places
returns-clause-places c = c.loop-at.invariant.1
