use Rattle.std.proofs.Common.{sym, subst, Option, Bor, List, ℕ, ◌<◌}
use Rattle.ips_conflict.specs.Index.{has_path}
use Rattle.ips_conflict.proofs.Marked.{MarkingTo, height, marking_begins, marking_goes_on, marks_end, height_falls}
use Rattle.ips_due.proofs.outstanding.marking.mark_above.Goals as goal

pub loop-at-init : goal.loop-at-init
loop-at-init c = marking_begins (has_path c.args.keys.now) c.args.path.now c.parent-at.result (c.parent-at.ensures.none, c.parent-at.ensures.some)

pub loop-at-preserved : goal.loop-at-preserved
loop-at-preserved c =
    let P : Option (Bor (List ℕ)) → Type 0 = λ o. MarkingTo (has_path c.args.keys.now) (has_path c.loop-at.keys) c.args.path.now o in
    marking_goes_on (has_path c.args.keys.now) (has_path c.loop-at.keys) (has_path c.add.new.keys) c.args.path.now c.in-Some.dir c.parent-at-in-Some.result (subst P c.in-Some.is c.loop-at.invariant)
    (c.parent-at-in-Some.ensures.none, c.parent-at-in-Some.ensures.some) c.in_ok-add.ensures.paths

pub loop-at-smaller : goal.loop-at-smaller
loop-at-smaller c =
    let P : Option (Bor (List ℕ)) → Type 0 = λ o. height c.parent-at-in-Some.result < height o in
    subst P (sym c.in-Some.is) (height_falls c.in-Some.dir c.parent-at-in-Some.result (c.parent-at-in-Some.ensures.none, c.parent-at-in-Some.ensures.some))

pub returns : goal.returns
returns c = λ p.
    let P : Option (Bor (List ℕ)) → Type 0 = λ o. MarkingTo (has_path c.args.keys.now) (has_path c.loop-at.keys) c.args.path.now o in
    marks_end (has_path c.args.keys.now) (has_path c.loop-at.keys) c.args.path.now p (subst P c.in_default.is c.loop-at.invariant).marks
