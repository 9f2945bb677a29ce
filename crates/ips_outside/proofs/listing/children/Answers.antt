use Rattle.std.proofs.Common.{◌≡◌, ℕ, ◌++◌, ◌∷◌, [], true, false, List, Some, sym, ◌∙◌, ap, subst, arith}
use Rattle.ips_text.specs.Kept.{Kept}
use Rattle.ips_text.specs.Ancestry.{same_path, parent}
use Rattle.ips_text.proofs.Ancestry.{same_path-true, covers_length, covers_short}
use Rattle.ips_outside.specs.Order.{comes_after, front_below}
use Rattle.ips_outside.specs.Children.{path_bytes}
use Rattle.ips_outside.proofs.Rooms.{path_fits}
use Rattle.ips_outside.proofs.Children.{IsGoing, going_first, going_found, going_past, going_last, fewer_left, zero_past, past_below, bytes_more, apart_from}
use Rattle.ips_outside.proofs.listing.children.Goals as goal

pub loop-next-init : goal.loop-next-init
loop-next-init c = record {
  going = subst (λ (from : List ℕ). IsGoing c.args.paths.now.entries c.args.dir.now from (path_bytes c.new-found.result.items)) (sym c.write_behind.ensures.written)
      (subst (λ (paths : List Kept). IsGoing c.args.paths.now.entries c.args.dir.now (front_below c.args.dir.now) (path_bytes paths)) (sym c.new-found.ensures.items) (going_first c.args.paths.now.entries c.args.dir.now));
  room = omega (arith, c.in_ok-from.ensures, c.write_behind.ensures.grows);
}

pub write_behind-requires-then-child-next : goal.write_behind-requires-then-child-next
write_behind-requires-then-child-next c = omega (arith, path_fits c.in-Some.next.now (c.requires.paths c.in-Some.next.now c.in-Some.ensures.first.stands), c.loop-next.invariant.room)

pub loop-next-smaller-then-child-next : goal.loop-next-smaller-then-child-next
loop-next-smaller-then-child-next c =
    let next = c.in-Some.next.now in
    fewer_left c.args.paths.now.entries c.args.dir.now c.loop-next.from.items next c.write_behind-then-child-next.new.spare.items c.in-Some.ensures
    (subst (λ (x : List ℕ). comes_after x next ≡ true) (sym c.write_behind-then-child-next.ensures.written) (zero_past next))

pub loop-next-preserved-then-child-next : goal.loop-next-preserved-then-child-next
loop-next-preserved-then-child-next c =
    let table = c.args.paths.now.entries in
    let dir = c.args.dir.now in
    let next = c.in-Some.next.now in
    let child = c.child_above-child.result.now in
    let one : child ≡ next = same_path-true child next (covers_short child next c.child_above-child.ensures.above (omega (arith, c.if-child-next.true))) in
    let up : parent next ≡ Some dir = ap parent (sym one) ∙ c.child_above-child.ensures.child in
    let more : path_bytes c.push.new.self.items ≡ path_bytes c.loop-next.found.items ++ next ∷ [] = ap path_bytes c.in_ok-push.ensures.items ∙ bytes_more c.loop-next.found.items c.in_ok-copied.field-0 next c.in_ok-copied.ensures in
    record {
      going = subst (λ (from : List ℕ). IsGoing table dir from (path_bytes c.push.new.self.items)) (sym c.write_behind-then-child-next.ensures.written)
          (subst (IsGoing table dir (next ++ 0 ∷ [])) (sym more) (going_found table dir c.loop-next.from.items next (path_bytes c.loop-next.found.items) c.in-Some.ensures up c.loop-next.invariant.going));
      room = omega (arith, c.loop-next.invariant.room, c.write_behind-then-child-next.ensures.grows);
    }

pub write_behind-requires-else-child-next : goal.write_behind-requires-else-child-next
write_behind-requires-else-child-next c =
    let next = c.in-Some.next.now in
    let child = c.child_above-child.result.now in
    omega (arith, path_fits next (c.requires.paths next c.in-Some.ensures.first.stands), covers_length child next c.child_above-child.ensures.above, c.loop-next.invariant.room)

pub loop-next-smaller : goal.loop-next-smaller
loop-next-smaller c =
    let next = c.in-Some.next.now in
    let child = c.child_above-child.result.now in
    let apart : same_path child next ≡ false = apart_from child next c.if-child-next.false in
    fewer_left c.args.paths.now.entries c.args.dir.now c.loop-next.from.items next c.write_behind-else-child-next.new.spare.items c.in-Some.ensures
    (subst (λ (x : List ℕ). comes_after x next ≡ true) (sym c.write_behind-else-child-next.ensures.written) (past_below child next c.child_above-child.ensures.above apart))

pub loop-next-preserved : goal.loop-next-preserved
loop-next-preserved c =
    let table = c.args.paths.now.entries in
    let dir = c.args.dir.now in
    let next = c.in-Some.next.now in
    let child = c.child_above-child.result.now in
    let apart : same_path child next ≡ false = apart_from child next c.if-child-next.false in
    record {
      going = subst (λ (from : List ℕ). IsGoing table dir from (path_bytes c.loop-next.found.items)) (sym c.write_behind-else-child-next.ensures.written)
          (going_past table dir c.loop-next.from.items next child (path_bytes c.loop-next.found.items) c.in-Some.ensures c.child_above-child.ensures.above c.child_above-child.ensures.child apart c.loop-next.invariant.going);
      room = omega (arith, c.loop-next.invariant.room, c.write_behind-else-child-next.ensures.grows);
    }

pub returns : goal.returns
returns c = going_last c.args.paths.now.entries c.args.dir.now c.loop-next.from.items (path_bytes c.loop-next.found.items) c.in_default.ensures c.loop-next.invariant.going
