use Rattle.std.proofs.Common.{◌≡◌, ℕ, true, false, cond, List, None, is_some, refl, sym, ◌∙◌, ap, subst, arith}
use Rattle.ips_text.specs.Ancestry.{same_path}
use Rattle.ips_outside.specs.Table.{kind_at}
use Rattle.ips_outside.specs.Order.{comes_after, front_below}
use Rattle.ips_outside.proofs.Order.{after_itself, after_trans, below_from, taken_stands, taken_others, taken_left, all_taken}
use Rattle.ips_outside.proofs.subtree.take_away.Goals as goal

pub loop-next-init : goal.loop-next-init
loop-next-init c = record {
  others = λ q off. refl;
  each = λ q some. omega (arith, c.requires.each q some, c.write_behind.ensures.grows);
  begun = subst (λ (x : List ℕ). comes_after (front_below c.args.path.now) x ≡ false) (sym c.write_behind.ensures.written) (after_itself (front_below c.args.path.now));
  left = λ q below some. subst (λ (x : List ℕ). comes_after x q ≡ false) (sym c.write_behind.ensures.written) (below_from c.args.path.now q below);
  grows = c.write_behind.ensures.grows;
}

pub loop-next-preserved : goal.loop-next-preserved
loop-next-preserved c =
    let p = c.args.path.now in
    let old = c.loop-next.paths.entries in
    let new = c.take.new.paths.entries in
    let from = c.loop-next.spare.items in
    let next = c.in-Some.next.now in
    let bytes : c.deref.result.now ≡ next = c.deref.ensures.value ∙ c.rewrite.ensures.written in
    let taken : (q : List ℕ) → kind_at new q ≡ cond (same_path next q) None (kind_at old q) = λ q. c.take.ensures.taken q ∙ ap (λ (x : List ℕ). cond (same_path x q) None (kind_at old q)) bytes in
    let stands = taken_stands old new p from next c.in-Some.ensures taken in
    record {
      others = λ q off. taken_others old new p from next c.in-Some.ensures taken q off ∙ c.loop-next.invariant.others q off;
      each = λ q some. omega (arith, c.loop-next.invariant.each q (stands q some), c.rewrite.ensures.grows);
      begun = subst (λ (x : List ℕ). comes_after (front_below p) x ≡ false) (sym c.rewrite.ensures.written) (after_trans (front_below p) from next c.loop-next.invariant.begun c.in-Some.ensures.first.late);
      left = λ q below some. subst (λ (x : List ℕ). comes_after x q ≡ false) (sym c.rewrite.ensures.written) (taken_left old new p from next c.in-Some.ensures taken c.loop-next.invariant.left q below some);
      grows = omega (arith, c.loop-next.invariant.grows, c.rewrite.ensures.grows);
    }

pub loop-next-smaller : goal.loop-next-smaller
loop-next-smaller c =
    let bytes : c.deref.result.now ≡ c.in-Some.next.now = c.deref.ensures.value ∙ c.rewrite.ensures.written in
    c.take.ensures.fewer (subst (λ (x : List ℕ). is_some (kind_at c.loop-next.paths.entries x) ≡ true) (sym bytes) c.in-Some.ensures.first.stands)

pub returns-clause-taken : goal.returns-clause-taken
returns-clause-taken c =
    all_taken c.args.paths.now.entries c.loop-next.paths.entries c.take-2.new.paths.entries c.args.path.now c.loop-next.spare.items c.loop-next.invariant.others c.loop-next.invariant.left c.in_default.ensures c.take-2.ensures.taken
