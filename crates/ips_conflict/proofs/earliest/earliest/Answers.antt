use Rattle.std.proofs.Common.{◌∙◌, ◌<◌, ◌+◌, ℕ, Option, Some, ap, refl, subst, sym, take, length}
use Rattle.std.specs.Option.{ForSome}
use Rattle.std.proofs.lemmas.Bool.{true≢false}
use Rattle.std.proofs.lemmas.Option.{none-some}
use Rattle.ips_conflict.specs.Search.{MeetsTest}
use Rattle.ips_conflict.proofs.Found.{FoundIn, found_none, found_more, found_same, found_done, within_more}
use Rattle.ips_conflict.proofs.earliest.earliest.Goals as goal
use Rattle.ips_conflict.proofs.earliest.earliest.Goals.{then-branch, else-branch}

pub loop-j-init : goal.loop-j-init
loop-j-init c = record { so_far = found_none c.args.placed.now (MeetsTest c.args.placed.now c.args.sort c.args.test); within = λ x e. absurd (none-some x e) }

pub meets-requires : goal.meets-requires
meets-requires c = record { index = c.requires.index; within = c.requires.members c.loop-j.j-index 0 c.loop-j-test.true; test = c.requires.test }

pub loop-j-preserved : goal.loop-j-preserved
loop-j-preserved c =
    let M : ℕ → Type 0 = MeetsTest c.args.placed.now c.args.sort c.args.test in
    let P : Option ℕ → Type 0 = λ o. FoundIn c.args.placed.now M (take (c.loop-j.j-index + 1) c.args.members.now) o in
    let W : Option ℕ → Type 0 = λ o. ForSome o (λ i. i < length c.args.placed.now) in
    let inside = c.requires.members c.loop-j.j-index 0 c.loop-j-test.true in
    elim c.if-branch.branch [
      | then-branch w ↦
          let next = w.found-is ∙ ap (λ (j : ℕ). Some j) w.earlier.ensures in record {
            so_far = subst P (sym next) (found_more c.args.placed.now M c.args.members.now c.loop-j.found c.loop-j.j-index _ c.loop-j-test.true refl (c.in_ok-meets.ensures.0 w.if-branch.true) c.loop-j.invariant.so_far);
            within = subst W (sym next) (within_more c.args.placed.now (length c.args.placed.now) c.loop-j.found _ c.loop-j.invariant.within inside);
          }
      | else-branch w ↦ record {
        so_far = subst P (sym w.found-is) (found_same c.args.placed.now M c.args.members.now c.loop-j.found c.loop-j.j-index _ c.loop-j-test.true refl (λ m. true≢false (sym (c.in_ok-meets.ensures.1 m) ∙ w.if-branch.false)) c.loop-j.invariant.so_far);
        within = subst W (sym w.found-is) c.loop-j.invariant.within;
      }
    ]

pub returns : goal.returns
returns c = found_done c.args.placed.now (MeetsTest c.args.placed.now c.args.sort c.args.test) c.args.members.now c.loop-j.found c.loop-j.j-index c.loop-j-test.false c.loop-j.invariant.so_far
