use Rattle.std.proofs.Common.{ℕ, List, sym, subst}
use Rattle.std.specs.Prelude.{IsFalse, IsTrue}
use Rattle.ips_after.specs.Salvage.{has_long_side, is_unmovable, lesser, side_at}
use Rattle.ips_found.specs.Found.{thing_paths}
use Rattle.ips_image_steps.proofs.Hindered.{first_kept}
use Rattle.ips_image_steps.proofs.found.first_of_all.Goals as goal

pub returns-in_ok-copy-in-Some-clause-first : goal.returns-in_ok-copy-in-Some-clause-first
returns-in_ok-copy-in-Some-clause-first c = λ r t a root found listed are foreign.
    let long = first_kept (λ q. has_long_side r t a q (side_at r t q)) c.first_long_side-long.result (c.first_long_side-long.ensures r t a (thing_paths c.args.things.now) are) in
    subst (λ (p : List ℕ). IsTrue (is_unmovable r t a p) × ((q : List ℕ) → IsTrue (lesser q p) → IsFalse (is_unmovable r t a q))) (sym c.in_ok-copy-in-Some.ensures.same) (c.in-Some.ensures.first r t a root found listed foreign long)

pub returns-in-None-clause-first : goal.returns-in-None-clause-first
returns-in-None-clause-first c = λ r t a root found listed are foreign.
    let long = first_kept (λ q. has_long_side r t a q (side_at r t q)) c.first_long_side-long.result (c.first_long_side-long.ensures r t a (thing_paths c.args.things.now) are) in
    c.in-None.ensures.first r t a root found listed foreign long
