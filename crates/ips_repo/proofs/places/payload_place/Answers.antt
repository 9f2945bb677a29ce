use Rattle.std.proofs.Common.{ℕ, List, ◌∷◌, ◌++◌, take, subst}
use Rattle.std.specs.Prelude.{IfOk, codes}
use Rattle.ips_repo.specs.Places.{publisher_place, IsPlace}
use Rattle.ips_repo.proofs.places.payload_place.Goals as goal

pub returns : goal.returns
returns c = subst (λ (digits : List ℕ). IfOk c.place_of_digits.result (IsPlace (publisher_place c.args.publisher.now ++ codes "/file/" ++ take 2 digits ++ 47 ∷ digits))) c.print-count.ensures.spelled c.place_of_digits.ensures
