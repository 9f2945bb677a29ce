use Rattle.std.proofs.Common.{◌≡◌, ℕ, List, ◌∷◌, ◌++◌, take, append_assoc, subst}
use Rattle.std.specs.Prelude.{IfOk, codes}
use Rattle.ips_repo.specs.Places.{publisher_place, IsPlace}
use Rattle.ips_repo.proofs.places.place_of_digits.Goals as goal

pub returns : goal.returns
returns c =
    let digits = c.args.digits.now in
    let bytes : c.as_slice.result.now ≡ publisher_place c.args.publisher.now ++ codes "/file/" ++ take 2 digits ++ 47 ∷ digits =
    rw (c.as_slice.ensures.value, c.in_ok-extend_from_slice-5.ensures.items, c.in_ok-push.ensures.items, c.in_ok-extend_from_slice-4.ensures.items, c.in_ok-extend_from_slice-3.ensures.items, c.in_ok-extend_from_slice-2.ensures.items, c.as_bytes.ensures.value, c.in_ok-extend_from_slice.ensures.items, c.new-bytes.ensures.items) (simp append_assoc) in
    subst (λ (place : List ℕ). IfOk c.path_of.result (IsPlace place)) bytes c.path_of.ensures
