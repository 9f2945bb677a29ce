use Rattle.std.proofs.Common.{◌≡◌, ℕ, List, append_assoc, subst}
use Rattle.std.specs.Prelude.{IfOk}
use Rattle.ips_repo.specs.Places as place
use Rattle.ips_repo.specs.Places.{IsPlace}
use Rattle.ips_repo.proofs.places.catalog_place.Goals as goal

pub returns : goal.returns
returns c =
    let bytes : c.as_slice.result.now ≡ place.catalog_place c.args.publisher.now =
    rw (c.as_slice.ensures.value, c.in_ok-extend_from_slice-3.ensures.items, c.in_ok-extend_from_slice-2.ensures.items, c.as_bytes.ensures.value, c.in_ok-extend_from_slice.ensures.items, c.new-bytes.ensures.items) (simp append_assoc) in
    subst (λ (path : List ℕ). IfOk c.path_of.result (IsPlace path)) bytes c.path_of.ensures
