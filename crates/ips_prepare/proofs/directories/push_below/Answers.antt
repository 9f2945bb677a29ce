use Rattle.std.proofs.Common.{◌≡◌, ◌++◌, ◌∷◌, [], List, ℕ, OnOk, refl, subst}
use Rattle.ips_outside.specs.Children.{path_bytes}
use Rattle.ips_repo.specs.Places.{publisher_place}
use Rattle.ips_prepare.proofs.directories.push_below.Goals as goal

pub returns : goal.returns
returns c =
    let bytes : c.as_slice.result.now ≡ publisher_place c.args.publisher.now ++ c.args.below.now =
    rw (c.as_slice.ensures.value, c.in_ok-extend_from_slice-2.ensures.items, c.in_ok-extend_from_slice.ensures.items, c.as_bytes.ensures.value, c.in_ok-bytes.ensures.items) refl in
    subst (λ (path : List ℕ). OnOk c.push_path.result (path_bytes c.push_path.new.ways.items ≡ path_bytes c.args.ways.now.items ++ path ∷ [])) bytes c.push_path.ensures
