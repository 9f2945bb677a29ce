use Rattle.std.proofs.Common.{◌≡◌, ◌++◌, ◌∷◌, [], List, ℕ, OnOk, take, refl, sym, ap, subst, ◌∙◌, append_assoc}
use Rattle.std.specs.Prelude.{codes}
use Rattle.ips_outside.specs.Children.{path_bytes}
use Rattle.ips_repo.specs.Places.{publisher_place}
use Rattle.ips_prepare.proofs.directories.push_digits.Goals as goal

pub returns : goal.returns
returns c =
    let place = publisher_place c.args.publisher.now in
    let below : c.as_slice.result.now ≡ codes "/file/" ++ take 2 c.args.digits.now =
    rw (c.as_slice.ensures.value, c.in_ok-extend_from_slice.ensures.items, c.in_ok-below.ensures.items) refl in
    let whole : place ++ c.as_slice.result.now ≡ place ++ codes "/file/" ++ take 2 c.args.digits.now = ap (λ (b : List ℕ). place ++ b) below ∙ sym (append_assoc place (codes "/file/") (take 2 c.args.digits.now)) in
    subst (λ (path : List ℕ). OnOk c.push_below.result (path_bytes c.push_below.new.ways.items ≡ path_bytes c.args.ways.now.items ++ path ∷ [])) whole c.push_below.ensures
