use Rattle.std.proofs.Common.{◌≡◌, ◌++◌, ◌∷◌, [], List, ℕ, OnOk, refl, sym, ap, subst, ◌∙◌, append_assoc}
use Rattle.std.specs.Prelude.{codes}
use Rattle.ips_outside.specs.Children.{path_bytes}
use Rattle.ips_repo.specs.Places.{publisher_place}
use Rattle.ips_prepare.proofs.directories.push_stem.Goals as goal

pub returns : goal.returns
returns c =
    let place = publisher_place c.args.publisher.now in
    let below : c.as_slice.result.now ≡ codes "/pkg/" ++ c.args.quoted.now =
    rw (c.as_slice.ensures.value, c.in_ok-extend_from_slice.ensures.items, c.as_bytes.ensures.value, c.in_ok-below.ensures.items) refl in
    let whole : place ++ c.as_slice.result.now ≡ place ++ codes "/pkg/" ++ c.args.quoted.now = ap (λ (b : List ℕ). place ++ b) below ∙ sym (append_assoc place (codes "/pkg/") c.args.quoted.now) in
    subst (λ (path : List ℕ). OnOk c.push_below.result (path_bytes c.push_below.new.ways.items ≡ path_bytes c.args.ways.now.items ++ path ∷ [])) whole c.push_below.ensures
