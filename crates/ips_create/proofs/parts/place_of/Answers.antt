use Rattle.std.proofs.Common.{◌≡◌, ℕ, List, ◌++◌, append_assoc, sym, subst}
use Rattle.std.specs.Prelude.{IfOk}
use Rattle.ips_text.specs.Path.{IsPath}
use Rattle.ips_repo.specs.Places.{publisher_place}
use Rattle.ips_create.proofs.parts.place_of.Goals as goal

pub path_of-requires : goal.path_of-requires
path_of-requires c =
    let bytes : c.as_slice.result.now ≡ publisher_place c.args.publisher.now ++ c.args.behind.now =
    rw (c.as_slice.ensures.value, c.in_ok-extend_from_slice-3.ensures.items, c.as_bytes-2.ensures.value, c.in_ok-extend_from_slice-2.ensures.items, c.as_bytes.ensures.value, c.in_ok-extend_from_slice.ensures.items, c.new-bytes.ensures.items) (simp append_assoc) in
    subst IsPath (sym bytes) c.requires

pub returns : goal.returns
returns c =
    let bytes : c.as_slice.result.now ≡ publisher_place c.args.publisher.now ++ c.args.behind.now =
    rw (c.as_slice.ensures.value, c.in_ok-extend_from_slice-3.ensures.items, c.as_bytes-2.ensures.value, c.in_ok-extend_from_slice-2.ensures.items, c.as_bytes.ensures.value, c.in_ok-extend_from_slice.ensures.items, c.new-bytes.ensures.items) (simp append_assoc) in
    subst (λ (b : List ℕ). IfOk c.path_of.result (λ path. path.bytes ≡ b)) bytes c.path_of.ensures
