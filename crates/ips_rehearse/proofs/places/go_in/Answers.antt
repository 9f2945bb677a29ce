use Rattle.std.proofs.Common.{◌≡◌, ◌++◌, List, ℕ, sym, ◌∙◌, ap, subst}
use Rattle.ips_text.specs.Path.{IsPath}
use Rattle.ips_rehearse.specs.Tried.{try_name, in_try}
use Rattle.ips_rehearse.proofs.Paths.{tried_path}
use Rattle.ips_rehearse.proofs.places.go_in.Goals as goal

pub go-requires-clause-path : goal.go-requires-clause-path
unfolding try_name
go-requires-clause-path c =
    let bytes : c.deref.result.now ≡ in_try c.args.name.now = c.deref.ensures.value ∙ c.in_ok-extend_from_slice.ensures.items ∙ ap (λ (l : List ℕ). l ++ c.args.name.now) c.in_ok-bytes.ensures.items in
    subst IsPath (sym bytes) (tried_path c.args.name.now c.requires.path c.requires.part)

pub returns-clause-there : goal.returns-clause-there
unfolding try_name
returns-clause-there c =
    c.go.ensures.there ∙ c.deref.ensures.value ∙ c.in_ok-extend_from_slice.ensures.items ∙ ap (λ (l : List ℕ). l ++ c.args.name.now) c.in_ok-bytes.ensures.items
