use Rattle.std.proofs.Common.{◌≡◌, ◌∙◌, List, ℕ, map, length, sym, ap, subst, arith}
use Rattle.std.specs.Prelude.{slice_get}
use Rattle.std.specs.List.{Contains}
use Rattle.ips_meaning.specs.declared.entry.Entry.{Entry}
use Rattle.ips_meaning.specs.declared.wanted.Wanted.{Wanted}
use Rattle.ips_meaning.specs.View.{paths_of}
use Rattle.ips_meaning.proofs.Wants.{first_paths}
use Rattle.ips_meaning.proofs.Halved.{holds, if_none}
use Rattle.ips_meaning.proofs.wanted.Want.entry.Goals as goal

pub returns-in_err-i-clause-none : goal.returns-in_err-i-clause-none
returns-in_err-i-clause-none c =
    let same : map (λ (e : List ℕ × Entry). e.0) c.args.self.now ≡ paths_of c.deref.result.now = ap (map (λ (e : List ℕ × Entry). e.0)) (sym c.self.view_is) ∙ first_paths c.self.inside.entries.items ∙ ap paths_of (sym c.deref.ensures.value) in
    if_none c.from_residual.result _ (λ w. c.in_err-i.ensures.none (subst (λ (l : List (List ℕ)). Contains l c.args.path.now.bytes) same w))

pub returns-clause-some : goal.returns-clause-some
returns-clause-some c =
    subst (λ (l : List (List ℕ × Entry)). Contains l (c.args.path.now.bytes, c.index.result.now.entry)) c.self.view_is
    (holds c.self.inside.entries.items c.args.path.now.bytes c.in_ok-i.i c.index.result.now (ap (λ (l : List Wanted). slice_get (paths_of l) c.in_ok-i.i) (sym c.deref.ensures.value) ∙ c.in_ok-i.ensures.some)
    (omega (arith, ap length c.deref.ensures.value, c.in_ok-i.ensures.within)) c.index.ensures)
