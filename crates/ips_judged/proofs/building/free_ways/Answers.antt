use Rattle.std.proofs.Common.{◌≡◌, ℕ, List, Global, Vec, get_or, sym, ap, subst, ◌∙◌}
use Rattle.ips_text.specs.Kept.{Kept}
use Rattle.ips_outside.specs.Children.{path_bytes}
use Rattle.ips_ways.specs.Ways.{IsFirstInTheWay, IsFree}
use Rattle.ips_sends.specs.Judged.{ways}
use Rattle.ips_prepare.specs.Prepared.{names_of}
use Rattle.ips_judged.specs.Steps.{SaysBarred}
use Rattle.ips_judged.proofs.Assembled.{path_there}
use Rattle.ips_judged.proofs.Ends.{barred_is}
use Rattle.ips_judged.proofs.building.free_ways.Goals as goal

pub returns-in-Ok-Some-clause-barred : goal.returns-in-Ok-Some-clause-barred
returns-in-Ok-Some-clause-barred g c = λ told.
    let t = (g.F.Source.outside.state c.args.target.now).held in
    let publisher = c.args.asked.now.publisher in
    let names = names_of c.args.contents.now in
    let listed = c.as_slice.result.now in
    let k = c.index.result.now in
    let found = rw c.in-Ok-Some.field-0-is at (c.in-Ok-Some.ensures.some told) in
    let within = rw c.in-Ok-Some.field-0-is at c.in-Ok-Some.ensures.within in
    let here : k.bytes ≡ found.0 = path_there listed c.in-Ok-Some.at k found.0 found.1 within (c.index.ensures ∙ ap (λ (l : List Kept). get_or l c.in-Ok-Some.at k) (sym c.as_slice.ensures.value)) in
    let are : path_bytes listed ≡ ways publisher c.args.asked.now.stem names =
    ap path_bytes c.as_slice.ensures.value ∙ c.in-Ok.ensures ∙ ap (λ (p : List ℕ). ways p c.as_str-2.result.now names) c.as_str.ensures ∙ ap (λ (s : List ℕ). ways publisher s names) c.as_str-2.ensures in
    barred_is (Vec Kept Global) t (ways publisher c.args.asked.now.stem names) found.0 c.barred.result (subst (λ (b : List ℕ). SaysBarred b c.barred.result) here c.barred.ensures)
    (subst (λ (l : List (List ℕ)). IsFirstInTheWay t l found.0) are found.2)

pub returns-in-Ok-None-clause-free : goal.returns-in-Ok-None-clause-free
returns-in-Ok-None-clause-free g c = λ told.
    let t = (g.F.Source.outside.state c.args.target.now).held in
    let publisher = c.args.asked.now.publisher in
    let names = names_of c.args.contents.now in
    let none = rw c.in-Ok-None.field-0-is at (c.in-Ok-None.ensures.none told) in
    let are : path_bytes c.as_slice.result.now ≡ ways publisher c.args.asked.now.stem names =
    ap path_bytes c.as_slice.ensures.value ∙ c.in-Ok.ensures ∙ ap (λ (p : List ℕ). ways p c.as_str-2.result.now names) c.as_str.ensures ∙ ap (λ (s : List ℕ). ways publisher s names) c.as_str-2.ensures in
    subst (IsFree t) are none
