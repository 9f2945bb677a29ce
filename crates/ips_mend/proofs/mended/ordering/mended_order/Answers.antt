use Rattle.std.proofs.Common.{◌≡◌, ◌++◌, ℕ, List, ◌∙◌, ap}
use Rattle.ips_mend.specs.declared.mended.ordering.Group.TheVariants.{Dirs, Others, Hards}
use Rattle.ips_mend.proofs.mended.Ordered.{all_within, paths_are, places_of}
use Rattle.ips_mend.proofs.mended.ordering.mended_order.Goals as goal

pub returns-clause-within : goal.returns-clause-within
returns-clause-within c =
    let want = c.args.want.now in
    let is : c.add-3.new.order.items ≡ (places_of Dirs want ++ places_of Others want) ++ places_of Hards want =
    c.in_ok-add-3.ensures ∙ ap (λ (l : List ℕ). l ++ places_of Hards want) (c.in_ok-add-2.ensures ∙ ap (λ (l : List ℕ). l ++ places_of Others want) (c.in_ok-add.ensures ∙ ap (λ (l : List ℕ). l ++ places_of Dirs want) c.in_ok-order.ensures.items)) in
    all_within want c.add-3.new.order.items is

pub returns-clause-ordered : goal.returns-clause-ordered
returns-clause-ordered c =
    let want = c.args.want.now in
    let is : c.add-3.new.order.items ≡ (places_of Dirs want ++ places_of Others want) ++ places_of Hards want =
    c.in_ok-add-3.ensures ∙ ap (λ (l : List ℕ). l ++ places_of Hards want) (c.in_ok-add-2.ensures ∙ ap (λ (l : List ℕ). l ++ places_of Others want) (c.in_ok-add.ensures ∙ ap (λ (l : List ℕ). l ++ places_of Dirs want) c.in_ok-order.ensures.items)) in
    paths_are want c.add-3.new.order.items is
