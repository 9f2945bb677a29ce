use Rattle.std.proofs.Common.{Bor, Option, subst}
use Rattle.std.specs.Option.{option_map}
use Rattle.ips_text.specs.declared.path.RelPath.{RelPath}
use Rattle.ips_movable.specs.First.{IsFirstPath}
use Rattle.ips_unmovable.proofs.first.first_of.Goals as goal

pub returns-in-Some-Some-clause-first : goal.returns-in-Some-Some-clause-first
returns-in-Some-Some-clause-first c = λ f g a b. c.lesser.ensures f g
    (subst (λ (o : Option (Bor RelPath)). IsFirstPath f (option_map (λ x. x.now) o)) c.in-Some-Some.is-0 a)
    (subst (λ (o : Option (Bor RelPath)). IsFirstPath g (option_map (λ x. x.now) o)) c.in-Some-Some.is-1 b)
