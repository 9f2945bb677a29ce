use Rattle.std.proofs.Common.{◌≡◌, ◌∙◌, codes}
use Rattle.std.proofs.lemmas.List.{append_cancel_left}
use Rattle.ips_state.specs.declared.state.Origin.{Origin}
use Rattle.ips_load.specs.HeadLines.{IsOrigin}
use Rattle.ips_load.proofs.HeadWords.{front_sole, origin_value, origin_one, origin_cut, unbound}
use Rattle.ips_load.proofs.head_words.named_origin.Goals as goal

pub returns-in_default-either-clause-none : goal.returns-in_default-either-clause-none
returns-in_default-either-clause-none c = λ o h e.
    let value = append_cancel_left (codes "origin ") (origin_value o) c.in-Some.rest.now (e ∙ c.in-Some.ensures.some) in
    let none = c.in_default-either.ensures.none in
    unbound c.in-Some-cut.second.now none.0 none.1 o.sticky (origin_cut o c.in-Some.rest.now c.in-Some-cut.first.now c.in-Some-cut.second.now h c.in-Some-cut.ensures.some value).1

pub returns-in_default-2-clause-none : goal.returns-in_default-2-clause-none
returns-in_default-2-clause-none c = λ o h e.
    let value = append_cancel_left (codes "origin ") (origin_value o) c.in-Some.rest.now (e ∙ c.in-Some.ensures.some) in
    (rw c.in_default-2.is at c.in_ok-name.ensures.none) o.name h (origin_cut o c.in-Some.rest.now c.in-Some-cut.first.now c.in-Some-cut.second.now h c.in-Some-cut.ensures.some value).0

pub returns-clause-sole : goal.returns-clause-sole
returns-clause-sole c =
    let name = rw c.in-Some-2.is at c.in_ok-name.ensures.sole in
    let origin : Origin = record { name = c.in-Some-2.name; sticky = c.in-Some-either.sticky } in
    front_sole (codes "origin ") origin_value IsOrigin origin (λ y h e. origin_one y origin h name.fits e) name.fits
