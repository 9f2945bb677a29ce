use Rattle.std.proofs.Common.{◌≡◌, ◌∙◌, codes}
use Rattle.std.proofs.lemmas.List.{append_cancel_left}
use Rattle.ips_load.specs.HeadLines.{IsFacet}
use Rattle.ips_load.proofs.HeadWords.{front_sole, facet_value, facet_one, switch, word_cut, unswitched}
use Rattle.ips_load.proofs.head_words.set_facet.Goals as goal

pub returns-in_default-either-clause-none : goal.returns-in_default-either-clause-none
returns-in_default-either-clause-none c = λ f h e.
    let value = append_cancel_left (codes "facet ") (facet_value f) c.in-Some.rest.now (e ∙ c.in-Some.ensures.some) in
    let none = c.in_default-either.ensures.none in
    unswitched c.in-Some-cut.second.now none.0 none.1 f.1 (word_cut f.0 (switch f.1) c.in-Some.rest.now c.in-Some-cut.first.now c.in-Some-cut.second.now h c.in-Some-cut.ensures.some value).1

pub returns-in_default-2-clause-none : goal.returns-in_default-2-clause-none
returns-in_default-2-clause-none c = λ f h e.
    let value = append_cancel_left (codes "facet ") (facet_value f) c.in-Some.rest.now (e ∙ c.in-Some.ensures.some) in
    (rw c.in_default-2.is at c.in_ok-pattern.ensures.none) f.0 h (word_cut f.0 (switch f.1) c.in-Some.rest.now c.in-Some-cut.first.now c.in-Some-cut.second.now h c.in-Some-cut.ensures.some value).0

pub returns-clause-sole : goal.returns-clause-sole
returns-clause-sole c =
    let pattern = rw c.in-Some-2.is at c.in_ok-pattern.ensures.sole in
    front_sole (codes "facet ") facet_value IsFacet (c.in-Some-2.pattern, c.in-Some-either.on) (λ y h e. facet_one y (c.in-Some-2.pattern, c.in-Some-either.on) h pattern.fits e) pattern.fits
