use Rattle.std.proofs.Common.{◌≡◌, ◌∙◌, ◌++◌, ◌∷◌, ℕ, List, codes}
use Rattle.std.proofs.lemmas.List.{append_cancel_left}
use Rattle.ips_text.specs.Quote.{quoted}
use Rattle.ips_load.specs.HeadLines.{IsVariant}
use Rattle.ips_load.proofs.HeadWords.{front_sole, variant_value, variant_one, word_cut}
use Rattle.ips_load.proofs.head_words.set_variant.Goals as goal

pub returns-in_default-2-clause-none : goal.returns-in_default-2-clause-none
returns-in_default-2-clause-none c = λ v h e.
    let value = append_cancel_left (codes "variant ") (variant_value v) c.in-Some.rest.now (e ∙ c.in-Some.ensures.some) in
    (rw c.in_default-2.is at c.in_ok-name.ensures.none) v.0 h.0 (word_cut v.0 (quoted v.1) c.in-Some.rest.now c.in-Some-cut.first.now c.in-Some-cut.second.now h.0 c.in-Some-cut.ensures.some value).0

pub returns-in_default-3-clause-none : goal.returns-in_default-3-clause-none
returns-in_default-3-clause-none c = λ v h e.
    let value = append_cancel_left (codes "variant ") (variant_value v) c.in-Some.rest.now (e ∙ c.in-Some.ensures.some) in
    (rw c.in_default-3.is at c.in_ok-value.ensures.none) v.1 h.1 (word_cut v.0 (quoted v.1) c.in-Some.rest.now c.in-Some-cut.first.now c.in-Some-cut.second.now h.0 c.in-Some-cut.ensures.some value).1

pub returns-clause-sole : goal.returns-clause-sole
returns-clause-sole c =
    let name = rw c.in-Some-2.is at c.in_ok-name.ensures.sole in
    let value = rw c.in-Some-3.is at c.in_ok-value.ensures.sole in
    let fits : IsVariant (c.in-Some-2.name, c.in-Some-3.value) = (name.fits, value.fits) in
    front_sole (codes "variant ") variant_value IsVariant (c.in-Some-2.name, c.in-Some-3.value) (λ y h e. variant_one y (c.in-Some-2.name, c.in-Some-3.value) h fits e) fits
