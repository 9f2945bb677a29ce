use Rattle.ips_load.proofs.HeadKinds.{format_sole, variant_kind, facet_kind, no_line}
use Rattle.ips_load.proofs.head_lines.HeadLinesListing.read.Goals as goal

pub returns-in-Some-clause-sole : goal.returns-in-Some-clause-sole
returns-in-Some-clause-sole c = format_sole c.in-Some.n c.in-Some.ensures.some.0

pub returns-in-Some-5-clause-sole : goal.returns-in-Some-5-clause-sole
returns-in-Some-5-clause-sole c = variant_kind c.in-Some-5.name c.in-Some-5.value (rw c.in-Some-5.is at c.in_ok-name-2.ensures.sole)

pub returns-in-Some-6-clause-sole : goal.returns-in-Some-6-clause-sole
returns-in-Some-6-clause-sole c = facet_kind c.in-Some-6.pattern c.in-Some-6.on (rw c.in-Some-6.is at c.in_ok-pattern.ensures.sole)

pub returns-clause-none : goal.returns-clause-none
returns-clause-none c =
    no_line c.args.bytes.now c.in_default.ensures.none (rw c.in_default-2.is at c.in_ok-name.ensures.none) (rw c.in_default-3.is at c.in_ok-origin.ensures.none)
    (rw c.in_default-4.is at c.in_ok-word.ensures.none) (rw c.in_default-5.is at c.in_ok-name-2.ensures.none) (rw c.in_default-6.is at c.in_ok-pattern.ensures.none)
