use Rattle.std.proofs.Common.{◌≡◌, ◌+◌, ℕ, List, false, arith, sym, ◌∙◌, subst, length}
use Rattle.std.specs.List.{AllByRecursion}
use Rattle.ips_state.specs.declared.state.Origin.{Origin}
use Rattle.ips_state.specs.Lawful.{IsHead, AreOrigins}
use Rattle.ips_load.specs.HeadLines.{IsOrigin, IsBadOrigin, head_read}
use Rattle.ips_load.proofs.HeadSections.{behind_publisher, origins_fit, variants_by_name, facets_by_name}
use Rattle.ips_load.proofs.HeadBad.{bad_origin, bad_end, built_lawful, built_items}
use Rattle.ips_load.proofs.heading.from_tail.Goals as goal

pub first_bad_origin-requires-clause-each : goal.first_bad_origin-requires-clause-each
first_bad_origin-requires-clause-each c = subst (AllByRecursion IsOrigin) (sym (c.deref.ensures.value ∙ c.in_ok-origins.ensures)) (origins_fit c.args.tail.now c.requires.fit)

pub returns-in-Some-clause-bad : goal.returns-in-Some-clause-bad
returns-in-Some-clause-bad c =
    let tail = behind_publisher c.args.publisher.now c.args.tail.now c.requires.chain in
    let bad = rw c.in-Some.is at c.in_ok-place.ensures.some in
    bad_origin c.args.whole c.args.format c.args.publisher.now c.args.tail.now c.in-Some.place c.requires.format c.requires.publisher tail.1 tail.0
    (subst (λ (os : List Origin). IsBadOrigin c.args.format os c.in-Some.place) (c.deref.ensures.value ∙ c.in_ok-origins.ensures) bad)

pub returns-then-not-whole-clause-bad : goal.returns-then-not-whole-clause-bad
returns-then-not-whole-clause-bad c =
    let tail = behind_publisher c.args.publisher.now c.args.tail.now c.requires.chain in
    let origins = subst (AreOrigins c.args.format) (c.deref.ensures.value ∙ c.in_ok-origins.ensures) (rw c.in_default.is at c.in_ok-place.ensures.none) in
    bad_end c.args.whole c.args.format c.args.publisher.now c.args.tail.now c.if-not-whole.true c.requires.format c.requires.publisher c.requires.fit tail.1 tail.0 origins

pub settings_of-requires-clause-variants : goal.settings_of-requires-clause-variants
settings_of-requires-clause-variants c = let tail = behind_publisher c.args.publisher.now c.args.tail.now c.requires.chain in variants_by_name c.args.tail.now tail.1 tail.0

pub settings_of-requires-clause-facets : goal.settings_of-requires-clause-facets
settings_of-requires-clause-facets c = let tail = behind_publisher c.args.publisher.now c.args.tail.now c.requires.chain in facets_by_name c.args.tail.now tail.1 tail.0

pub returns-clause-lawful : goal.returns-clause-lawful
returns-clause-lawful c =
    let tail = behind_publisher c.args.publisher.now c.args.tail.now c.requires.chain in
    let origins = subst (AreOrigins c.args.format) (c.deref.ensures.value ∙ c.in_ok-origins.ensures) (rw c.in_default.is at c.in_ok-place.ensures.none) in
    built_lawful c.args.format c.args.publisher.now c.args.tail.now c.in_ok-copy.field-0 c.in_ok-origins.origins.items c.in_ok-actuator_of.field-0 c.in_ok-settings_of.field-0
    c.in_ok-copy.ensures c.in_ok-origins.ensures c.in_ok-actuator_of.ensures c.in_ok-settings_of.ensures.variants c.in_ok-settings_of.ensures.facets c.requires.format c.requires.publisher c.requires.fit tail.1 tail.0 origins

pub returns-clause-items : goal.returns-clause-items
returns-clause-items c =
    let tail = behind_publisher c.args.publisher.now c.args.tail.now c.requires.chain in
    built_items c.args.format c.args.publisher.now c.args.tail.now c.in_ok-copy.field-0 c.in_ok-origins.origins.items c.in_ok-actuator_of.field-0 c.in_ok-settings_of.field-0
    c.in_ok-copy.ensures c.in_ok-origins.ensures c.in_ok-actuator_of.ensures c.in_ok-settings_of.ensures.variants c.in_ok-settings_of.ensures.facets tail.1 tail.0
