use Rattle.std.proofs.Common.{◌∙◌, sym}
use Rattle.std.specs.Prelude.{codes}
use Rattle.ips_meaning.proofs.Added.{first_holds, needed_plain, needed_legacy, needed_proper, no_place}
use Rattle.ips_meaning.proofs.paths.needed.Goals as goal

pub add-requires-2 : goal.add-requires-2
add-requires-2 c = first_holds c.new-paths.result c.add.new.paths (codes "var/pkg") c.new-paths.ensures.empty c.in_ok-add.ensures.paths

pub returns-then-not-has_legacy-clause-paths : goal.returns-then-not-has_legacy-clause-paths
returns-then-not-has_legacy-clause-paths c = λ p. needed_plain c.args.kept.now c.new-paths.result c.add.new.paths p c.new-paths.ensures.empty (sym c.has_legacy.ensures ∙ c.if-not-has_legacy.true) (c.in_ok-add.ensures.paths p)

pub returns-then-not-has_legacy-clause-proper : goal.returns-then-not-has_legacy-clause-proper
returns-then-not-has_legacy-clause-proper c = λ p h.
    needed_proper c.args.kept.now p ((needed_plain c.args.kept.now c.new-paths.result c.add.new.paths p c.new-paths.ensures.empty (sym c.has_legacy.ensures ∙ c.if-not-has_legacy.true) (c.in_ok-add.ensures.paths p)).0 h)

pub returns-clause-paths : goal.returns-clause-paths
returns-clause-paths c = λ p.
    needed_legacy c.args.kept.now c.new-paths.result c.add.new.paths c.add-2.new.paths p c.new-paths.ensures.empty (sym c.has_legacy.ensures ∙ c.if-not-has_legacy.false) (c.in_ok-add.ensures.paths p) (c.in_ok-add-2.ensures.paths p)

pub returns-clause-proper : goal.returns-clause-proper
returns-clause-proper c = λ p h.
    needed_proper c.args.kept.now p
    ((needed_legacy c.args.kept.now c.new-paths.result c.add.new.paths c.add-2.new.paths p c.new-paths.ensures.empty (sym c.has_legacy.ensures ∙ c.if-not-has_legacy.false) (c.in_ok-add.ensures.paths p) (c.in_ok-add-2.ensures.paths p)).0 h)

pub returns-then-not-has_legacy-clause-places : goal.returns-then-not-has_legacy-clause-places
returns-then-not-has_legacy-clause-places c = λ p. c.in_ok-add.ensures.places p ∙ no_place c.new-paths.result p c.new-paths.ensures.empty

pub returns-clause-places : goal.returns-clause-places
returns-clause-places c = λ p. c.in_ok-add-2.ensures.places p ∙ c.in_ok-add.ensures.places p ∙ no_place c.new-paths.result p c.new-paths.ensures.empty
