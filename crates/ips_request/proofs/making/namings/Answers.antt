use Rattle.std.proofs.Common.{List, ℕ, Vec, Global, map}
use Rattle.ips_request.specs.Named.{AreMatched, IsUnnamed, IsFirstUnnamed}
use Rattle.ips_request.specs.declared.asking.Naming as declared
use Rattle.ips_request.proofs.Named.{first_unnamed, bad_handed}
use Rattle.ips_request.proofs.Subjects.{namings_more}
use Rattle.ips_request.proofs.making.namings.Goals as goal

pub loop-pattern-preserved : goal.loop-pattern-preserved
loop-pattern-preserved c =
    namings_more c.args.publisher.now c.args.known.now c.args.patterns.now c.loop-pattern.namings.items _ c.loop-pattern.pattern-index c.pattern-item.result c.in_ok-naming.naming c.in-Ok.stems
    c.loop-pattern-test.true c.pattern-item.is c.loop-pattern.invariant c.in-Ok.ensures.named c.in_ok-naming.ensures.stems c.in_ok-naming.ensures.limit c.in_ok-push.ensures.items

pub returns-in-Err-clause-unnamed : goal.returns-in-Err-clause-unnamed
returns-in-Err-clause-unnamed c =
    bad_handed (Vec (List ℕ) Global) (Vec declared.Naming Global)
    (λ why. (matched : List (List ℕ)) × AreMatched c.args.publisher.now c.pattern-item.result c.args.known.now matched × IsUnnamed c.pattern-item.result matched why)
    (IsFirstUnnamed c.args.publisher.now c.args.known.now c.args.patterns.now)
    c.in-Err.why c.in-Err.ensures.unnamed
    (λ f bad. first_unnamed c.args.publisher.now c.args.known.now c.args.patterns.now (map (λ (n : declared.Naming). n.stems.items) c.loop-pattern.namings.items) c.loop-pattern.pattern-index c.pattern-item.result f c.loop-pattern-test.true c.pattern-item.is c.loop-pattern.invariant.named bad)
