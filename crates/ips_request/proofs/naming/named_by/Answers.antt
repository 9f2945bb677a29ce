use Rattle.std.proofs.Common.{◌+◌, List, ℕ, Vec, Global, map, take, sym, ap, subst, ◌∙◌}
use Rattle.std.proofs.lemmas.List.{map_push}
use Rattle.ips_request.specs.Named.{AreMatched, AreNamed, IsUnnamed, IsFirstUnnamed}
use Rattle.ips_request.proofs.Named.{named_more, first_unnamed, bad_handed}
use Rattle.ips_request.proofs.naming.named_by.Goals as goal

pub loop-pattern-preserved : goal.loop-pattern-preserved
loop-pattern-preserved c =
    let i = c.loop-pattern.pattern-index in
    let old = c.loop-pattern.named.items in
    let added = ap (λ l. map (λ v. v.items) l) c.in_ok-push.ensures.items ∙ map_push (λ v. v.items) old c.in-Ok.stems in
    subst (AreNamed c.args.publisher.now c.args.known.now (take (i + 1) c.args.patterns.now)) (sym added)
    (named_more c.args.publisher.now c.args.known.now c.args.patterns.now (map (λ v. v.items) old) i c.pattern-item.result c.in-Ok.stems.items c.loop-pattern-test.true c.pattern-item.is c.loop-pattern.invariant c.in-Ok.ensures.named)

pub returns-in-Err-clause-unnamed : goal.returns-in-Err-clause-unnamed
returns-in-Err-clause-unnamed c =
    bad_handed (Vec (List ℕ) Global) (Vec (Vec (List ℕ) Global) Global)
    (λ why. (matched : List (List ℕ)) × AreMatched c.args.publisher.now c.pattern-item.result c.args.known.now matched × IsUnnamed c.pattern-item.result matched why)
    (IsFirstUnnamed c.args.publisher.now c.args.known.now c.args.patterns.now)
    c.in-Err.why c.in-Err.ensures.unnamed
    (λ f bad. first_unnamed c.args.publisher.now c.args.known.now c.args.patterns.now (map (λ v. v.items) c.loop-pattern.named.items) c.loop-pattern.pattern-index c.pattern-item.result f c.loop-pattern-test.true c.pattern-item.is c.loop-pattern.invariant bad)
