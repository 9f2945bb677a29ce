use Rattle.std.proofs.Common.{◌≡◌, List, map, take, take_all, ap, ◌∙◌, arith}
use Rattle.std.specs.Option.{option_map}
use Rattle.ips_due.specs.declared.outstanding.verdict.Named.{Named}
use Rattle.ips_due.specs.outstanding.Verdicts.{named_paths, said_of}
use Rattle.ips_due.proofs.outstanding.Answered.{named_from}
use Rattle.ips_due.proofs.outstanding.answer.Outstanding.spoken.Goals as goal

pub returns-clause-named : goal.returns-clause-named
returns-clause-named c = λ bytes due t o out is.
    let named = c.args.self.now.named.items in
    let all : take c.loop-named.named-index named ≡ named = take_all c.loop-named.named-index named (omega (arith, c.loop-named-test.false, c.deref-named-items.ensures.len, c.args.self.now.named.ok.0)) in
    named_from bytes due t o named out is c.loop-named.spoken.items (c.loop-named.invariant.paths ∙ ap (λ (l : List Named). named_paths l) all) (c.loop-named.invariant.said ∙ ap (map (λ (n : Named). option_map said_of n.verdict)) all)
