use Rattle.std.proofs.Common.{◌≡◌, map}
use Rattle.ips_due.specs.outstanding.Noted.{told}
use Rattle.ips_due.specs.outstanding.Verdicts.{named_paths}
use Rattle.ips_due.proofs.outstanding.finding.collect.Given as goal

abbrev pub invariant-loop-key : goal.invariant-loop-key
invariant-loop-key l = record {
  paths : named_paths l.named.items ≡ map (λ k. k.now.items) l.yielded;
  said : map (λ n. n.verdict) l.named.items ≡ map (told l.notes) (named_paths l.named.items);
}
