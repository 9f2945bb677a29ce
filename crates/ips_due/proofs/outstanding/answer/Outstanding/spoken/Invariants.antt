use Rattle.std.proofs.Common.{◌≡◌, map, take}
use Rattle.std.specs.Option.{option_map}
use Rattle.ips_change.specs.survey.Tables.{spoken_paths}
use Rattle.ips_due.specs.outstanding.Verdicts.{named_paths, said_of}
use Rattle.ips_due.proofs.outstanding.answer.Outstanding.spoken.Given as goal

abbrev pub invariant-loop-named : goal.invariant-loop-named
invariant-loop-named l = record {
  paths : spoken_paths l.spoken.items ≡ named_paths (take l.named-index l.self.named.items);
  said : map (λ s. s.said) l.spoken.items ≡ map (λ n. option_map said_of n.verdict) (take l.named-index l.self.named.items);
}
