-- When two decisions of an operation are the same.
use Rattle.ips_report.specs.declared.outcome.Outcome.{Outcome}
use Rattle.ips_run.specs.Exclusive.{PutsPayloadsOf}
use Rattle.ips_run.specs.declared.operation.Decision.{Decision}
use Rattle.ips_run.specs.declared.operation.Decision.TheVariants as decision
use Rattle.ips_laws.specs.answers.Same.{IsFixed, SayTheSame}

-- What is decided is fixed, where it is told as an outcome that is.
abbrev pub IsFixedDecision : Decision Outcome → Type 0
IsFixedDecision (decision.Shown o) = IsFixed o
IsFixedDecision (decision.Refused o) = IsFixed o
IsFixedDecision (decision.Change c) = Unit {0}
IsFixedDecision decision.Nothing = Unit {0}

-- Two decisions are the same: of one sort, and told the same; and two changes put the same payloads.
abbrev pub DecideTheSame : Decision Outcome → Decision Outcome → Type 0
DecideTheSame (decision.Shown a) (decision.Shown b) = SayTheSame a b
DecideTheSame (decision.Refused a) (decision.Refused b) = SayTheSame a b
DecideTheSame (decision.Change c) (decision.Change d) = SayTheSame c.told d.told × PutsPayloadsOf c d × PutsPayloadsOf d c
DecideTheSame decision.Nothing decision.Nothing = Unit {0}
DecideTheSame d e = ⊥

-- Of the fixed decisions that may be taken there is one.
abbrev pub DecidesOnce : (Decision Outcome → Type 0) → Type 0
DecidesOnce decides = (d e : Decision Outcome) → decides d → decides e → IsFixedDecision d → IsFixedDecision e → DecideTheSame d e
