use Rattle.std.proofs.Common.{ap, sym, ◌∙◌, Ok, Err}
use Rattle.ips_line.proofs.Answered.{words_found, words_only, words_exact, stopped_line, stopped_only, stopped_exact}
use Rattle.ips_line.proofs.Opened.{left_within, fault_told}
use Rattle.ips_line.proofs.words.read_words.Goals as goal

pub fault-requires-clause-left : goal.fault-requires-clause-left
fault-requires-clause-left c = (left_within _ c.in-Err-Bad.stop (stopped_line _ c.in-Err-Bad.stop (rw c.in-Err-Bad.field-0-is at c.in-Err-Bad.ensures))).0

pub fault-requires-clause-open : goal.fault-requires-clause-open
fault-requires-clause-open c = (left_within _ c.in-Err-Bad.stop (stopped_line _ c.in-Err-Bad.stop (rw c.in-Err-Bad.field-0-is at c.in-Err-Bad.ensures))).1

pub returns-in-Ok-clause-found : goal.returns-in-Ok-clause-found
returns-in-Ok-clause-found c = words_found _ _ c.in-Ok.ensures

pub returns-in-Ok-clause-only : goal.returns-in-Ok-clause-only
returns-in-Ok-clause-only c = λ line h text. ap Ok (words_only _ line _ c.in-Ok.ensures h text)

pub returns-in-Ok-clause-exact : goal.returns-in-Ok-clause-exact
returns-in-Ok-clause-exact c = words_exact _ _ c.in-Ok.ensures

pub returns-in-Err-Bad-clause-only : goal.returns-in-Err-Bad-clause-only
returns-in-Err-Bad-clause-only c = λ line h text. absurd (stopped_only _ line c.in-Err-Bad.stop (rw c.in-Err-Bad.field-0-is at c.in-Err-Bad.ensures) h text)

pub returns-in-Err-Bad-clause-fault : goal.returns-in-Err-Bad-clause-fault
returns-in-Err-Bad-clause-fault c = rw (c.fault.ensures) (fault_told _ c.in-Err-Bad.stop (stopped_line _ c.in-Err-Bad.stop (rw c.in-Err-Bad.field-0-is at c.in-Err-Bad.ensures)))

pub returns-in-Err-Bad-clause-exact : goal.returns-in-Err-Bad-clause-exact
returns-in-Err-Bad-clause-exact c = stopped_exact _ c.in-Err-Bad.stop (rw c.in-Err-Bad.field-0-is at c.in-Err-Bad.ensures) ∙ ap (λ e. Err e) (sym c.fault.ensures)
