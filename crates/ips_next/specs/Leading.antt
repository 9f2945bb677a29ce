-- What is promised of a call that makes the next state.
use Rattle.std.specs.Prelude.{◌≡◌, ℕ, ◌<◌, IsTrue, Result, Err, IfOk}
use Rattle.ips_text.specs.Reading.{IfBad}
use Rattle.ips_text.specs.declared.refusal.Or.{Or}
use Rattle.ips_text.specs.declared.refusal.Or.TheVariants.{Bad}
use Rattle.ips_outside.specs.Outside.{Outside, Reads}
use Rattle.ips_state.specs.State.{recorded}
use Rattle.ips_state.specs.Lawful.{IsLawful}
use Rattle.ips_state.specs.declared.state.State.{State}
use Rattle.ips_problem.specs.Asked.{tells_where}
use Rattle.ips_words.specs.declared.command.Command.{Command}
use Rattle.ips_asked.specs.Formed.{CanBeKept, IsFormed}
use Rattle.ips_asked.specs.Requested.{kind_asked}
use Rattle.ips_next.specs.Decided.{MayCome, looks}
use Rattle.ips_next.specs.Next.{ComesNext, IsNext, given}
use Rattle.ips_next.specs.declared.fault.NextFault.{NextFault}
use Rattle.ips_next.specs.declared.fault.NextFault.TheVariants.{SourceFault}

-- The state can be recorded, and so can what the command asks for, its words, and the moment at which it is carried out, which is before the year 9999.
pub record CanBeRecorded (old : State) (c : Command) (when : ℕ) : Type 0 where
  pub moment : when < 253370764800
  pub lawful : IsLawful (recorded old)
  pub formed : IsFormed c.what
  pub words : CanBeKept c.history

-- What is seen of the answer is the next state, which can be recorded, or there is none, for a cause that may come of the command and, where what is looked at is
-- told, is why; and the source is only looked at, where a call that failed is told as such.
pub record IsNextOrCause {X S : Type 0} (q : Outside S) (seen : X → State) (old : State) (c : Command) (moment : ℕ) (source after : S) (answer : Result X (Or NextFault)) : Type 0 where
  pub lawful : IfOk answer (λ x. IsLawful (recorded (seen x)))
  pub next : IsTrue (tells_where (looks (kind_asked c.what)) (q.tells source)) → IfOk answer (λ x. IsNext (given (recorded old) c moment (q.state source).held) (recorded (seen x)))
  pub refused : IsTrue (tells_where (looks (kind_asked c.what)) (q.tells source)) → IfBad answer (ComesNext (given (recorded old) c moment (q.state source).held))
  pub early : IfBad answer (MayCome (kind_asked c.what))
  pub reads : Reads q source after (answer ≡ Err (Bad SourceFault))
