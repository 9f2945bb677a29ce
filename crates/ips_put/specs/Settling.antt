-- How a folder is settled: what was stopped is brought to its end.
use Rattle.std.specs.Prelude.{◌≡◌, ◌⊎◌, Bool, List, Result, Ok, Err}
use Rattle.ips_text.specs.declared.refusal.Or.{Or}
use Rattle.ips_text.specs.declared.refusal.Or.TheVariants.{Bad, OutOfMemory}
use Rattle.ips_outside.specs.State.{State, settled}
use Rattle.ips_outside.specs.Outside.{Outside}
use Rattle.ips_kinds.specs.Tallies.{Carrier}
use Rattle.ips_commit.specs.Calls.{Recovers}
use Rattle.ips_commit.specs.Pending.{IsBare}
use Rattle.ips_commit.specs.declared.fault.CommitFault.{CommitFault}
use Rattle.ips_commit.specs.declared.fault.CommitFault.TheVariants.{Unchanged, Unfinished, BadJournal}

-- how a settling ends: it is done, or why it isn't
abbrev pub Settled : Type 0
Settled = Result (Unit {0}) (Or CommitFault)

-- a call failed before anything was to be recovered, or memory was refused
abbrev pub IsUnopened : Settled → Type 0
IsUnopened (Ok done) = ⊥
IsUnopened (Err (Bad Unchanged)) = Unit {0}
IsUnopened (Err (Bad Unfinished)) = ⊥
IsUnopened (Err (Bad (BadJournal line))) = ⊥
IsUnopened (Err OutOfMemory) = Unit {0}

-- a settling ends as its recovery does, whether that went forward or only swept
abbrev pub EndsAs : Result Bool (Or CommitFault) → Settled → Type 0
EndsAs (Ok forward) x = x ≡ Ok tt
EndsAs (Err why) x = x ≡ Err why

-- From a state with nothing touched: it is as it was, where a call failed or memory was refused; it is as it was, and nothing is pending; or what was stopped is brought to its end, as a recovery does.
pub data SettlesFrom {F : Type 0} (o : Outside F) (s : State) (new : F) (before now : List Carrier) (x : Settled) : Type 0 where
  IsUnseen : o.state new ≡ s → now ≡ before → IsUnopened x → SettlesFrom o s new before now x
  HasNothing : o.state new ≡ s → now ≡ before → IsBare s.held → x ≡ Ok tt → SettlesFrom o s new before now x
  IsRecovered : (from : F) (r : Result Bool (Or CommitFault)) → o.state from ≡ s → Recovers o from new before now r → EndsAs r x → SettlesFrom o s new before now x

-- What was written before is made safe, and then it is settled; or that failed, and nothing happened.
abbrev pub Settles : {F : Type 0} → Outside F → F → F → List Carrier → List Carrier → Settled → Type 0
Settles o old new before now x = ((o.state new ≡ o.state old) × (now ≡ before) × IsUnopened x) ⊎ SettlesFrom o (settled (o.state old)) new before now x
