-- The next state, or why there is none, seen of one answer or another.
use Rattle.std.proofs.Common.{◌≡◌, ℕ, Result, Ok, Err}
use Rattle.ips_text.specs.declared.refusal.Or.{Or}
use Rattle.ips_text.specs.declared.refusal.Or.TheVariants.{Bad, OutOfMemory}
use Rattle.ips_outside.specs.Outside.{Outside}
use Rattle.ips_outside.proofs.Reading.{reads_as, reads_none}
use Rattle.ips_state.specs.declared.state.State.{State}
use Rattle.ips_words.specs.declared.command.Command.{Command}
use Rattle.ips_next.specs.Leading.{IsNextOrCause}
use Rattle.ips_next.specs.declared.fault.NextFault.{NextFault}
use Rattle.ips_next.specs.declared.fault.NextFault.TheVariants.{SourceFault}

module _ {X S : Type 0} (q : Outside S) (seen : X → State) (old : State) (c : Command) (moment : ℕ) (source after : S) where
  -- a state that is answered as it is seen
  pub led_seen : (x : X) → IsNextOrCause q seen old c moment source after (Ok x) → IsNextOrCause {X = State} q (λ state. state) old c moment source after (Ok (seen x))
  led_seen x is = record {
    lawful = is.lawful;
    next = is.next;
    refused = λ told. tt;
    early = tt;
    reads = reads_as q source after _ _ is.reads (λ failed. cc) (λ failed. cc);
  }

  -- a cause that is handed on
  pub led_bad : (e : Or NextFault) → IsNextOrCause q seen old c moment source after (Err e) → IsNextOrCause {X = State} q (λ state. state) old c moment source after (Err e)
  led_bad (Bad why) is = record {
    lawful = tt;
    next = λ told. tt;
    refused = is.refused;
    early = is.early;
    reads = reads_as q source after _ _ is.reads (λ failed. cc) (λ failed. cc);
  }
  led_bad OutOfMemory is = record {
    lawful = tt;
    next = λ told. tt;
    refused = λ told. tt;
    early = tt;
    reads = reads_as q source after _ _ is.reads (λ failed. cc) (λ failed. cc);
  }

-- memory ran out before any call
pub starved_before : {X S : Type 0} (q : Outside S) (seen : X → State) (old : State) (c : Command) (moment : ℕ) (source : S) → IsNextOrCause q seen old c moment source source (Err OutOfMemory)
starved_before {X} q seen old c moment source = record {
  lawful = tt;
  next = λ told. tt;
  refused = λ told. tt;
  early = tt;
  reads = reads_none q source _ (λ e. never SourceFault e);
}
  where
    never : (why : NextFault) → ◌≡◌ {A = Result X (Or NextFault)} (Err OutOfMemory) (Err (Bad why)) → ⊥
    never why e = cc
