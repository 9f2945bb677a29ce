-- From when on the new image is due.
use Rattle.std.specs.Prelude.{◌≡◌, ◌≢◌, ◌⊎◌, true, IsFalse, [], ◌∷◌, Option, Some, None}
use Rattle.ips_outside.specs.Image.{Entry, File, Image}
use Rattle.ips_outside.specs.State.{State, settled}
use Rattle.ips_outside.specs.Outside.{Outside, Elapses}
use Rattle.ips_folder.specs.Calls.{Throughout}
use Rattle.ips_steps.specs.Private.{gate_name}
use Rattle.ips_steps.specs.Owed.{FolderOwes}
use Rattle.ips_journal.specs.Text.{journal_text}

-- the gate's file, with the byte `1`
abbrev pub gate_file : Option Entry
gate_file = Some (File 384 (49 ∷ []))

-- Something stands at the gate, and no crash takes it away.
pub record IsSafelyOpen (s : State) : Type 0 where
  pub stands : s.held.look gate_name ≢ None
  pub safe : IsFalse (s.whole gate_name)

-- Committed since one call, the sync of the gate. Before it the gate's file was written, and the gate never safely open.
-- Behind it the gate is, and at every moment since then the folder owes the new image.
pub record IsDueSince {F : Type 0} (o : Outside F) (b a : Image) (old new : F) : Type 0 where
  pub before : F
  pub since : F
  pub not_yet : Throughout o old before (λ s. IsSafelyOpen s → ⊥)
  pub written : (o.state before).held.look gate_name ≡ gate_file
  pub call : Elapses o before since
  pub sync : o.state since ≡ settled (o.state before)
  pub is_open : IsSafelyOpen (o.state since)
  pub owed : Throughout o since new (FolderOwes journal_text b (Some a) true)

-- The commit point: either the gate was never safely open in this run, or since the call that opened it the new image is due.
abbrev pub DueOnceOpen : {F : Type 0} → Outside F → Image → Image → F → F → Type 0
DueOnceOpen o b a old new = Throughout o old new (λ s. IsSafelyOpen s → ⊥) ⊎ IsDueSince o b a old new
