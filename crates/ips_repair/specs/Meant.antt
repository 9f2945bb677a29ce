-- The image after a repair.
use Rattle.std.specs.Prelude.{ℕ, List}
use Rattle.ips_outside.specs.Image.{Image}
use Rattle.ips_state.specs.declared.state.State.{State}
use Rattle.ips_moment.specs.Moment.{IsMomentText}
use Rattle.ips_meaning.specs.declared.entry.Entry.{Entry}
use Rattle.ips_after.specs.Repaired.{IsRepaired}
use Rattle.ips_after.specs.Request.{Over}
use Rattle.ips_change.specs.wanted.Named.{is_payload_of}
use Rattle.ips_due.specs.Due.{IsOverOf}
use Rattle.ips_request_due.specs.repairs.Repairing.{repair_between, repair_due}
use Rattle.ips_due.specs.Asked.{AreMeant}
use Rattle.ips_image_steps.specs.staged_plans.Payloads.{payload_bytes}

-- The image is the one after a repair of another at this moment: by what the packages of the state mean, with the bytes that payloads have in the repository, and with the
-- history of the state.
pub record IsRepairedImage (moment : ℕ) (new : State) (repository t after : Image) : Type 0 where
  pub text : List ℕ
  pub is_text : IsMomentText moment text
  pub want : List (List ℕ × Entry)
  pub means : AreMeant new.settings new.mediators.items new.installed.items want
  pub over : Over
  pub is_over : IsOverOf (payload_bytes new.publisher repository) is_payload_of (repair_due new.history.items) t over
  pub image : IsRepaired text (repair_between want (payload_bytes new.publisher repository) is_payload_of over) t after
