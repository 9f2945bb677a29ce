-- The steps of a request from one state of an image to another.
use Rattle.std.specs.Prelude.{◌⊎◌, ℕ, IsTrue, List}
use Rattle.ips_outside.specs.Image.{Image, is_dir}
use Rattle.ips_steps.specs.Private.{records_name}
use Rattle.ips_after.specs.Request.{IsRequest, Over, Request}
use Rattle.ips_change.specs.wanted.Named.{is_payload_of}
use Rattle.ips_due.specs.Apart.{LeavesSalvage}
use Rattle.ips_due.specs.Asked.{request_between}
use Rattle.ips_due.specs.Due.{Due, IsOverOf}
use Rattle.ips_emit.specs.declared.emitting.Emitted.{Emitted}
use Rattle.ips_image_steps.specs.Asked.{SavesNothing}
use Rattle.ips_image_steps.specs.Answers.{HasSteps, IsHindered}
use Rattle.ips_plan.specs.declared.image_plan.between.Between.{Between}

-- The request between these states, with the bytes of each payload, in which account files and records say this.
abbrev pub said_between : Between → (List ℕ → List ℕ) → Over → Request
said_between b bytes over = request_between b.was.now b.is.now bytes is_payload_of over

-- Something is what account files and records say where this is due over the image, whatever the bytes of payloads.
abbrev pub HasOver : Due → Image → Type 0
HasOver due t = (bytes : List ℕ → List ℕ) → (over : Over) × IsOverOf bytes is_payload_of due t over

-- Account files and records say what isn't as it is due over the image, where the folder of the records stands; they fit what is wanted, and leave alone
-- what is salvaged, or nothing is saved.
pub record IsSaidBetween (b : Between) (due : Due) (t : Image) (bytes : List ℕ → List ℕ) (over : Over) : Type 0 where
  pub is_over : IsOverOf bytes is_payload_of due t over
  pub good : IsRequest (said_between b bytes over)
  pub stands : IsTrue (is_dir (t.look records_name))
  pub leaves : LeavesSalvage over ⊎ SavesNothing (said_between b bytes over) t

-- These are the steps of each request between these states, over the image, in which is said what isn't as it is due.
abbrev pub AreStepsBetween : List ℕ → Between → Due → Image → Emitted → Type 0
AreStepsBetween moment b due t emitted = (bytes : List ℕ → List ℕ) (over : Over) → IsSaidBetween b due t bytes over → HasSteps moment (said_between b bytes over) t emitted

-- The path is the first at which each such request can't be carried out.
abbrev pub IsHinderedBetween : List ℕ → Between → Due → Image → List ℕ → Type 0
IsHinderedBetween moment b due t path = (bytes : List ℕ → List ℕ) (over : Over) → IsSaidBetween b due t bytes over → IsHindered moment (said_between b bytes over) t path
