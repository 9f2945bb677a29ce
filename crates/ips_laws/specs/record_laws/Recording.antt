-- An image that is made, a request or a repair that is carried out on an image which holds a state, and what then is loaded.
use Rattle.std.specs.Prelude.{◌≡◌, ℕ, ◌≤◌, length, None}
use Rattle.std.specs.List.{AllByRecursion}
use Rattle.ips_outside.specs.Image.{Image, IsImage}
use Rattle.ips_steps.specs.Private.{visible}
use Rattle.ips_records.specs.Lines.{lines_text}
use Rattle.ips_load.specs.Held.{Holds, record_limit}
use Rattle.ips_state.specs.Lawful.{IsLawful}
use Rattle.ips_state.specs.Records.{RecordFile, records_of}
use Rattle.ips_state.specs.State.{Recorded, recorded}
use Rattle.ips_state.specs.declared.state.State.{State}
use Rattle.ips_plan.specs.created.Made.{IsBlank, image_made}
use Rattle.ips_repair.specs.Meant.{IsRepairedImage}
use Rattle.ips_plan.specs.requested.Meant.{IsMeant}

-- No record of the state has more bytes than a record may have.
abbrev pub AreWithin : Recorded → Type 0
AreWithin r = AllByRecursion (λ (e : RecordFile). length e.1 ≤ record_limit) (records_of r)

-- The new state has an index where the old one has one.
abbrev pub KeepsIndex : Recorded → Recorded → Type 0
KeepsIndex old new = new.index ≡ None → old.index ≡ None

-- The second image is the first one made with the state, in which nothing is installed; the state can be recorded within the limits.
pub record IsMadeOf (new : State) (t after : Image) : Type 0 where
  pub is : after ≡ image_made (recorded new) t
  pub blank : IsBlank new
  pub lawful : IsLawful (recorded new)
  pub within : AreWithin (recorded new)

-- The second image is what is seen after the request from the old state to the new one over the first, which holds the old; the new one can be recorded within the limits and keeps an index.
pub record IsRequestedOf (moment : ℕ) (old new : State) (repository t after : Image) : Type 0 where
  pub meant : IsMeant moment old new repository t after
  pub formed : IsImage t
  pub held : Holds t (recorded old)
  pub lawful : IsLawful (recorded new)
  pub within : AreWithin (recorded new)
  pub index : KeepsIndex (recorded old) (recorded new)

-- The second image is the first one repaired, which holds the old state; the new state is the old one with another history, and can be recorded within the limit.
pub record IsRepairedOf (moment : ℕ) (old : Recorded) (new : State) (repository t after : Image) : Type 0 where
  pub image : IsRepairedImage moment new repository t after
  pub formed : IsImage t
  pub held : Holds t old
  pub noted : recorded new ≡ record old { history = new.history.items }
  pub lawful : IsLawful (recorded new)
  pub within : length (lines_text new.history.items) ≤ record_limit

-- What is seen holds this state, and so does each image of which it is what is seen; no such image holds another.
pub record HoldsJust (seen : Image) (r : Recorded) : Type 0 where
  pub holds : Holds seen r
  pub whole : (t : Image) → visible t ≡ seen → Holds t r
  pub only : (t : Image) (loaded : Recorded) → visible t ≡ seen → Holds t loaded → loaded ≡ r
