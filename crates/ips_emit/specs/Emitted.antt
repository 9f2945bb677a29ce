-- The steps of paths in an order, with what is staged for them.
use Rattle.std.specs.Prelude.{◌≡◌, ℕ, List, [], ◌∷◌, ◌++◌, length, map}
use Rattle.ips_outside.specs.Image.{Image, file_bytes}
use Rattle.ips_digest.specs.Name.{spelling}
use Rattle.ips_steps.specs.Steps.{Step, Put, content_bytes}
use Rattle.ips_steps.specs.Targets.{IsTarget}
use Rattle.ips_steps.specs.View.{step_of}
use Rattle.ips_journal.specs.declared.staged.Staged.{Staged}
use Rattle.ips_journal.specs.declared.staged.Staged.TheVariants.{Payload, Bytes, Standing}
use Rattle.ips_after.specs.Change.{Change}
use Rattle.ips_after.specs.Planned.{next_step, with_content}
use Rattle.ips_change.specs.declared.change.Change.{Change as Told}
use Rattle.ips_change.specs.declared.change.Change.TheVariants as told
use Rattle.ips_emit.specs.declared.emitting.Emitted.{Emitted}

-- A path with what becomes of it.
abbrev pub Turn : Type 0
Turn = List ℕ × Change

-- The steps of these paths in their order, of which the first content has this number.
abbrev pub steps_in : ℕ → List Turn → List Step
steps_in k [] = []
steps_in k (x ∷ rest) = next_step x.1 k x.0 (λ n. steps_in n rest)

-- What is to be staged for them.
abbrev pub contents_in : List Turn → List (List ℕ)
contents_in [] = []
contents_in (x ∷ rest) = with_content x.1 (contents_in rest)

-- The bytes of the file that stands at a path; none where no file does.
abbrev pub bytes_at : Image → List ℕ → List ℕ
bytes_at t p = content_bytes (file_bytes (t.look p))

-- The bytes of what is staged, by the bytes of each payload and by what stands in the image.
abbrev pub staged_bytes : (List ℕ → List ℕ) → Image → Staged → List ℕ
staged_bytes bytes t (Payload name) = bytes (spelling name)
staged_bytes bytes t (Bytes given) = given.items
staged_bytes bytes t (Standing path) = bytes_at t path.bytes

-- Where a content comes from: a payload of the repository, by its spelling, bytes of its own, or the file at a path of the image.
pub data Provenance : Type 0 where
  FromPayload : List ℕ → Provenance
  OwnBytes : List ℕ → Provenance
  FromFile : List ℕ → Provenance

-- Where what is staged comes from.
abbrev pub provenance_of : Staged → Provenance
provenance_of (Payload name) = FromPayload (spelling name)
provenance_of (Bytes given) = OwnBytes given.items
provenance_of (Standing path) = FromFile path.bytes

-- Where the content of what becomes of a path by what is wanted comes from, if it has one: a payload.
abbrev pub provenances_told : Told → List Provenance
provenances_told (told.File payload mode) = FromPayload (spelling payload.now) ∷ []
provenances_told other = []

-- The steps are those of these paths in their order, and what is staged has just their contents, which come from there.
pub record IsEmitted (bytes : List ℕ → List ℕ) (t : Image) (turns : List Turn) (provenances : List Provenance) (e : Emitted) : Type 0 where
  pub steps : map step_of e.steps.items ≡ steps_in 0 turns
  pub staged : map (staged_bytes bytes t) e.staged.items ≡ contents_in turns
  pub provenances_are : map provenance_of e.staged.items ≡ provenances

-- One step more, that puts no file.
pub record HasStep (old new : Emitted) (s : Step) : Type 0 where
  pub step : map step_of new.steps.items ≡ map step_of old.steps.items ++ s ∷ []
  pub none : new.staged.items ≡ old.staged.items

-- One step more, that puts a file with this content.
pub record HasPut (old new : Emitted) (m : ℕ) (p : List ℕ) (content : Staged) : Type 0 where
  pub step : map step_of new.steps.items ≡ map step_of old.steps.items ++ Put (length old.staged.items) m p ∷ []
  pub last : new.staged.items ≡ old.staged.items ++ content ∷ []

-- Where a symbolic link is made, what it says is a target.
abbrev pub HasTarget : Told → Type 0
HasTarget (told.Link target) = IsTarget target.now
HasTarget other = Unit {0}
