-- Where what is staged for the steps of a request comes from.
use Rattle.std.specs.Prelude.{◌≡◌, ◌++◌, ℕ, List, length}
use Rattle.std.specs.List.{AllByRecursion}
use Rattle.ips_outside.specs.Image.{Image}
use Rattle.ips_after.specs.Request.{Request}
use Rattle.ips_after.specs.Salvage.{Aside}
use Rattle.ips_change.specs.Told.{naming}
use Rattle.ips_emit.specs.Emitted.{FromFile, FromPayload, OwnBytes, Provenance, contents_in}
use Rattle.ips_image_steps.specs.draft.Drafting.{turns_saving}
use Rattle.ips_image_steps.specs.saving.Saving.{IsSavedFrom}

-- A content is no copy of a file of the image: it is a payload, or bytes of its own.
abbrev pub IsNoCopy : Provenance → Type 0
IsNoCopy (FromPayload payload) = Unit {0}
IsNoCopy (OwnBytes b) = Unit {0}
IsNoCopy (FromFile p) = ⊥

-- The contents come from where they should: first those of what is saved, as many as its steps put, each copied from the file that is saved or a payload that is put
-- beside a path; then those of the plan, of which none is a copy.
pub record HasSources (r : Request) (t : Image) (a : Aside) (asides : List (List ℕ)) (sources : List Provenance) : Type 0 where
  pub saved : List Provenance
  pub laid : List Provenance
  pub are : sources ≡ saved ++ laid
  pub counted : length saved ≡ length (contents_in (turns_saving r t a asides))
  pub copied : AllByRecursion (IsSavedFrom (naming r) t) saved
  pub uncopied : AllByRecursion IsNoCopy laid
