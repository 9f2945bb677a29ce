-- What is said of the image that a recovery leaves, wherever a run is stopped.
use Rattle.std.specs.Prelude.{◌≡◌, ℕ, List, None}
use Rattle.ips_outside.specs.Image.{Image}
use Rattle.ips_outside.specs.State.{State, MayLeave}
use Rattle.ips_steps.specs.Steps.{Step}
use Rattle.ips_steps.specs.Private.{gate_name, visible}
use Rattle.ips_steps.specs.Owed.{IsOpen}

-- What is seen of an image once what was stopped is brought to its end: behind a closed gate what is seen now; behind an open one what
-- the journal's steps that are left make.
pub data ShowsAtEnd (text : List Step → List ℕ) : Image → Image → Type 0 where
  Shut : {t u : Image} → t.look gate_name ≡ None → visible t ≡ u → ShowsAtEnd text t u
  Forward : {t u : Image} (steps : List Step) (marks : ℕ) → IsOpen text steps marks u t → ShowsAtEnd text t u

-- it leads to an image of which this is said
abbrev pub ShowsSomeAtEnd : (List Step → List ℕ) → (Image → Type 0) → Image → Type 0
ShowsSomeAtEnd text Q t = (u : Image) × ShowsAtEnd text t u × Q u

-- The image that is held leads to one of which this is said, and so does each that a crash now may leave.
pub record Keeps (text : List Step → List ℕ) (Q : Image → Type 0) (s : State) : Type 0 where
  pub now : ShowsSomeAtEnd text Q s.held
  pub left : (c : Image) → MayLeave s c → ShowsSomeAtEnd text Q c
