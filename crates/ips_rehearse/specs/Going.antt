-- Directories that go.
use Rattle.std.specs.Prelude.{◌≡◌, ◌⊎◌, ℕ, Bool, IsTrue, List, Some}
use Rattle.std.specs.List.{list_any}
use Rattle.ips_text.specs.Ancestry.{covers}
use Rattle.ips_text.specs.Kept.{Kept}
use Rattle.ips_outside.specs.Children.{is_child}
use Rattle.ips_outside.specs.Image.{Image, Dir}
use Rattle.ips_steps.specs.Steps.{path_of}
use Rattle.ips_steps.specs.View.{step_of}
use Rattle.ips_steps.specs.declared.step.Step.{Step}
use Rattle.ips_rehearse.specs.Asked.{may_take}
use Rattle.ips_rehearse.specs.Tried.{in_modes}

-- Where a directory that holds something goes with the step, at its path or below, its mode is among these.
abbrev pub IsFound : Image → (List ℕ → Bool) → List Bool → Step → Type 0
IsFound t made has s = (m : ℕ) (f : Bool) (d q : List ℕ) → IsTrue (may_take made (step_of s)) → IsTrue (covers (path_of (step_of s)) d) → t.look d ≡ Some (Dir m f) → IsTrue (is_child t d q) → IsTrue (in_modes has m)

-- the path is at or below one of these
abbrev pub is_under : List Kept → List ℕ → Bool
is_under paths d = list_any (λ p. covers p.bytes d) paths

-- Where a directory stands at the path that holds something, its mode is among these, or the path is at or below one of these.
abbrev pub IsMet : Image → List Bool → List Kept → List ℕ → Type 0
IsMet t has left d = (m : ℕ) (f : Bool) (q : List ℕ) → t.look d ≡ Some (Dir m f) → IsTrue (is_child t d q) → IsTrue (in_modes has m) ⊎ IsTrue (is_under left d)
