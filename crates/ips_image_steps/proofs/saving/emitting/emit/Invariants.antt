use Rattle.std.proofs.Common.{◌++◌, ℕ, List}
use Rattle.ips_outside.specs.Image.{Image}
use Rattle.ips_emit.specs.Emitted.{IsEmitted, Provenance, Turn}
use Rattle.ips_image_steps.specs.saving.Saving.{provenances_at, turns_at}
use Rattle.ips_image_steps.proofs.saving.Emission.{paths_through}
use Rattle.ips_image_steps.proofs.saving.emitting.emit.Given as goal

abbrev pub invariant-loop-path : goal.invariant-loop-path
invariant-loop-path l = record {
  so_far : (bytes : List ℕ → List ℕ) (t : Image) (turns : List Turn) (provenances : List Provenance) → IsEmitted bytes t turns provenances l.fn.emitted
      → IsEmitted bytes t (turns ++ turns_at bytes t l.saved (paths_through l.yielded)) (provenances ++ provenances_at l.saved (paths_through l.yielded)) l.emitted;
}
