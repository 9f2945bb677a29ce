use Rattle.std.proofs.Common.{◌≡◌, ℕ, Some, length, slice_get}
use Rattle.ips_refute.specs.declared.nogoods.Reason.{Reason}
use Rattle.ips_search.specs.Renumbering.{Renames}
use Rattle.ips_search.proofs.pruning.renamed_reasons.Given as goal

abbrev pub invariant-loop-reason : goal.invariant-loop-reason
invariant-loop-reason l = (length l.renamed.items ≡ l.reason-index) × ((c : ℕ) (r s : Reason) → slice_get l.reasons c ≡ Some r → slice_get l.renamed.items c ≡ Some s → Renames l.places r s)
