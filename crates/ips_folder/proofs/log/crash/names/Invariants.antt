use Rattle.std.proofs.Common.{◌≡◌, true, ℕ, List, take}
use Rattle.ips_text.specs.Path.{IsPath}
use Rattle.ips_outside.specs.Tearing.{in_set}
use Rattle.ips_folder.specs.Crash.{names_it}
use Rattle.ips_folder.proofs.log.crash.names.Given as goal

abbrev pub invariant-loop-call : goal.invariant-loop-call
invariant-loop-call l = record {
  names : (q : List ℕ) → in_set l.names q ≡ names_it (take l.call-index l.calls) q;
  paths : (q : List ℕ) → in_set l.names q ≡ true → IsPath q;
}
