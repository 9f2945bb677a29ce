use Rattle.std.proofs.Common.{◌≡◌, ◌++◌, string_bytes, take}
use Rattle.ips_shown.specs.Shown.{list_text}
use Rattle.ips_shown.proofs.packages.push_packages.Given as goal

abbrev pub invariant-loop-held : goal.invariant-loop-held
invariant-loop-held l = string_bytes l.out ≡ string_bytes l.fn.out ++ list_text (take l.held-index l.packages)
