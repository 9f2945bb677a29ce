use Rattle.std.proofs.Common.{◌≡◌, false}
use Rattle.std.specs.List.{list_any}
use Rattle.ips_text.specs.Ancestry.{same_path}
use Rattle.ips_commit.specs.Pending.{mark_names}
use Rattle.ips_commit.proofs.names.is_among.Given as goal

abbrev pub invariant-loop-before : goal.invariant-loop-before
invariant-loop-before l = list_any (λ m. same_path m l.path.bytes) (mark_names l.before) ≡ false
