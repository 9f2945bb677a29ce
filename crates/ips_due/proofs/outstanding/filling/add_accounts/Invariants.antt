use Rattle.std.proofs.Common.{◌≡◌, ℕ, List, map, take}
use Rattle.ips_due.specs.Due.{Due, account_at}
use Rattle.ips_due.specs.outstanding.Noted.{Adds, AreMarked, account_said}
use Rattle.ips_due.specs.outstanding.Parts.{due_file}
use Rattle.ips_due.proofs.outstanding.Meant.{account_path}
use Rattle.ips_due.proofs.outstanding.filling.add_accounts.Given as goal

abbrev pub invariant-loop-number : goal.invariant-loop-number
invariant-loop-number l = record {
  marked : AreMarked l.notes;
  noted : (bytes : List ℕ → List ℕ) (due : Due) → due.accounts ≡ map due_file l.accounts → Adds bytes due l.initial.notes l.notes (map account_path (take l.number l.accounts)) (λ q. account_said (account_at due.accounts q));
}
