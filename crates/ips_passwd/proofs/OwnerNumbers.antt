-- Numbers of owners.
use Rattle.std.proofs.Common.{◌≡◌, ℕ, List}
use Rattle.ips_books.specs.Accounts.{Accounts, resolved}

-- Files of the same users and groups give the same numbers.
pub same_numbers : (a b : Accounts) (owner group : List ℕ) → a.passwd ≡ b.passwd → a.group ≡ b.group → resolved a owner group ≡ resolved b owner group
same_numbers a b owner group users groups = (λ i. resolved (record { passwd = users i; shadow = a.shadow; group = groups i }) owner group)
