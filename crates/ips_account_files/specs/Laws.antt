-- What holds of the account files that are due.
use Rattle.std.specs.Prelude.{◌≡◌, ℕ, ◌<◌, IsTrue, List, [], ◌∷◌, Some, None, is_some}
use Rattle.ips_outside.specs.Image.{File}
use Rattle.ips_after.specs.Findings.{is_account_path}
use Rattle.ips_due.specs.Due.{DueFile, account_at}

-- No two of the files have one path.
abbrev pub AreApart : List DueFile → Type 0
AreApart [] = Unit {0}
AreApart (f ∷ files) = (account_at files f.path ≡ None) × AreApart files

-- The files are at paths of account files.
abbrev pub AreAccounts : List DueFile → Type 0
AreAccounts files = (q : List ℕ) → IsTrue (is_some (account_at files q)) → IsTrue (is_account_path q)

-- The modes of the files are permission bits.
abbrev pub HaveSmallModes : List DueFile → Type 0
HaveSmallModes files = (q : List ℕ) (m : ℕ) (b : List ℕ) → account_at files q ≡ Some (File m b) → m < 4096
