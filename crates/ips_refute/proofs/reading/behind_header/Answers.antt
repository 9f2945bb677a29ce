use Rattle.std.proofs.Common.{◌≡◌, ◌++◌, Bool, true, false, List, ℕ}
use Rattle.ips_refute.specs.Text.{header}
use Rattle.ips_refute.proofs.reading.behind_header.Goals as goal

neither : (bytes : List ℕ) → ((rest : List ℕ) → bytes ≡ header true ++ rest → ⊥) → ((rest : List ℕ) → bytes ≡ header false ++ rest → ⊥) → (counts : Bool) (rest : List ℕ) → bytes ≡ header counts ++ rest → ⊥
neither bytes counted plain true rest e = counted rest e
neither bytes counted plain false rest e = plain rest e

pub returns-in-None-behind_plain-clause-none : goal.returns-in-None-behind_plain-clause-none
returns-in-None-behind_plain-clause-none c = neither c.args.bytes.now c.in-None.ensures.none c.in-None-behind_plain.ensures.none
