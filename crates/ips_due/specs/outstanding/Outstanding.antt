-- Which account files and records aren't as they are due.
use Rattle.std.specs.Prelude.{◌≡◌, ℕ, List, map, is_some, IsTrue}
use Rattle.std.specs.List.Sorted.{IsStrictlySortedBy}
use Rattle.std.specs.Ordering.{nat_cmp}
use Rattle.std.specs.Cmp.Lexicographic.{slice_cmp}
use Rattle.ips_text.specs.Ancestry.{covers, is_below}
use Rattle.ips_outside.specs.Image.{Image}
use Rattle.ips_after.specs.Findings.{is_account_path}
use Rattle.ips_after.specs.Lists.{listed}
use Rattle.ips_after.specs.Request.{Over}
use Rattle.ips_change.specs.wanted.Named.{is_payload_of}
use Rattle.ips_due.specs.Due.{Due, said}
use Rattle.ips_due.specs.declared.outstanding.verdict.Named.{Named}
use Rattle.ips_due.specs.outstanding.Verdicts.{meant, named_paths}

-- Just the paths of which account files and records speak where this is due, and those above them, by their bytes, each once, with what is said of each.
pub record AreOutstanding (bytes : List ℕ → List ℕ) (due : Due) (t : Image) (named : List Named) : Type 0 where
  pub order : IsStrictlySortedBy (slice_cmp nat_cmp) (named_paths named)
  pub each : map (λ n. meant bytes due n.verdict) named ≡ map (said bytes is_payload_of due t) (named_paths named)
  pub keyed : (q : List ℕ) → IsTrue (is_some (said bytes is_payload_of due t q)) → IsTrue (listed (named_paths named) q)
  pub closed : (p q : List ℕ) → IsTrue (is_below p q) → IsTrue (listed (named_paths named) q) → IsTrue (listed (named_paths named) p)
  pub only : (p : List ℕ) → IsTrue (listed (named_paths named) p) → (q : List ℕ) × IsTrue (covers p q) × IsTrue (is_some (said bytes is_payload_of due t q))

-- What account files and records say where this is due, with these paths as those that they name.
abbrev pub over_of : (List ℕ → List ℕ) → Due → Image → List (List ℕ) → Over
over_of bytes due t keys = record { at = said bytes is_payload_of due t; is_account = is_account_path; keys = keys }
