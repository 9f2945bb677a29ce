use Rattle.std.proofs.Common.{◌≡◌, ℕ, true, List, Option, Some, IsTrue, subst, sym, ap}
use Rattle.ips_outside.specs.Image.{Entry, File, Image, is_file}
use Rattle.ips_outside.specs.Change.{with_entry_at}
use Rattle.ips_outside.proofs.Placed.{look_placed, placed_sole}
use Rattle.ips_folder_tests.proofs.outside.append.Goals as goal

-- what was made has one name
sole_at-placed : (p : List ℕ) (e : Option Entry) (t u : Image) → u ≡ with_entry_at p e t → (q : List ℕ) → u.same p q ≡ true → q ≡ p
sole_at-placed p e t u is q h = placed_sole p q e t (subst (λ (v : Image). v.same p q ≡ true) is h)

-- it is a file
file_at-placed : (p bytes : List ℕ) (mode : ℕ) (t u : Image) → u ≡ with_entry_at p (Some (File mode bytes)) t → IsTrue (is_file (u.look p))
file_at-placed p bytes mode t u is = subst (λ (v : Image). IsTrue (is_file (v.look p))) (sym is) (ap is_file (look_placed p (Some (File mode bytes)) t))

pub append-requires-clause-file : goal.append-requires-clause-file
append-requires-clause-file c = file_at-placed _ _ _ _ _ c.in-Ok.ensures.made

pub append-requires-clause-sole : goal.append-requires-clause-sole
append-requires-clause-sole c = sole_at-placed _ _ _ _ c.in-Ok.ensures.made
