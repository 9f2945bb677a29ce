-- When a tree refuses an entry.
use Rattle.std.specs.Prelude.{◌≡◌, ℕ, cond, List, Option, Some, None, is_some, Result, Err}
use Rattle.ips_text.specs.Reading.{IfBad}
use Rattle.ips_text.specs.declared.refusal.Or.{Or}
use Rattle.ips_text.specs.declared.refusal.Or.TheVariants.{Bad}
use Rattle.ips_outside.specs.Image.{Image, has_parent, is_file}
use Rattle.ips_outside.specs.declared.refusal.TreeFault.{TreeFault}
use Rattle.ips_outside.specs.declared.refusal.TreeFault.TheVariants.{NoParent, Taken, NoFile}

-- Why nothing can be made at a path: its parent is no directory, or else something stands there.
abbrev pub fault_at : Image → List ℕ → Option TreeFault
fault_at t p = cond (has_parent t p) (cond (is_some (t.look p)) (Some Taken) None) (Some NoParent)

-- Why no further name can be made at the first path of the file at the second: nothing can be made there, or else no
-- file stands at the second path.
abbrev pub hard_fault_at : Image → List ℕ → List ℕ → Option TreeFault
hard_fault_at t p to = cond (has_parent t p) (cond (is_some (t.look p)) (Some Taken) (cond (is_file (t.look to)) None (Some NoFile))) (Some NoParent)

-- The answer is this fault where there is one, and no fault where there is none. Memory may run out where there is none.
abbrev pub Refuses : {T E : Type 0} → Option E → Result T (Or E) → Type 0
Refuses (Some fault) result = result ≡ Err (Bad fault)
Refuses None result = IfBad result (λ _. ⊥)
