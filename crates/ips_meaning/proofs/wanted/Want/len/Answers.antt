use Rattle.std.proofs.Common.{◌∙◌, List, ℕ, map, sym, ap, subst}
use Rattle.std.specs.List.Sorted.{IsStrictlySortedBy}
use Rattle.std.specs.Ordering.{nat_cmp}
use Rattle.std.specs.Cmp.Lexicographic.{slice_cmp}
use Rattle.ips_meaning.specs.declared.entry.Entry.{Entry}
use Rattle.ips_meaning.proofs.Wants.{first_paths}
use Rattle.ips_meaning.proofs.wanted.Want.len.Goals as goal

pub returns-clause-in_order : goal.returns-clause-in_order
returns-clause-in_order c =
    subst (IsStrictlySortedBy (slice_cmp nat_cmp)) (sym (ap (map (λ (e : List ℕ × Entry). e.0)) (sym c.self.view_is) ∙ first_paths c.self.inside.entries.items)) c.self.invariant
