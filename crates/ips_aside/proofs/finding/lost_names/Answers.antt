use Rattle.std.proofs.Common.{◌≡◌, map, sym, ◌∙◌, subst}
use Rattle.std.specs.List.Sorted.{IsPermutation, IsSortedBy}
use Rattle.ips_aside.specs.Lost.{comes_first, lost_of, lost_seen}
use Rattle.ips_aside.proofs.finding.lost_names.Goals as goal

pub returns-in-Ok : goal.returns-in-Ok
returns-in-Ok c =
    let just : map lost_seen c.name_all.new.names.items ≡ c.in_ok-lost.lost.items = c.in-Ok.ensures.just ∙ c.deref.ensures.value in
    record {
      just = subst (IsPermutation (lost_of c.args.sides.now)) (sym just) c.in_ok-lost.ensures.just;
      order = subst (IsSortedBy comes_first) (sym just) c.in_ok-lost.ensures.order;
      first_free = c.in-Ok.ensures.free;
    }
