use Rattle.ips_after.proofs.Sorted.{sorted_once}
use Rattle.ips_change.proofs.wanted.Found.{found_at, is_want, only_at}
use Rattle.ips_change.proofs.wanted.laws.meanings_are_wants.Goals as goal

pub returns : goal.returns
returns c = record {
  want = is_want;
  found = λ entries path entry order there. found_at entries path entry (sorted_once _ order) there;
  only = only_at;
}
