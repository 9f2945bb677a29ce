use Rattle.std.proofs.Common.{List, ℕ, subst}
use Rattle.ips_conflict.specs.Index.{has_path}
use Rattle.ips_aside.specs.Lost.{IsFirstFree, first_name_of}
use Rattle.ips_aside.proofs.free.free_name.Goals as goal

pub returns-in-Ok : goal.returns-in-Ok
returns-in-Ok c =
    let taken = has_path c.args.taken.now in
    let first = first_name_of c.args.root.now.bytes c.args.path.now.bytes c.args.put in
    let name = c.grow.new.name.items in
    subst (λ (l : List ℕ). IsFirstFree taken l first name) c.ending.ensures (subst (λ (l : List ℕ). IsFirstFree taken c.ending.result.now l name) c.in_ok-name.ensures c.in-Ok.ensures)
