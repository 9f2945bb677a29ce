use Rattle.std.proofs.Common.{◌∙◌, ◌||◌, List, ℕ, ap, bytes_eq}
use Rattle.ips_request.specs.Stems.{has}
use Rattle.ips_request.proofs.Inserted.{has_inserted}
use Rattle.ips_asked.proofs.avoiding.add.Goals as goal

pub returns : goal.returns
returns c = λ other.
    ap (has other) c.in_ok-insert.ensures.keys ∙ has_inserted other c.in_ok-copy.copy c.args.all.now.keys
    ∙ ap (λ (s : List ℕ). bytes_eq other s || has other c.args.all.now.keys) c.in_ok-copy.ensures
