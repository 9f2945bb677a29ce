use Rattle.std.proofs.Common.{true, refl, ◌∙◌}
use Rattle.ips_account_files.proofs.ledger.Bases.{base_is}
use Rattle.ips_account_files.proofs.ledger.laws.bases_are_what_is_left.Goals as goal

pub returns : goal.returns
returns c = λ t rows s replaced path default publisher repository text mode r said base good table silent are marks payloads.
    let of = base.leaves refl r said good table silent are marks in
    let read = base_is r.bytes (t.look path) true true publisher repository default _ base.left text refl refl base.reads payloads of.is in
    (read.0, base.gives ∙ read.1)
