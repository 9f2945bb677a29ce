use Rattle.std.proofs.Common.{◌∙◌, sym}
use Rattle.std.proofs.lemmas.Slice.Eq.{bytes_eq-Decides}
use Rattle.ips_next.proofs.Comparing.{version_same}
use Rattle.ips_next.proofs.alike.PackageAlike.is_like.Goals as goal

pub returns-then-eq : goal.returns-then-eq
returns-then-eq c =
    let one = c.args.self.now in
    let other = c.args.other.now in
    let same = version_same one.version other.version c.eq-then-eq.result c.eq-then-eq.ensures in
    (λ t. ((bytes_eq-Decides one.stem other.stem).0 (sym c.eq.ensures ∙ c.if-eq.true), same.0 t), λ both. same.1 both.1)
