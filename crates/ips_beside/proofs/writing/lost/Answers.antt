use Rattle.std.proofs.Common.{ℕ, List, subst}
use Rattle.std.specs.Str.{IsUtf8}
use Rattle.ips_text.specs.declared.path.PathFault.TheVariants.{NotText}
use Rattle.ips_beside.proofs.writing.lost.Goals as goal

pub unreachable-requires : goal.unreachable-requires
unreachable-requires c =
    let IsNoText : List ℕ → Type 0 = λ bytes. IsUtf8 bytes → ⊥ in
    c.bytes.ensures.path NotText (subst IsNoText c.bytes.ensures.value c.in_default.ensures.cases.0)
