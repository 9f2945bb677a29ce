use Rattle.std.proofs.Common.{◌∙◌, sym, subst}
use Rattle.ips_text.specs.Mode.{IsOctal}
use Rattle.ips_conflict.proofs.Tabled.{mode_octal}
use Rattle.ips_conflict.proofs.alike.mode.Goals as goal

pub unreachable-requires : goal.unreachable-requires
unreachable-requires c = c.in-None.ensures.none (subst IsOctal (sym (c.as_bytes.ensures.value ∙ c.value.ensures.value)) (mode_octal c.args.action.now c.value.ensures.action c.requires))
