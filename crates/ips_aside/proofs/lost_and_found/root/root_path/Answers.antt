use Rattle.std.proofs.Common.{◌≡◌, sym, ◌∙◌, subst}
use Rattle.ips_text.specs.Path.{IsPath}
use Rattle.ips_after.specs.Salvage.{root_name}
use Rattle.ips_aside.proofs.lost_and_found.Names.{root_is_path}
use Rattle.ips_aside.proofs.lost_and_found.root.root_path.Goals as goal

pub unreachable-requires : goal.unreachable-requires
unreachable-requires c =
    let bytes : c.as_bytes.result.now ≡ root_name c.args.moment.now c.args.number = c.as_bytes.ensures.value ∙ c.in_ok-text.ensures in
    (rw c.in-Err-Bad.field-0-is at c.in-Err-Bad.ensures.only) (subst IsPath (sym bytes) (root_is_path c.args.moment.now c.args.number c.requires.moment c.requires.number))
