use Rattle.std.proofs.Common.{◌∙◌, refl}
use Rattle.ips_generate.proofs.generating.generate.Goals as goal

pub returns : goal.returns
returns c = c.new.ensures ∙ rw (c.in_ok-fill.ensures, c.new-tree.ensures) refl
