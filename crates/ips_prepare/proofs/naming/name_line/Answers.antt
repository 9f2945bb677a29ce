use Rattle.std.proofs.Common.{ℕ, List, ◌∙◌, ap}
use Rattle.ips_action.specs.Attrs.{Attr}
use Rattle.ips_sends.specs.Published.{name_action}
use Rattle.ips_prepare.proofs.Named.{set_of, name_stands}
use Rattle.ips_prepare.proofs.naming.name_line.Goals as goal

pub returns-clause-stands : goal.returns-clause-stands
returns-clause-stands c =
    name_stands c.args.publisher.now c.args.stem.now c.args.version.now c.requires.publisher c.requires.stem c.requires.version (record { number = 1; action = set_of c.in_ok-attrs.attrs })
    (ap (λ (l : List Attr). set_of l) (c.in_ok-attrs.ensures ∙ ap (λ (f : List ℕ). (name_action f).attrs) c.in_ok-fmri.ensures))
