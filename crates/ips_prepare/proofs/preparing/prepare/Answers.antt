use Rattle.std.proofs.Common.{◌≡◌, ◌++◌, List, ◌∙◌, subst}
use Rattle.ips_filling.specs.declared.filled.Filled.{Filled}
use Rattle.ips_sends.specs.Published.{fmri_text, named_actions}
use Rattle.ips_prepare.specs.Prepared.{actions_of, actions_filled}
use Rattle.ips_prepare.proofs.Entries.{actions_joined}
use Rattle.ips_prepare.proofs.preparing.prepare.Goals as goal

pub returns-in-Ok-clause-named : goal.returns-in-Ok-clause-named
returns-in-Ok-clause-named c =
    let fmri = fmri_text c.args.publisher.now c.args.stem.now c.args.version.now in
    actions_joined c.in_ok-lines.lines.items c.add_all.new.prepared.manifest.lines.items c.args.filled.items c.in-Ok.ensures.lines
    ∙ subst (λ (l : List Filled). actions_of c.in_ok-lines.lines.items ++ actions_filled l ≡ named_actions fmri (actions_filled l)) c.as_slice.ensures.value c.in_ok-lines.ensures.named
