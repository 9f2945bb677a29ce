use Rattle.std.proofs.Common.{◌≡◌, ◌==◌, inr, Err, subst}
use Rattle.ips_text.specs.declared.refusal.Or.TheVariants.{Bad}
use Rattle.ips_outside.specs.Image.{Image}
use Rattle.ips_load.specs.HeadLines.{head_read}
use Rattle.ips_load.specs.declared.fault.StateFault.TheVariants.{FolderFault}
use Rattle.ips_load.proofs.Answered.{bad_weaker}
use Rattle.ips_image.specs.Whole.{IsBehindFault}
use Rattle.ips_image.proofs.Told.{still_told, still_held}
use Rattle.ips_image.proofs.loading.load.Goals as goal

pub returns-in-Ok-clause-fault : goal.returns-in-Ok-clause-fault
returns-in-Ok-clause-fault g c = λ told.
    let o = g.F.Source.outside in
    let failed = c.load_heading.result ≡ Err (Bad FolderFault) in
    let same = still_held o c.args.folder.now c.load_heading.new.folder failed c.load_heading.ensures.reads in
    bad_weaker c.load_behind.result _ _ (λ f h. inr (head_read c.in-Ok.heading, c.in-Ok.ensures.lawful, c.in-Ok.ensures.found told, subst (λ (x : Image). IsBehindFault (c.in-Ok.heading.format == 1) x f) same h))
    (c.load_behind.ensures.fault (still_told o c.args.folder.now c.load_heading.new.folder failed c.load_heading.ensures.reads told))
