use Rattle.std.proofs.Common.{◌≡◌, inr, Err, subst}
use Rattle.ips_text.specs.declared.refusal.Or.TheVariants.{Bad}
use Rattle.ips_outside.specs.Image.{Image}
use Rattle.ips_load.specs.HeadLines.{head_read}
use Rattle.ips_load.specs.Fault.{IsHeadFile, StandsAs}
use Rattle.ips_load.specs.declared.fault.StateFault.TheVariants.{FolderFault}
use Rattle.ips_state.specs.Records.{image_path}
use Rattle.ips_load.proofs.Answered.{bad_weaker}
use Rattle.ips_image.specs.Fault.{IsIndexFault}
use Rattle.ips_image.proofs.Told.{still_told, still_held, ok_any, heading_stands}
use Rattle.ips_image.proofs.index.load_index.Goals as goal

pub returns-in-Ok-clause-image : goal.returns-in-Ok-clause-image
returns-in-Ok-clause-image g c = λ told.
    let t = (g.F.Source.outside.state c.args.folder.now).held in
    ok_any c.index_of.result (StandsAs IsHeadFile t image_path) (heading_stands t (head_read c.in-Ok.field-0) c.in-Ok.ensures.lawful (c.in-Ok.ensures.found told))

pub returns-in-Ok-clause-fault : goal.returns-in-Ok-clause-fault
returns-in-Ok-clause-fault g c = λ told.
    let o = g.F.Source.outside in
    let t = (o.state c.args.folder.now).held in
    let failed = c.load_heading.result ≡ Err (Bad FolderFault) in
    let same = still_held o c.args.folder.now c.load_heading.new.folder failed c.load_heading.ensures.reads in
    let stands = heading_stands t (head_read c.in-Ok.field-0) c.in-Ok.ensures.lawful (c.in-Ok.ensures.found told) in
    bad_weaker c.index_of.result _ _ (λ f h. inr (stands, subst (λ (x : Image). IsIndexFault x f) same h))
    (c.index_of.ensures.fault (still_told o c.args.folder.now c.load_heading.new.folder failed c.load_heading.ensures.reads told))
