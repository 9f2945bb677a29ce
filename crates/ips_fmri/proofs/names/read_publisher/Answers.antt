use Rattle.std.proofs.Common.{false}
use Rattle.ips_fmri.specs.declared.fault.Part.TheVariants.{Publisher}
use Rattle.ips_fmri.proofs.Stems.{component_text}
use Rattle.ips_fmri.proofs.names.read_publisher.Goals as goal
use Rattle.ips_text.proofs.Readers.{seen_ok}

pub text_of-requires : goal.text_of-requires
text_of-requires c = component_text Publisher false c.args.bytes.now c.in_ok-publisher.publisher.now c.in_ok-publisher.rest.now (seen_ok _ c.component.result _ _ c.in_ok-publisher.ensures c.component.ensures)
