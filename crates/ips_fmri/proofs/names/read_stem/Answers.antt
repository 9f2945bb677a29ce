use Rattle.ips_fmri.proofs.Stems.{stem_text}
use Rattle.ips_fmri.proofs.names.read_stem.Goals as goal
use Rattle.ips_text.proofs.Readers.{seen_ok}

pub text_of-requires : goal.text_of-requires
text_of-requires c = stem_text c.args.wild c.args.bytes.now c.in_ok-stem.stem.now c.in_ok-stem.rest.now (seen_ok _ c.stem.result _ _ c.in_ok-stem.ensures c.stem.ensures)
