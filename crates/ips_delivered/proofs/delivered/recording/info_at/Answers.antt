use Rattle.std.proofs.Common.{◌∙◌, sym, subst}
use Rattle.ips_text.specs.Path.{IsPath}
use Rattle.ips_delivered.proofs.delivered.Places.{info_place}
use Rattle.ips_delivered.proofs.delivered.recording.info_at.Goals as goal

pub parsed-requires : goal.parsed-requires
parsed-requires c = subst IsPath (sym (c.as_bytes.ensures.value ∙ c.in_ok-place.ensures)) (info_place c.args.name.now c.requires.0 c.requires.1)
