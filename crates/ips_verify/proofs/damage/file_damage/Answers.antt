use Rattle.std.proofs.Common.{None, not, ◌&&◌}
use Rattle.ips_outside.proofs.Reading.{reads_none}
use Rattle.ips_digest.specs.Name.{spelling}
use Rattle.ips_after.specs.Findings as after
use Rattle.ips_change.specs.wanted.Named.{is_payload_of}
use Rattle.ips_verify.proofs.damage.file_damage.Goals as goal

pub returns-in_default : goal.returns-in_default
returns-in_default g c = record {
  found = λ told.
      let e = (g.F.Source.outside.state c.args.folder.now).held.look c.args.path.now.bytes in
      c.no_file.ensures e (c.requires.seen told) (spelling c.args.payload.now) c.args.mode
      (after.damage_if ((after.forbids_edits c.args.preserve && not (after.is_account_path c.args.path.now.bytes)) && after.has_other_bytes (is_payload_of (spelling c.args.payload.now)) e) after.WrongContent
      (after.damage_if (after.has_other_mode c.args.mode e) after.WrongMode None));
  reads = reads_none g.F.Source.outside c.args.folder.now ⊥ (λ f. f);
}
