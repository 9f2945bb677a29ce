use Rattle.std.proofs.Common.{Some, sym, ◌∙◌, ap, subst, Bor}
use Rattle.std.specs.Option.{option_map}
use Rattle.ips_outside.specs.Image.{File}
use Rattle.ips_preserve.specs.declared.keep.Keep.{Keep}
use Rattle.ips_digest.specs.Name.{spelling}
use Rattle.ips_meaning.specs.declared.entry.Entry.{Entry}
use Rattle.ips_after.specs.After as after
use Rattle.ips_change.specs.wanted.Named.{is_payload_of}
use Rattle.ips_change.specs.wanted.Wanted.{wanted_of}
use Rattle.ips_change.specs.Fitting.{Fits}
use Rattle.ips_change.specs.Stands.{is_file_seen, seen_of}
use Rattle.ips_change.specs.Told.{naming}
use Rattle.ips_change.proofs.Seen.{file_seen}
use Rattle.ips_change.proofs.rules.new_change.Goals as goal

pub returns-in-File-clause-told : goal.returns-in-File-clause-told
returns-in-File-clause-told c = λ r e h.
    let was = option_map (λ (x : Bor Entry). wanted_of x.now) c.args.old in
    let here = h ∙ ap (λ (x : Entry). seen_of is_payload_of was (Some (wanted_of x)) e) c.in-File.is in
    c.file_change.ensures.told r.bytes e (ap is_file_seen h ∙ file_seen is_payload_of was (Some (wanted_of c.args.new.now)) e)
    ∙ ap (λ (k : Keep). after.file_change k (File c.in-File.mode (r.bytes (spelling c.in-File.payload))) c.in-File.mode e) (c.answer.ensures r c.in-File.mode e here)
    ∙ sym (ap (λ (x : Entry). after.new_change (naming r) was (wanted_of x) e) c.in-File.is)

pub returns-in-File-clause-fits : goal.returns-in-File-clause-fits
returns-in-File-clause-fits c = subst (λ (x : Entry). Fits (Some (wanted_of x)) c.file_change.result) (sym c.in-File.is) (c.file_change.ensures.fits c.in-File.preserve)
