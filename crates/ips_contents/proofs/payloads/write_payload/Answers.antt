use Rattle.std.proofs.Common.{◌≡◌, List, ℕ, Some, sym, ◌∙◌, ap, subst}
use Rattle.ips_text.specs.Ancestry.{covers}
use Rattle.ips_outside.specs.State.{State, nowhere}
use Rattle.ips_digest.specs.declared.name.PayloadName.{PayloadName}
use Rattle.ips_folder.proofs.Runs.{keeps_then}
use Rattle.ips_repo.specs.Files.{file_at}
use Rattle.ips_repo.specs.Payload.{IsDamage}
use Rattle.ips_contents.specs.Contents.{HoldsAlone}
use Rattle.ips_contents.proofs.Wrote.{wrote}
use Rattle.ips_contents.proofs.Written.{alone_placed}
use Rattle.ips_contents.proofs.payloads.write_payload.Goals as goal

pub copy_payload-requires-clause-can : goal.copy_payload-requires-clause-can
copy_payload-requires-clause-can g c = λ told_now.
    let told = sym c.make_file.ensures.call.same_kind ∙ told_now in
    let u = (g.F.Source.outside.state c.make_file.new.self).held in
    subst (λ (bytes : List ℕ). HoldsAlone c.args.path.now.bytes 384 bytes u) (sym c.requires.begun)
    (alone_placed c.args.path.now.bytes (g.F.Source.outside.state c.args.folder.now).held u (ap (λ (s : State). s.held) (c.in-Ok.ensures.done told)))

pub returns-in-Err-clause-refused : goal.returns-in-Err-clause-refused
returns-in-Err-clause-refused g c =
    let t = (g.S.Source.outside.state c.args.source.now).held in
    let given = c.copy_payload.new.payload in
    let copied = c.copy_payload.ensures in (
      c.name-name.ensures,
      given.bytes,
      subst (λ (name : PayloadName). IsDamage name given.bytes c.in-Err.fault) copied.named c.in-Err.ensures.damage,
      λ told front.
          let now = copied.front told front in
          ap (file_at t) (sym copied.placed) ∙ now.stands ∙ ap Some (sym (now.whole c.in_ok-copy_payload.ensures.ended)),
    )

pub returns-in-Err-clause-any_moment : goal.returns-in-Err-clause-any_moment
returns-in-Err-clause-any_moment g c = λ told.
    let o = g.F.Source.outside in
    let p = c.args.path.now.bytes in
    keeps_then o (covers p) nowhere c.args.folder.now c.make_file.new.self c.copy_payload.new.folder
    (wrote o g.met.F.Source.sane (covers p) p (λ q off. off) c.args.folder.now c.make_file.new.self _ c.make_file.result told c.make_file.ensures)
    (c.copy_payload.ensures.any_moment (c.make_file.ensures.call.same_kind ∙ told))
