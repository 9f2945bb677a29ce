use Rattle.std.proofs.Common.{◌++◌, ◌∷◌, [], List, sym, subst}
use Rattle.std.proofs.lemmas.List.{append-nil}
use Rattle.std.proofs.lemmas.Result.{on_ok_weaker}
use Rattle.ips_outside.specs.Image.{Link}
use Rattle.ips_after.specs.Change.{Laid}
use Rattle.ips_emit.specs.Emitted.{IsEmitted, Provenance}
use Rattle.ips_image_steps.proofs.saving.emitting.add_thing.Goals as goal

pub returns-in-Dir : goal.returns-in-Dir
returns-in-Dir c = on_ok_weaker c.push.result (λ pushed bytes t turns provenances before. rw c.in-Dir.is (pushed bytes t turns provenances before)) c.push.ensures

pub returns-in-File : goal.returns-in-File
returns-in-File c = on_ok_weaker c.push_standing.result (λ pushed bytes t turns provenances before. rw c.in-File.is (pushed bytes t turns provenances before)) c.push_standing.ensures

pub returns-in-Link : goal.returns-in-Link
returns-in-Link c = on_ok_weaker c.push_link.result (λ pushed bytes t turns provenances before.
    rw c.in-Link.is (subst (λ (l : List Provenance). IsEmitted bytes t (turns ++ (c.args.path.now.bytes, Laid (Link c.in-Link.target.items)) ∷ []) l c.push_link.new.self) (sym (append-nil provenances)) (rw c.deref.ensures.value at (pushed bytes t turns provenances before)))) c.push_link.ensures
