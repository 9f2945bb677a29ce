use Rattle.std.proofs.lemmas.Result.{on_ok_weaker}
use Rattle.ips_image_steps.proofs.saving.emitting.add_beside.Goals as goal

pub returns-in-Old : goal.returns-in-Old
returns-in-Old c = on_ok_weaker c.push_standing.result (λ pushed bytes t turns provenances before. rw c.in-Old.is (pushed bytes t turns provenances before)) c.push_standing.ensures

pub returns-in-Legacy : goal.returns-in-Legacy
returns-in-Legacy c = on_ok_weaker c.push_standing-in-Legacy.result (λ pushed bytes t turns provenances before. rw c.in-Legacy.is (pushed bytes t turns provenances before)) c.push_standing-in-Legacy.ensures

pub returns-in-New : goal.returns-in-New
returns-in-New c = on_ok_weaker c.push.result (λ pushed bytes t turns provenances before. rw c.in-New.is (pushed bytes t turns provenances before)) c.push.ensures
