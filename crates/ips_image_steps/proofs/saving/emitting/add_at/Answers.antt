use Rattle.std.proofs.lemmas.Result.{on_ok_weaker}
use Rattle.ips_image_steps.proofs.saving.emitting.add_at.Goals as goal

pub returns-in-Thing : goal.returns-in-Thing
returns-in-Thing c = on_ok_weaker c.add_thing.result (λ pushed bytes t turns provenances before. rw c.in-Thing.is (pushed bytes t turns provenances before)) c.add_thing.ensures

pub returns-in-Beside : goal.returns-in-Beside
returns-in-Beside c = on_ok_weaker c.add_beside.result (λ pushed bytes t turns provenances before. rw c.in-Beside.is (pushed bytes t turns provenances before)) c.add_beside.ensures

pub returns-in-Way : goal.returns-in-Way
returns-in-Way c = on_ok_weaker c.push.result (λ pushed bytes t turns provenances before. rw c.in-Way.is (pushed bytes t turns provenances before)) c.push.ensures
