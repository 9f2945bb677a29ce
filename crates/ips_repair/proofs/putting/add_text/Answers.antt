use Rattle.std.proofs.Common.{ℕ, List, [], ◌∷◌, ◌++◌, subst}
use Rattle.std.proofs.lemmas.Result.{on_ok_weaker}
use Rattle.ips_outside.specs.Image.{File}
use Rattle.ips_after.specs.Change.{Laid}
use Rattle.ips_emit.specs.Emitted.{IsEmitted, OwnBytes}
use Rattle.ips_repair.proofs.putting.add_text.Goals as goal

pub returns-in-Ok : goal.returns-in-Ok
returns-in-Ok c = on_ok_weaker c.push_text.result (λ pushed bytes t turns provenances emitted.
    subst (λ (p : List ℕ). IsEmitted bytes t (turns ++ (p, Laid (File 420 c.args.text.items)) ∷ []) (provenances ++ OwnBytes c.args.text.items ∷ []) c.push_text.new.self) c.in-Ok.ensures (pushed bytes t turns provenances emitted)) c.push_text.ensures
