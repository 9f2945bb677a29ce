use Rattle.std.proofs.Common.{◌≡◌, ℕ, Bool, List, sym, ap, subst, ◌∙◌}
use Rattle.std.specs.Prelude.{IfOk}
use Rattle.std.proofs.lemmas.Bool.{true≢false}
use Rattle.ips_outside.specs.Image.{Image}
use Rattle.ips_outside.specs.Outside.{look_of}
use Rattle.ips_outside.specs.State.{State}
use Rattle.ips_outside.specs.declared.outside.Look.TheVariants.{Absent}
use Rattle.ips_state.specs.Records.{image_path}
use Rattle.ips_image.proofs.Told.{image_is_path}
use Rattle.ips_run.specs.Planned.{IfChange, IsPlanned}
use Rattle.ips_operations.specs.creating.Decides.{makes_of, Exists}
use Rattle.ips_operations.proofs.creating.Decided.{stands}
use Rattle.ips_operations.proofs.creating.deciding.decided.Goals as goal

pub path_of-requires : goal.path_of-requires
path_of-requires g c = image_is_path

pub returns-in-Ok-look-clause-planned : goal.returns-in-Ok-look-clause-planned
returns-in-Ok-look-clause-planned g c = λ told tells repository.
    subst (λ (s : State). IfOk c.begin.result (IfChange (IsPlanned (makes_of (record { command = c.args.command.now; moment = c.args.moment })) tells repository s.held))) c.look.ensures.reads.kept
    (c.begin.ensures.planned (c.look.ensures.reads.call.same_kind ∙ told) tells repository)

pub returns-in-Ok-2-clause-decided : goal.returns-in-Ok-2-clause-decided
returns-in-Ok-2-clause-decided g c = λ told.
    let t = (g.F.Source.outside.state c.args.folder.now).held in
    Exists (stands (t.look image_path) (λ absent. true≢false (sym (c.is_absent.ensures.1 (c.in-Ok-look.ensures.found told ∙ ap (λ (p : List ℕ). look_of (t.look p)) c.in-Ok.ensures ∙ absent)) ∙ c.if-is_absent.false)))
