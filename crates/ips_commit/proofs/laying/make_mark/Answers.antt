use Rattle.std.proofs.Common.{◌≡◌, List, [], ℕ, Some, ◌∙◌, ap, subst}
use Rattle.ips_outside.specs.Image.{File}
use Rattle.ips_outside.specs.Change.{with_entry_at}
use Rattle.ips_outside.specs.State.{State}
use Rattle.ips_outside.proofs.Placed.{look_placed}
use Rattle.ips_steps.specs.Private.{mark_name}
use Rattle.ips_commit.proofs.laying.make_mark.Goals as goal

pub returns-clause-made : goal.returns-clause-made
returns-clause-made g c = λ told.
    let o = g.F.Source.outside in
    let p = c.set_mark.new.path.bytes in
    let t = (o.state c.args.folder.now).held in
    let there : (with_entry_at p (Some (File 384 [])) t).look (mark_name c.args.number) ≡ Some (File 384 []) =
    subst (λ (q : List ℕ). (with_entry_at p (Some (File 384 [])) t).look q ≡ Some (File 384 [])) c.set_mark.ensures.named (look_placed p (Some (File 384 [])) t) in
    ap (λ (s : State). s.held.look (mark_name c.args.number)) (c.in_ok-sync.ensures.done (c.make_file.ensures.call.same_kind ∙ told))
    ∙ ap (λ (s : State). s.held.look (mark_name c.args.number)) (c.in_ok-make_file.ensures.done told) ∙ there
