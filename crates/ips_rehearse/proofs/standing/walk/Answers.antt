use Rattle.std.proofs.Common.{◌≡◌, ⊎_elim, inl, inr, List, sym, ◌∙◌, ap, subst}
use Rattle.std.proofs.lemmas.Bool.{or_cases}
use Rattle.ips_text.specs.Kept.{Kept}
use Rattle.ips_outside.specs.Children.{is_child}
use Rattle.ips_outside.specs.Image.{Image}
use Rattle.ips_outside.specs.State.{State}
use Rattle.ips_outside.proofs.Reading.{reads_none, reads_then}
use Rattle.ips_rehearse.specs.Going.{is_under}
use Rattle.ips_rehearse.specs.Tried.{IsFailure}
use Rattle.ips_rehearse.proofs.Going.{under_more}
use Rattle.ips_rehearse.proofs.Keys.{keeps_none, keeps_then}
use Rattle.ips_rehearse.proofs.standing.walk.Goals as goal

pub loop-turn-init : goal.loop-turn-init
loop-turn-init g c = record { kept = keeps_none c.args.modes.now.has; reads = reads_none g.F.Source.outside c.args.folder.now ⊥ (λ f. f); found = λ told d m f q under there child. inr under }

pub loop-turn-preserved : goal.loop-turn-preserved
loop-turn-preserved g c =
    let o = g.F.Source.outside in
    let inv = c.loop-turn.invariant in
    let same : (o.state c.loop-turn.folder).held ≡ (o.state c.args.folder.now).held = ap (λ (s : State). s.held) inv.reads.kept in
    record {
      kept = keeps_then c.args.modes.now.has c.loop-turn.modes.has c.add_at.new.modes.has inv.kept c.add_at.ensures.kept;
      reads = reads_then o c.args.folder.now c.loop-turn.folder c.add_at.new.folder (IsFailure c.add_at.result) ⊥ inv.reads c.add_at.ensures.reads (λ f. subst (λ (r : _). IsFailure r) c.in_ok-add_at.was f) (λ f. absurd f);
      found = λ told d m f q under there child. ⊎_elim
          (λ had. inl (c.add_at.ensures.kept m had))
          (λ left. ⊎_elim
          (λ later. inr (c.in_ok-add_at.ensures.left d later))
          (λ here. c.in_ok-add_at.ensures.found (inv.reads.call.same_kind ∙ told) d here m f q (ap (λ (t : Image). t.look d) same ∙ there) (ap (λ (t : Image). is_child t d q) same ∙ child))
          (or_cases _ _ (sym (under_more c.pop.new.self.items c.in-Some.path d) ∙ ap (λ (l : List Kept). is_under l d) (sym c.in-Some.ensures.items) ∙ left)))
          (inv.found told d m f q under there child);
    }
