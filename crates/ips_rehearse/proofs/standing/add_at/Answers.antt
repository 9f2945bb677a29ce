use Rattle.std.proofs.Common.{◌≡◌, ℕ, List, IsErr, ◌==◌, refl, sym, ◌∙◌, ap}
use Rattle.std.specs.List.{list_any}
use Rattle.std.proofs.lemmas.Bool.{and_from, eq-eqb, or_left}
use Rattle.ips_text.specs.Ancestry.{same_path}
use Rattle.ips_outside.specs.Children.{is_child}
use Rattle.ips_outside.specs.Image.{Image}
use Rattle.ips_outside.specs.State.{State}
use Rattle.ips_outside.proofs.Reading.{answered, reads_as}
use Rattle.ips_rehearse.proofs.Keys.{keeps_none}
use Rattle.ips_rehearse.proofs.Going.{dir_at, leaf_of, met_dir, met_leaf}
use Rattle.ips_rehearse.proofs.standing.add_at.Goals as goal

pub returns-in_default-look : goal.returns-in_default-look
returns-in_default-look g c =
    let o = g.F.Source.outside in
    let t = (o.state c.args.folder.now).held in
    record {
      found = λ told d up. met_leaf t (g.met.F.Source.sane.formed c.args.folder.now told) c.args.path.now.bytes c.args.modes.now.has c.args.left.now.items
          (leaf_of c.in-Ok.look (t.look c.args.path.now.bytes) c.in_default-look.not-Dir (c.in-Ok.ensures.found told)) d up;
      left = λ d is. is;
      kept = keeps_none c.args.modes.now.has;
      reads = reads_as o c.args.folder.now c.look.new.self (IsErr c.look.result) ⊥ c.look.ensures.reads (λ err. answered c.look.result _ c.in-Ok.is err) (λ f. absurd f);
    }

pub returns-in_ok-push_all-in-Ok-list-clause-found : goal.returns-in_ok-push_all-in-Ok-list-clause-found
returns-in_ok-push_all-in-Ok-list-clause-found g c = λ told d up.
    let o = g.F.Source.outside in
    let t = (o.state c.args.folder.now).held in
    let p = c.args.path.now.bytes in
    let same : (o.state c.look.new.self).held ≡ t = ap (λ (s : State). s.held) c.look.ensures.reads.kept in
    let at = dir_at c.in-Ok.look (t.look p) c.in-Dir.mode (c.in-Ok.ensures.found told) c.in-Dir.is in
    let listed = c.in-Ok-list.ensures.found (c.look.ensures.reads.call.same_kind ∙ told) in
    let kids = c.as_slice-children.result.now in
    met_dir t (g.met.F.Source.sane.formed c.args.folder.now told) p c.add.new.self.has c.push_all.new.left.items c.in-Dir.mode at.foreign kids at.is
    (λ q. ap (λ (l : List (List ℕ)). list_any (λ x. same_path x q) l) c.as_slice-children.ensures ∙ listed.children.each q ∙ ap (λ (u : Image). is_child u p q) same)
    (λ q is. c.add.ensures c.in-Dir.mode ∙ or_left _ _ (and_from c.holds.result (c.in-Dir.mode == c.in-Dir.mode) (c.holds.ensures.children q (ap (list_any (λ x. same_path x q)) (sym c.as_slice-children.ensures) ∙ is)) (eq-eqb c.in-Dir.mode c.in-Dir.mode refl)))
    c.in_ok-push_all-in-Ok-list.ensures.paths d up
