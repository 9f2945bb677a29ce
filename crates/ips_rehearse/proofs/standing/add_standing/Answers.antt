use Rattle.std.proofs.Common.{rules, ◌≡◌, ⊎_elim, inl, inr, true, false, List, ℕ, Vec, Global, IsErr, ◌∙◌, ap, subst}
use Rattle.std.proofs.lemmas.Bool.{or_cases}
use Rattle.ips_text.specs.Ancestry.{same_path}
use Rattle.ips_text.proofs.Ancestry.{same_path-true}
use Rattle.ips_outside.specs.State.{State}
use Rattle.ips_outside.proofs.Reading.{answered, reads_none, reads_then}
use Rattle.ips_folder.proofs.Junks.{in_list}
use Rattle.ips_rehearse.proofs.Keys.{keeps_none, keeps_then}
use Rattle.ips_rehearse.proofs.standing.add_standing.Goals as goal

pub loop-dir-init : goal.loop-dir-init
loop-dir-init g c =
    let start : c.args.first.now.keys ≡ c.into_iter-dir-iterator.result = search rules in
    record {
      room = c.requires.room;
      kept = keeps_none c.args.modes.now.has;
      reads = reads_none g.F.Source.outside c.args.folder.now ⊥ (λ f. f);
      found = λ told q m f is stands. inr (subst (λ (l : List (Vec ℕ Global)). in_list l q ≡ true) start is);
    }

pub loop-dir-preserved : goal.loop-dir-preserved
loop-dir-preserved g c =
    let o = g.F.Source.outside in
    let inv = c.loop-dir.invariant in
    let dir = c.in-Some.dir.now in
    record {
      room = c.add_dir.ensures.room;
      kept = keeps_then c.args.modes.now.has c.loop-dir.modes.has c.add_dir.new.modes.has inv.kept c.add_dir.ensures.kept;
      reads = reads_then o c.args.folder.now c.loop-dir.folder c.add_dir.new.folder (IsErr c.add_dir.result) ⊥ inv.reads c.add_dir.ensures.reads (answered c.add_dir.result _ c.in_ok-add_dir.was) (λ f. absurd f);
      found = λ told q m f is stands. ⊎_elim
          (λ had. inl (c.add_dir.ensures.kept m had))
          (λ left. ⊎_elim
          (λ same.
          let at : c.deref.result.now ≡ q = c.deref.ensures.value ∙ same_path-true dir.items q same in
          inl (c.in_ok-add_dir.ensures.found (inv.reads.call.same_kind ∙ told) m f
          (ap (λ (s : State). s.held.look c.deref.result.now) inv.reads.kept ∙ ap (o.state c.args.folder.now).held.look at ∙ stands)))
          (λ later. inr later)
          (or_cases (same_path dir.items q) (in_list c.next.new.self q) (subst (λ (l : List (Vec ℕ Global)). in_list l q ≡ true) c.in-Some.ensures.steps left)))
          (inv.found told q m f is stands);
    }

pub returns-clause-found : goal.returns-clause-found
returns-clause-found g c = λ told q m f is stands. ⊎_elim (λ had. had)
    (λ left. absurd (let none : false ≡ true = subst (λ (l : List (Vec ℕ Global)). in_list l q ≡ true) c.in-None.ensures.steps.0 left in cc))
    (c.loop-dir.invariant.found told q m f is stands)
