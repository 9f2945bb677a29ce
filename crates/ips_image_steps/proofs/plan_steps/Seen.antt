-- A plan over the whole image is one over the visible image.
use Rattle.std.proofs.Common.{◌≡◌, ℕ, ◌<◌, ◌^◌, Bool, true, false, cond, not, List, ◌++◌, length, Some, None, is_some, refl, sym, ◌∙◌, ap, subst}
use Rattle.ips_text.specs.Quote.{AreBytes}
use Rattle.ips_outside.specs.Image.{Image, IsImage, Link}
use Rattle.ips_steps.specs.Steps.{Step, Stage, all_laid, distinct, named, possible, sound}
use Rattle.ips_steps.specs.Journal.{IsJournal}
use Rattle.ips_steps.specs.Private.{is_private, visible}
use Rattle.ips_after.specs.After.{ranks}
use Rattle.ips_after.specs.Change.{is_kept}
use Rattle.ips_after.specs.Planned.{IsNameable, IsProperRequest, Staged, can_name, plan_order}
use Rattle.ips_after.specs.Request.{IsRequest, Request}
use Rattle.ips_after.specs.Salvage.{Aside, HasSalvagedBytes, IsImageAfter, IsOwn, change_saving, image_saving, saving_steps}
use Rattle.ips_after.proofs.Journal.{journal_steps, named_steps}
use Rattle.ips_after.proofs.Naming.{named_saving}
use Rattle.ips_after.proofs.Ordered.{apart_steps, sound_steps}
use Rattle.ips_after.proofs.Parts.{parts_saving}
use Rattle.ips_after.proofs.Places.{saved_may}
use Rattle.ips_after.proofs.Saved.{none_unmovable, order_saving, planned_saving}
use Rattle.ips_after.proofs.SavedParts.{saved_parts}
use Rattle.ips_after.proofs.Seen.{changed_seen, seen_laid, visible_formed}
use Rattle.ips_after.proofs.Stepped.{stepped}
use Rattle.ips_after.proofs.Unseen.{aside_seen, asides_seen, contents_seen, nameable_seen, own_seen, root_as_seen, salvaged_seen, steps_seen, unmovable_seen}
use Rattle.ips_image_steps.specs.plan_steps.Plan.{IsPlan}

module _ (moment : List ℕ) (r : Request) (h : Image) (steps : List Step) (contents : List (List ℕ)) (plan : IsPlan moment r h steps contents) (good : IsRequest r) (formed : IsImage h) (own : IsOwn r h plan.aside) where
  abbrev a : Aside
  a = plan.aside

  abbrev order : List (List ℕ)
  order = plan.asides ++ plan_order r h

  pub sound_plan : sound steps ≡ true
  sound_plan =
      let o = order_saving r h a good formed own plan.is_aside plan.asides plan.are_asides (none_unmovable r h a plan.none_unmovable) in
      ap sound plan.steps_are ∙ sound_steps (change_saving r h a) 0 order o.once o.turn

  pub apart_plan : distinct steps ≡ true
  apart_plan =
      let o = order_saving r h a good formed own plan.is_aside plan.asides plan.are_asides (none_unmovable r h a plan.none_unmovable) in
      ap distinct plan.steps_are ∙ apart_steps (change_saving r h a) 0 order o.once

  pub stepped_plan : (q : List ℕ) → named steps q ≡ not (is_kept (change_saving r h a q))
  stepped_plan q = ap (λ (s : List Step). named s q) plan.steps_are
      ∙ stepped (change_saving r h a) order (ranks r) h (order_saving r h a good formed own plan.is_aside plan.asides plan.are_asides (none_unmovable r h a plan.none_unmovable)) q

  pub possible_plan : (stage : Stage) → Staged stage 0 contents → possible stage steps h ≡ true
  possible_plan stage has =
      ap (λ (s : List Step). possible stage s h) plan.steps_are
      ∙ (planned_saving r h a good formed own plan.is_aside stage plan.asides plan.are_asides (none_unmovable r h a plan.none_unmovable) (subst (λ (c : List (List ℕ)). Staged stage 0 c) plan.contents_are has)).0

  pub listed_plan : IsNameable r h → IsProperRequest r → length steps < 2 ^ 64 → IsJournal steps
  listed_plan may has few = subst IsJournal (sym plan.steps_are) (journal_steps (change_saving r h a) order
      (named_steps (change_saving r h a) 0 order (named_saving r h a good formed plan.is_aside may (λ q e at. saved_may moment r h a good formed own plan.is_aside plan.is_root q (ap is_some at))))
      (parts_saving r h a good formed plan.is_aside has (saved_parts r h a good formed own plan.is_aside has plan.root_path plan.none_unmovable plan.targets))
      (subst (λ (s : List Step). length s < 2 ^ 64) plan.steps_are few))

  module _ (may : IsNameable r h) where
    abbrev v : Image
    v = visible h

    pub targets : HasSalvagedBytes r v
    targets q g s at = go (is_private q) refl at
      where
        go : (b : Bool) → is_private q ≡ b → cond b None (h.look q) ≡ Some (Link g) → AreBytes g
        go true hidden look = cc
        go false shown look = plan.targets q g (salvaged_seen r h good formed may own.none_old own.none_new a.emptied plan.is_aside.is_emptied q ∙ s) look

    unfoldable pub seen_plan : IsPlan moment r v steps contents
    seen_plan = record {
      aside = a;
      asides = plan.asides;
      is_root = root_as_seen h moment a.root plan.is_root;
      root_path = plan.root_path;
      is_aside = aside_seen r h good formed may own.none_old own.none_new moment a own plan.is_root plan.is_aside;
      are_asides = asides_seen r h good formed may own.none_old own.none_new moment a own plan.is_root plan.is_aside plan.asides plan.are_asides;
      none_unmovable = λ p. sym (unmovable_seen r h good formed may own.none_old own.none_new moment a own plan.is_root plan.is_aside p) ∙ plan.none_unmovable p;
      targets = targets;
      steps_are = plan.steps_are ∙ steps_seen r h good formed may own.none_old own.none_new moment a own plan.is_root plan.is_aside plan.asides;
      contents_are = plan.contents_are ∙ contents_seen r h good formed may own.none_old own.none_new moment a own plan.is_root plan.is_aside plan.asides;
    }

    pub means_plan : (stage : Stage) → Staged stage 0 contents → IsImageAfter moment r v (visible (all_laid stage steps h))
    unfolding seen_plan
    means_plan stage has = record { aside = a; is_root = seen_plan.is_root; is_aside = seen_plan.is_aside; means = means }
      where
        own_v : IsOwn r v a
        own_v = own_seen r h good formed may own.none_old own.none_new moment a own plan.is_root plan.is_aside

        whole : IsImage v
        whole = visible_formed h formed

        can : (p : List ℕ) → can_name (change_saving r v a p) p ≡ true
        can = named_saving r v a good whole seen_plan.is_aside (nameable_seen r h may) (λ q e at. saved_may moment r v a good whole own_v seen_plan.is_aside seen_plan.is_root q (ap is_some at))

        means : visible (all_laid stage steps h) ≡ image_saving r v a
        means =
            let moves = none_unmovable r v a seen_plan.none_unmovable in
            let o = order_saving r v a good whole own_v seen_plan.is_aside plan.asides seen_plan.are_asides moves in
            let p = planned_saving r v a good whole own_v seen_plan.is_aside stage plan.asides seen_plan.are_asides moves (subst (λ (c : List (List ℕ)). Staged stage 0 c) seen_plan.contents_are has) in
            let both = seen_laid stage (saving_steps r v a plan.asides) h formed (named_steps (change_saving r v a) 0 (plan.asides ++ plan_order r v) can) (sound_steps (change_saving r v a) 0 (plan.asides ++ plan_order r v) o.once o.turn) p.0 in
            ap (λ (s : List Step). visible (all_laid stage s h)) seen_plan.steps_are ∙ both.1 ∙ ap visible p.1 ∙ changed_seen (change_saving r v a) (ranks r) h can
