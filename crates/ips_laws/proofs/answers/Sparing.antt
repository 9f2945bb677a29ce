-- A plan that repairs the whole image repairs what is seen of it: the files that it lays are staged, and once they are laid nothing is found.
use Rattle.std.proofs.Common.{◌≡◌, ℕ, Bool, true, false, List, [], ◌++◌, Option, Some, None, is_some, refl, sym, ◌∙◌, ap, subst}
use Rattle.ips_outside.specs.Image.{Entry, File, Image, IsImage}
use Rattle.ips_steps.specs.Private.{visible}
use Rattle.ips_steps.proofs.Lists.{clash}
use Rattle.ips_after.specs.After.{change_after}
use Rattle.ips_after.specs.Change.{Kept, Laid}
use Rattle.ips_after.specs.Extra.{extra_or}
use Rattle.ips_after.specs.Findings.{findings}
use Rattle.ips_after.specs.Lists.{listed}
use Rattle.ips_after.specs.Planned.{IsNameable, plan_order}
use Rattle.ips_after.specs.Repaired.{HasOneMode, IsRepair, IsRepaired, LaysPayloads, Repair, repairs, request_of}
use Rattle.ips_after.specs.Request.{IsRequest, Request}
use Rattle.ips_after.specs.Salvage.{Aside, IsAside, IsAsides, IsOwn, IsRoot, change_saving, image_saving, is_unmovable, saved, saving_contents}
use Rattle.ips_after.proofs.Clean.{clean_saving}
use Rattle.ips_after.proofs.Displaced.{after_repaired}
use Rattle.ips_after.proofs.Mended.{change_is, is_request}
use Rattle.ips_after.proofs.Saved.{none_unmovable, order_saving, saved_extra}
use Rattle.ips_after.proofs.Seen.{visible_formed}
use Rattle.ips_after.proofs.Unseen.{aside_seen, asides_seen, contents_seen, own_seen, root_as_seen, unmovable_seen}
use Rattle.ips_laws.proofs.answers.Staged.{IsAmong, laid_among}

module _ (f : Repair) (h : Image) (good : IsRepair f) (formed : IsImage h) (names : IsNameable (request_of f h) h) (text : List ℕ) (a : Aside) (asides : List (List ℕ)) (own : IsOwn (request_of f h) h a)
    (one : request_of f (visible h) ≡ request_of f h) (at_root : IsRoot h text a.root) (is : IsAside (request_of f h) h a) (list : IsAsides (request_of f h) h a asides) (free : (p : List ℕ) → is_unmovable (request_of f h) h a p ≡ false) where
  abbrev v : Image
  v = visible h

  abbrev r : Request
  r = request_of f v

  v_formed : IsImage v
  v_formed = visible_formed h formed

  asked : IsRequest (request_of f h)
  asked = is_request f h good

  v_own : IsOwn r v a
  v_own = subst (λ (x : Request). IsOwn x v a) (sym one) (own_seen (request_of f h) h asked formed names own.none_old own.none_new text a own at_root is)

  v_is : IsAside r v a
  v_is = subst (λ (x : Request). IsAside x v a) (sym one) (aside_seen (request_of f h) h asked formed names own.none_old own.none_new text a own at_root is)

  v_list : IsAsides r v a asides
  v_list = subst (λ (x : Request). IsAsides x v a asides) (sym one) (asides_seen (request_of f h) h asked formed names own.none_old own.none_new text a own at_root is asides list)

  v_free : (p : List ℕ) → is_unmovable r v a p ≡ false
  v_free p = ap (λ (x : Request). is_unmovable x v a p) one ∙ sym (unmovable_seen (request_of f h) h asked formed names own.none_old own.none_new text a own at_root is p) ∙ free p

  contents : saving_contents (request_of f h) h a asides ≡ saving_contents r v a asides
  contents = contents_seen (request_of f h) h asked formed names own.none_old own.none_new text a own at_root is asides ∙ ap (λ (x : Request). saving_contents x v a asides) (sym one)

  -- ---- what is staged

  module _ (q : List ℕ) (m : ℕ) (b : List ℕ) (wanted : is_some (f.want.at q) ≡ true) (laid : repairs f v q ≡ Laid (File m b)) where
    unsaved : (o : Option Entry) → saved r v a q ≡ o → o ≡ None
    unsaved None at = refl
    unsaved (Some e) at = clash (is_some (f.want.at q)) wanted (ap is_some ((saved_extra r v a (is_request f v good) v_formed v_own v_is asides v_list (none_unmovable r v a v_free)).not_new q (ap is_some at)))

    laid_there : change_saving r v a q ≡ Laid (File m b)
    laid_there = ap (λ (o : Option Entry). extra_or o (change_after r v a.emptied q)) (unsaved (saved r v a q) refl) ∙ change_is f v a.emptied good v_formed v_is.is_emptied q ∙ laid

    in_order : (there : Bool) → listed (asides ++ plan_order r v) q ≡ there → there ≡ true
    in_order true at = refl
    in_order false at =
        let kept = (order_saving r v a (is_request f v good) v_formed v_own v_is asides v_list (none_unmovable r v a v_free)).all q at in
        let no : Kept ≡ Laid (File m b) = sym kept ∙ laid_there in cc

    -- a wanted file that is laid is among what is to be staged
    pub laid_staged : IsAmong b (saving_contents (request_of f h) h a asides)
    laid_staged = subst (IsAmong b) (sym contents) (laid_among (change_saving r v a) (asides ++ plan_order r v) q m b (in_order (listed (asides ++ plan_order r v) q) refl) laid_there)

  -- ---- the image

  -- what is then seen is the repaired image
  pub repaired_so : IsRepaired text f v (image_saving r v a)
  repaired_so = after_repaired f v good v_formed text (image_saving r v a) (record { aside = a; is_root = root_as_seen h text a.root at_root; is_aside = v_is; means = refl })

  -- and nothing is found in it
  pub clean_so : HasOneMode f.want v → LaysPayloads f v → findings f.holds f.want (image_saving r v a) ≡ []
  clean_so modes lays = clean_saving f v a asides good v_formed v_own v_is v_list v_free modes lays
