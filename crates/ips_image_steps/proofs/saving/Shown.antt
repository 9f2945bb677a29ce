-- What is copied to be saved is seen.
use Rattle.std.proofs.Common.{◌≡◌, ◌⊎◌, inl, inr, ℕ, Bool, true, cond, List, Option, Some, None, is_some, refl, sym, ◌∙◌, ap}
use Rattle.std.proofs.lemmas.Bool.{and_parts, false≢true, false_from_ne_true, or_cases}
use Rattle.ips_text.specs.Ancestry.{is_below}
use Rattle.ips_outside.specs.Image.{Image, IsImage}
use Rattle.ips_steps.specs.Private.{is_private, records_name, visible}
use Rattle.ips_after.specs.After.{IsEmptied}
use Rattle.ips_after.specs.Planned.{IsNameable}
use Rattle.ips_after.specs.Request.{IsRequest, Request}
use Rattle.ips_after.specs.Salvage.{Side, salvaged, side_at}
use Rattle.ips_after.proofs.Names.{side_facts}
use Rattle.ips_after.proofs.Places.{private_own}
use Rattle.ips_after.proofs.Unseen.{salvaged_seen}
use Rattle.ips_aside.specs.sides.Sides.{has_side}
use Rattle.ips_emit.specs.Emitted.{FromFile, FromPayload, OwnBytes, Provenance}
use Rattle.ips_image_steps.specs.saving.Saving.{IsFileSeen, IsSavedFrom}

module _ (r : Request) (t : Image) (emptied : List ℕ → Bool) (good : IsRequest r) (formed : IsImage t) (may : IsNameable r t) (is : IsEmptied r t emptied)
    (none_old : (q : List ℕ) → is_below records_name q ≡ true → r.old.at q ≡ None) (none_new : (q : List ℕ) → is_below records_name q ≡ true → r.new.at q ≡ None) where
  none_salvaged : (p : List ℕ) → is_private p ≡ true → salvaged r t p ≡ true → ⊥
  none_salvaged p own s =
      let seen = sym (salvaged_seen r t good formed may none_old none_new emptied is p) ∙ s in
      false≢true (sym (ap is_some (ap (λ (b : Bool). cond b None (t.look p)) own)) ∙ (and_parts (is_some ((visible t).look p)) _ seen).0)

  none_beside : (p : List ℕ) → is_private p ≡ true → has_side r t p ≡ true → ⊥
  none_beside p own has = go (side_at r t p) refl has
    where
      go : (s : Option Side) → side_at r t p ≡ s → is_some s ≡ true → ⊥
      go (Some side) at h = false≢true (sym (ap is_some (none_new p (private_own p own))) ∙ (side_facts r t p side at).1)
      go None at h = cc

  pub file_seen : (from : Provenance) → IsSavedFrom r t from → IsFileSeen t from
  file_seen (FromPayload payload) h = tt
  file_seen (OwnBytes b) h = tt
  file_seen (FromFile p) h = (h.0, false_from_ne_true _ (λ own. off own (or_cases (salvaged r t p) (has_side r t p) h.1)))
    where
      off : is_private p ≡ true → (salvaged r t p ≡ true) ⊎ (has_side r t p ≡ true) → ⊥
      off own (inl s) = none_salvaged p own s
      off own (inr s) = none_beside p own s
