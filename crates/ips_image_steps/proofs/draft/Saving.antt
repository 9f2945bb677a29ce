-- The turns of a plan behind those of what is saved.
use Rattle.std.proofs.Common.{◌≡◌, ℕ, false, true, IsFalse, List, [], ◌∷◌, ◌++◌, map, Option, Some, None, is_some, refl, sym, ◌∙◌, ap}
use Rattle.std.proofs.lemmas.Bool.{false_from_ne_true, or_left, or_right}
use Rattle.std.proofs.lemmas.List.{map-append}
use Rattle.ips_text.specs.Ancestry.{same_path}
use Rattle.ips_text.proofs.Ancestry.{same_path-self}
use Rattle.ips_outside.specs.Image.{Entry, Image, IsImage}
use Rattle.ips_steps.proofs.Lists.{clash}
use Rattle.ips_after.specs.After.{change_after}
use Rattle.ips_after.specs.Change.{Change, Changes}
use Rattle.ips_after.specs.Extra.{IsExtra, extra_or}
use Rattle.ips_after.specs.Lists.{listed}
use Rattle.ips_after.specs.Planned.{plan_order}
use Rattle.ips_after.specs.Request.{IsRequest, Request}
use Rattle.ips_after.specs.Salvage.{Aside, IsAside, IsAsides, IsOwn, change_saving, is_unmovable, saved}
use Rattle.ips_after.proofs.Fits.{spares}
use Rattle.ips_after.proofs.Order.{plan_apart}
use Rattle.ips_after.proofs.Saved.{none_unmovable, saved_extra}
use Rattle.ips_change.specs.Told.{naming}
use Rattle.ips_emit.specs.Emitted.{Turn}
use Rattle.ips_image_steps.specs.draft.Drafting.{turns_of, turns_saving}

no_extra : (o : Option Entry) (c : Change) → is_some o ≡ false → c ≡ extra_or o c
no_extra (Some e) c h = cc
no_extra None c h = refl

-- a path with what becomes of it
abbrev turn : Changes → List ℕ → Turn
turn c p = (p, c p)

-- paths of which the same becomes have the same turns
same_turns : (c d : Changes) (paths : List (List ℕ)) → ((q : List ℕ) → listed paths q ≡ true → c q ≡ d q) → map (turn c) paths ≡ map (turn d) paths
same_turns c d [] same = refl
same_turns c d (p ∷ paths) same =
    ap (λ (x : Change). (p, x) ∷ map (turn c) paths) (same p (or_left _ _ (same_path-self p)))
    ∙ ap (λ (l : List Turn). (p, d p) ∷ l) (same_turns c d paths (λ q l. same q (or_right (same_path p q) _ l)))

module _ (r : Request) (t : Image) (a : Aside) (asides : List (List ℕ)) (good : IsRequest r) (formed : IsImage t) (own : IsOwn (naming r) t a) (is : IsAside (naming r) t a) (list : IsAsides (naming r) t a asides)
    (may : (x : List ℕ) → IsFalse (is_unmovable (naming r) t a x)) where
  named : IsRequest (naming r)
  named = record { old_want = good.old_want; new_want = good.new_want; over_fits = good.over_fits; hards = good.hards }

  more : IsExtra (naming r) t a.emptied (saved (naming r) t a) asides
  more = saved_extra (naming r) t a named formed own is asides list (none_unmovable (naming r) t a may)

  -- nothing is saved at a path of the plan's own order
  alike : (q : List ℕ) → listed (plan_order (naming r) t) q ≡ true → change_after (naming r) t a.emptied q ≡ change_saving (naming r) t a q
  alike q l = no_extra (saved (naming r) t a q) (change_after (naming r) t a.emptied q) (false_from_ne_true _ (λ e.
      clash _ l (plan_apart (naming r) t a.emptied named formed (spares (naming r) t a.emptied is.is_emptied) q (more.not_new q e) (more.not_old q e) (more.not_over q e))))

  pub turns_behind : turns_saving r t a asides ++ turns_of r t a.emptied (plan_order (naming r) t) ≡ turns_saving r t a (asides ++ plan_order (naming r) t)
  turns_behind =
      ap (λ (l : List Turn). turns_saving r t a asides ++ l) (same_turns (change_after (naming r) t a.emptied) (change_saving (naming r) t a) (plan_order (naming r) t) alike)
      ∙ sym (map-append (turn (change_saving (naming r) t a)) asides (plan_order (naming r) t))
