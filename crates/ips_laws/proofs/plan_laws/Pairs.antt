-- Two tellings of one request's steps: they are like, and exclude that it can't be carried out; two first paths at which it can't are one.
use Rattle.std.proofs.Common.{◌≡◌, ℕ, true, List, map, refl, sym, subst}
use Rattle.ips_outside.specs.Image.{is_dir}
use Rattle.ips_steps.specs.Private.{records_name}
use Rattle.ips_steps.specs.View.{step_of}
use Rattle.ips_state.specs.declared.state.State.{State}
use Rattle.ips_state.specs.State.{recorded}
use Rattle.ips_after.specs.Request.{Over, Request}
use Rattle.ips_change.specs.wanted.Named.{is_payload_of}
use Rattle.ips_due.specs.Due.{Due, IsOverOf}
use Rattle.ips_account_files.specs.declared.files.AccountFiles.{AccountFiles}
use Rattle.ips_emit.specs.declared.emitting.Emitted.{Emitted}
use Rattle.ips_image_steps.specs.Answers.{HasSteps, IsHindered}
use Rattle.ips_plan_limits.specs.Limits.{first_excess}
use Rattle.ips_plan.specs.image_plan.Accounts.{Given}
use Rattle.ips_plan.specs.image_plan.Behind.{AreSteps}
use Rattle.ips_plan.specs.image_plan.Steps.{HasOver, IsHinderedBetween, said_between}
use Rattle.ips_plan.specs.declared.image_plan.between.Between.{Between}
use Rattle.ips_laws.specs.plan_laws.Alike.{AreLikeSteps}
use Rattle.ips_laws.proofs.plan_laws.Ledgers.{AnswersAreOne}
use Rattle.ips_laws.proofs.plan_laws.Posed.{FilesFit, IsPosed, posed_over, posed_plain, posed_requests, said_of}
use Rattle.ips_laws.proofs.plan_laws.Steps.{IsPlain, excess_one, hindered_one, like_steps, no_bytes, steps_or_hindered}

module _ (one : AnswersAreOne) (fits : FilesFit) (g : Given) (told : g.told ≡ true) (tells : g.tells ≡ true) (stands : is_dir (g.image.look records_name) ≡ true) (text : List ℕ)
    (old other new next : State) (was_same : recorded old ≡ recorded other) (is_same : recorded new ≡ recorded next)
    (b c : Between) (x y : AccountFiles) (due dues : Due) (h : IsPosed g old new b x due) (k : IsPosed g other next c y dues) (says : HasOver due g.image) where
  -- the request, with the bytes of each payload
  abbrev request : (List ℕ → List ℕ) → Request
  request bytes = said_between b bytes (says bytes).0

  plain : (bytes : List ℕ → List ℕ) → IsPlain (request bytes)
  plain bytes = posed_plain g old new b x due h bytes (says bytes).0

  -- what the other says makes the same request
  same : (bytes : List ℕ → List ℕ) (over : Over) → IsOverOf bytes is_payload_of dues g.image over → said_between c bytes over ≡ request bytes
  same bytes over of = sym (posed_requests one g told tells old other new next was_same is_same b c h.between k.between h.meant k.meant bytes (says bytes).0 over (posed_over one g told tells old other new next was_same is_same b c x y due dues h k bytes (says bytes).0 over (says bytes).1 of))

  here : (e : Emitted) → AreSteps g.told g.image text b due e → (bytes : List ℕ → List ℕ) → HasSteps text (request bytes) g.image e
  here e s bytes = s.steps told bytes (says bytes).0 (said_of fits g old new b x due h stands bytes (says bytes).0 (says bytes).1)

  there : (e : Emitted) → AreSteps g.told g.image text c dues e → (bytes : List ℕ → List ℕ) → HasSteps text (request bytes) g.image e
  there e s bytes =
      let o = s.over told bytes in
      subst (λ (r : Request). HasSteps text r g.image e) (same bytes o.0 o.1) (s.steps told bytes o.0 (said_of fits g other next c y dues k stands bytes o.0 o.1))

  hinders_here : (p : List ℕ) → IsHinderedBetween text b due g.image p → IsHindered text (request no_bytes) g.image p
  hinders_here p s = s no_bytes (says no_bytes).0 (said_of fits g old new b x due h stands no_bytes (says no_bytes).0 (says no_bytes).1)

  hinders_there : (p : List ℕ) → HasOver dues g.image → IsHinderedBetween text c dues g.image p → IsHindered text (request no_bytes) g.image p
  hinders_there p o s =
      subst (λ (r : Request). IsHindered text r g.image p) (same no_bytes (o no_bytes).0 (o no_bytes).1) (s no_bytes (o no_bytes).0 (said_of fits g other next c y dues k stands no_bytes (o no_bytes).0 (o no_bytes).1))

  pub pair_like : (d e : Emitted) → AreSteps g.told g.image text b due d → AreSteps g.told g.image text c dues e → AreLikeSteps g.image d e
  pair_like d e s z = like_steps text request g.image (λ bytes. refl) plain d e (here d s) (there e z)

  pub pair_excess : (d e : Emitted) → AreSteps g.told g.image text b due d → AreSteps g.told g.image text c dues e → first_excess (map step_of d.steps.items) d.staged.items ≡ first_excess (map step_of e.steps.items) e.staged.items
  pair_excess d e s z = excess_one text request g.image (λ bytes. refl) plain d e (here d s) (there e z)

  pub pair_hindered : (p q : List ℕ) → HasOver dues g.image → IsHinderedBetween text b due g.image p → IsHinderedBetween text c dues g.image q → p ≡ q
  pair_hindered p q o s z = hindered_one text (request no_bytes) g.image (plain no_bytes) p q (hinders_here p s) (hinders_there q o z)

  -- steps, and a path at which the request can't be carried out, exclude each other
  pub steps_apart : (d : Emitted) (q : List ℕ) → HasOver dues g.image → AreSteps g.told g.image text b due d → IsHinderedBetween text c dues g.image q → ⊥
  steps_apart d q o s z = steps_or_hindered text (request no_bytes) g.image (plain no_bytes) d q (here d s no_bytes) (hinders_there q o z)

  pub hinders_apart : (p : List ℕ) (e : Emitted) → IsHinderedBetween text b due g.image p → AreSteps g.told g.image text c dues e → ⊥
  hinders_apart p e s z = steps_or_hindered text (request no_bytes) g.image (plain no_bytes) e p (there e z no_bytes) (hinders_here p s)
