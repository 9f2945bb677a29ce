-- Two plans of one request are like.
use Rattle.std.proofs.Common.{◌≡◌, ℕ, Bool, true, List, subst}
use Rattle.ips_outside.specs.Image.{is_dir}
use Rattle.ips_steps.specs.Private.{records_name}
use Rattle.ips_state.specs.declared.state.State.{State}
use Rattle.ips_state.specs.State.{recorded}
use Rattle.ips_plan.specs.image_plan.Accounts.{Given}
use Rattle.ips_plan.specs.request_plan.Plans.{IsRequestPlan}
use Rattle.ips_plan.specs.declared.request_plan.planning.Plan.{Plan}
use Rattle.ips_plan.specs.requested.Meant.{IsPlanAt}
use Rattle.ips_laws.specs.plan_laws.Alike.{AreLikePlans}
use Rattle.ips_laws.proofs.plan_laws.Ledgers.{AnswersAreOne}
use Rattle.ips_laws.proofs.plan_laws.Licenses.{displayed_one}
use Rattle.ips_next.proofs.OneNext.{moment_one}
use Rattle.ips_laws.proofs.plan_laws.Pairs.{pair_like}
use Rattle.ips_laws.proofs.plan_laws.Posed.{FilesFit, IsPosed, news, olds}
use Rattle.ips_laws.proofs.plan_laws.Words.{counts_one, runs_one}

-- what a plan knows of its request
pub plan_posed : (g : Given) (text : List ℕ) (old new : State) (accept : Bool) (p : Plan) (h : IsRequestPlan g text old new accept p) → IsPosed g old new h.between h.is_plan.files h.is_plan.is_plan.planned.due
plan_posed g text old new accept p h =
    let planned = h.is_plan.is_plan.planned in
    record { between = h.is_between; meant = h.is_plan.meant; are_files = h.is_plan.are_files; is_due = planned.is_due; together = planned.together; apart = planned.apart }

module _ (one : AnswersAreOne) (fits : FilesFit) (g : Given) (told : g.told ≡ true) (tells : g.tells ≡ true) (stands : is_dir (g.image.look records_name) ≡ true)
    (old other new next : State) (was_same : recorded old ≡ recorded other) (is_same : recorded new ≡ recorded next) (accept : Bool) (p q : Plan) where
  like_at : (text : List ℕ) → IsRequestPlan g text old new accept p → IsRequestPlan g text other next accept q → AreLikePlans g.image p q
  like_at text h k =
      let b = h.between in
      let c = k.between in
      let here = h.is_plan.is_plan in
      let there = k.is_plan.is_plan in
      let was = olds one g told tells old other new next was_same is_same b c h.is_between k.is_between h.is_plan.meant k.is_plan.meant in
      let is = news one g told tells old other new next was_same is_same b c h.is_between k.is_between h.is_plan.meant k.is_plan.meant in
      let words = runs_one b.old.now c.old.now b.new.now c.new.now was is p.before.items q.before.items p.after.items q.after.items here.words there.words in
      record {
        steps = pair_like one fits g told tells stands text old other new next was_same is_same b c h.is_plan.files k.is_plan.files here.planned.due there.planned.due (plan_posed g text old new accept p h) (plan_posed g text other next accept q k)
            (here.planned.planned.steps.over told) p.planned.emitted q.planned.emitted here.planned.planned.steps there.planned.planned.steps;
        licenses = displayed_one b.old.now c.old.now b.new.now c.new.now was is accept p.planned.licenses.items q.planned.licenses.items here.planned.planned.displayed there.planned.planned.displayed;
        before = words.0;
        after = words.1;
        counts = counts_one b.old.now c.old.now b.new.now c.new.now was is p.counts q.counts here.counted there.counted;
      }

  pub plans_like : (moment : ℕ) → IsPlanAt g moment old new accept p → IsPlanAt g moment other next accept q → AreLikePlans g.image p q
  plans_like moment h k = like_at k.0 (subst (λ (text : List ℕ). IsRequestPlan g text old new accept p) (moment_one moment h.0 k.0 h.1 k.1) h.2) k.2
