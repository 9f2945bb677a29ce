use Rattle.std.proofs.Common.{◌≡◌, ◌⊎◌, inl, inr, ℕ, Bool, true, false, cond, nat_lt, List, [], None, length, refl, sym, ◌∙◌, ap, subst, arith}
use Rattle.std.proofs.lemmas.List.{take_all}
use Rattle.ips_text.specs.Ancestry.{parent}
use Rattle.ips_text.specs.Path.{IsPath}
use Rattle.ips_steps.specs.Steps.{path_of}
use Rattle.ips_steps.specs.View.{step_of}
use Rattle.ips_steps.specs.declared.step.Step.{Step}
use Rattle.ips_rehearse.specs.Asked as asked
use Rattle.ips_rehearse.specs.Asked.{IsLongest}
use Rattle.ips_rehearse.proofs.Longest.{longest_more, longest_none}
use Rattle.ips_rehearse.proofs.asking.longest_name.Goals as goal

abbrev IsName : List ℕ → Type 0
IsName name = (name ≡ []) ⊎ (IsPath name × (parent name ≡ None))

either : (b : Bool) (one two : List ℕ) → IsName one → IsName two → IsName (cond b two one)
either true one two h k = k
either false one two h k = h

pub loop-step-init : goal.loop-step-init
loop-step-init c = record { longest = longest_none (λ s. asked.last_part (path_of (step_of s))); name = inl refl }

pub last_part-requires : goal.last_part-requires
last_part-requires c = subst IsPath (sym c.bytes.ensures.value) c.bytes.ensures.path

pub loop-step-preserved : goal.loop-step-preserved
loop-step-preserved c = record {
  longest = longest_more (λ s. asked.last_part (path_of (step_of s))) c.args.steps.now c.loop-step.step-index c.step-item.result c.loop-step-test.true c.step-item.is
      c.loop-step.longest.now c.last_part.result.now c.longer-longest.result.now (c.last_part.ensures.value ∙ ap asked.last_part (c.bytes.ensures.value ∙ c.path.ensures)) c.longer-longest.ensures c.loop-step.invariant.longest;
  name = subst IsName (sym c.longer-longest.ensures) (either (nat_lt (length c.loop-step.longest.now) (length c.last_part.result.now)) c.loop-step.longest.now c.last_part.result.now c.loop-step.invariant.name (inr c.last_part.ensures.name));
}

pub returns-clause-longest : goal.returns-clause-longest
returns-clause-longest c =
    subst (λ (l : List Step). IsLongest (λ s. asked.last_part (path_of (step_of s))) l c.loop-step.longest.now) (take_all c.loop-step.step-index c.args.steps.now (omega (arith, c.loop-step-test.false))) c.loop-step.invariant.longest
