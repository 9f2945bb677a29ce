-- What a fix lays, from what a run says of it.
use Rattle.std.proofs.Common.{◌≡◌, true, ℕ, ◌+◌, ◌-◌, ◌*◌, ◌<◌, ◌≤◌, ◌^◌, All, IsTrue, List, length, take, drop, Some, refl, sym, subst, ap, ◌∙◌, arith}
use Rattle.std.proofs.lemmas.List.{length-take-le, length-drop}
use Rattle.ips_outside.specs.Outside.{Outside}
use Rattle.ips_steps.specs.Steps.{Step}
use Rattle.ips_steps.specs.Owed.{steps_left}
use Rattle.ips_kinds.specs.Tallies.{Carrier, all_counted, tally_of_all}
use Rattle.ips_kinds.proofs.Counting.{room_of, steps_together}
use Rattle.ips_commit.specs.Recovering.{CanResume}
use Rattle.ips_history.specs.Run.{IsLeft, IsRecovered}
use Rattle.ips_trial.specs.Counted.{HaveFinished, TakeAll}
use Rattle.ips_laws.specs.histories.Resumed.{IsLeftToFix, LaysFewAgain, LaysWhatIsLeft}

-- steps that are counted raise the tallies by as many as they are
risen_by : (steps : List Step) (n : ℕ) → length steps ≡ n → (before now : List Carrier) → TakeAll before → now ≡ all_counted steps before → HaveFinished n before now
risen_by steps n many before now takes counted room =
    ap tally_of_all counted
    ∙ steps_together steps before takes (room_of (length steps) before (subst (λ (m : ℕ). All (λ (k : Carrier). k.finished + m < 2 ^ 64) before) (sym many) room))
    ∙ ap (λ (m : ℕ). tally_of_all before + m) many

pub lays_what_is_left : {F : Type 0} (o : Outside F) (before now : List Carrier) (old new : F) → TakeAll before → IsRecovered o true before now old new → LaysWhatIsLeft (o.state old).held before now
lays_what_is_left o before now old new takes recovered =
    let (steps, marks, can, counted) = recovered.laid refl in
    record {
      steps = steps;
      marks = marks;
      can = can;
      risen = risen_by (steps_left marks steps) (length steps - 1000 * marks) (length-drop (1000 * marks) steps) before now takes counted;
    }

few_again : {F : Type 0} (o : Outside F) (marks laid : ℕ) (steps : List Step) → laid ≤ length steps → (before now : List Carrier) (new : F) → TakeAll before → now ≡ all_counted (take laid steps) before
    → CanResume (o.state new) marks laid → LaysFewAgain o marks before now new
few_again o marks laid steps few before now new takes counted resumes = record {
  laid = laid;
  risen = risen_by (take laid steps) laid (length-take-le laid steps few) before now takes counted;
  resumes = resumes;
}

pub lays_few_again : {F : Type 0} (o : Outside F) (before now : List Carrier) (old new : F) → TakeAll before → IsLeft o before now old new → IsLeftToFix o before now old new
lays_few_again o before now old new takes left = record {
  begun = λ shut. let (steps, laid, few, counted, resumes) = left.begun shut in few_again o 0 laid steps few before now new takes counted resumes;
  found = λ stands steps marks after lists owed. let still = left.again stands steps marks lists in
      few_again o marks still.laid (steps_left marks steps) still.are.few before now new takes still.are.tallies (still.resumes after owed);
}
