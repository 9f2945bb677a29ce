-- Runs of commands that mean more.
use Rattle.std.proofs.Common.{Bool, List}
use Rattle.std.proofs.lemmas.Option.{IfSome_then}
use Rattle.ips_outside.specs.Image.{Image}
use Rattle.ips_outside.specs.Outside.{Outside}
use Rattle.ips_kinds.specs.Tallies.{Carrier}
use Rattle.ips_history.specs.Run.{Claim, IsRun}
use Rattle.ips_history.specs.Transition.{IsRequestRun, Transition, Kept, Asked, Created, CreatedInPart}
use Rattle.ips_history.specs.declared.effect.Effect.{Effect}

-- Where what a command means is meant by another, a run of the one is one of the other.
module _ {F : Type 0} (o : Outside F) (means wider : Image → Image → Type 0) (more : (before after : Image) → means before after → wider before after) where
  request_means_more : (is_done : Bool) (at new : F) → IsRequestRun o means is_done at new → IsRequestRun o wider is_done at new
  request_means_more is_done at new q = record {
    safe = q.safe;
    shut = q.shut;
    after = q.after;
    is_meant = IfSome_then q.after q.is_meant (more _);
    owed = q.owed;
    due = q.due;
    done = q.done;
  }

  transition_means_more : (effect : Effect) (is_done : Bool) (old new : F) → Transition o means effect is_done old new → Transition o wider effect is_done old new
  transition_means_more effect is_done old new (Kept not why still) = Kept not why still
  transition_means_more effect is_done old new (Asked at later changes synced same still q) = Asked at later changes synced same still (request_means_more is_done at new q)
  transition_means_more effect is_done old new (Created at is creating made q) = Created at is creating made (request_means_more is_done at new q)
  transition_means_more effect is_done old new (CreatedInPart is not creating) = CreatedInPart is not creating

  pub run_means_more : (effect : Effect) (claim : Claim) (before now : List Carrier) (old new : F) → IsRun o means effect claim before now old new → IsRun o wider effect claim before now old new
  run_means_more effect claim before now old new run = record {
    transition = transition_means_more effect claim.done old new run.transition;
    recovered = run.recovered;
    unseen = run.unseen;
    unopened = run.unopened;
    unneeded = run.unneeded;
    readable = run.readable;
    out_of_memory = run.out_of_memory;
    resumes = run.resumes;
    opened = run.opened;
  }
