-- A request, phase by phase: what is owed, and what is due.
use Rattle.std.proofs.Common.{◌≡◌, inl, inr, ⊎_elim, ℕ, true, false, List, Option, Some, None, refl, sym, ◌∙◌, ap, subst}
use Rattle.ips_outside.specs.Image.{Image}
use Rattle.ips_outside.specs.State.{State, IsSettled, nowhere}
use Rattle.ips_outside.specs.Outside.{Outside, IsOutside, Elapses}
use Rattle.ips_folder.specs.Calls.{ChangesOnly, Throughout}
use Rattle.ips_folder.proofs.Runs.{joins}
use Rattle.ips_steps.specs.Steps.{Step}
use Rattle.ips_steps.specs.Private.{gate_name, visible}
use Rattle.ips_steps.specs.Owed.{FolderOwes}
use Rattle.ips_steps.proofs.Lists.{clash}
use Rattle.ips_kinds.specs.Tallies.{Carrier}
use Rattle.ips_journal.specs.Text.{journal_text}
use Rattle.ips_actuate.specs.declared.running.ActFault.{ActFault}
use Rattle.ips_commit.specs.Due.{IsSafelyOpen, DueOnceOpen}
use Rattle.ips_commit.specs.Pending.{HasCommitted, is_swept}
use Rattle.ips_commit.specs.Staging.{IsStaged, IsCleared}
use Rattle.ips_commit.specs.declared.fault.CommitFault.{CommitFault}
use Rattle.ips_commit.specs.declared.fault.CommitFault.TheVariants as commit_fault
use Rattle.ips_commit.proofs.Owing.{swept_seen}
use Rattle.ips_history.specs.Due.{NeverOpen, HasEnded}
use Rattle.ips_run.specs.declared.ending.Ending.{Ending}
use Rattle.ips_run.specs.declared.ending.Ending.TheVariants as ending
use Rattle.ips_run.specs.Ending.{is_done, is_failed, is_out_of_memory, IsEarly}
use Rattle.ips_run.specs.Phases.{IsSafelyShut, StaysSafelyShut, uncommitted_as, IsUnrun, IsUnrunBefore, Failed, Spawn, IsResumable, IsCarried, IsAsked}
use Rattle.ips_run.proofs.Opened.{always_safely_shut, owes_seen, always_shut, never_open, stays_owed, withdrawn}

-- ---- what is due

pub ended : (a : Image) (s : State) → HasCommitted a s → HasEnded (Some a) s
ended a s done = record { seen = ap (λ (t : Image). Some t) (sym done.seen); bare = done.bare; safe = done.safe }

module _ {F : Type 0} (o : Outside F) (sane : IsOutside o) where
  -- from where a command has decided
  pub owed_from : (old mid new : F) (a : Option Image) → Elapses o old mid → o.state mid ≡ o.state old → IsSettled (o.state old) → (o.state old).held.look gate_name ≡ None
      → Throughout o mid new (FolderOwes journal_text (visible (o.state mid).held) a false) → Throughout o old new (FolderOwes journal_text (visible (o.state old).held) a false)
  owed_from old mid new a time kept clean shut owed =
      let P : State → Type 0 = FolderOwes journal_text (visible (o.state old).held) a false in
      joins o old mid new P (stays_owed o sane old mid time kept (visible (o.state old).held) a false (owes_seen (o.state old) a clean shut))
      (subst (λ (s : State). Throughout o mid new (FolderOwes journal_text (visible s.held) a false)) kept owed)

  -- the gate was never open until then
  due_then : (b a : Image) (old mid new : F) → NeverOpen o old mid → DueOnceOpen o b a mid new → DueOnceOpen o b a old new
  due_then b a old mid new never due = ⊎_elim
      (λ still. inl (joins o old mid new (λ s. IsSafelyOpen s → ⊥) never still))
      (λ d. inr (record {
        before = d.before;
        since = d.since;
        not_yet = joins o old mid d.before (λ s. IsSafelyOpen s → ⊥) never d.not_yet;
        written = d.written;
        call = d.call;
        sync = d.sync;
        is_open = d.is_open;
        owed = d.owed;
      }))
      due

  module _ {T : Type 0} (steps : List Step) (a : Image) (old : F) (staged : IsStaged steps a (o.state old)) (before : List Carrier) where
    -- an actuator before the commit wasn't run to its end, and what stands ready was to be taken away
    pub carried_before : (new : F) (list : List (List (List ℕ))) (why : ActFault) (x : Ending T) → IsUnrunBefore list why x → ChangesOnly o is_swept nowhere old new
        → ((c : Option Image) → Throughout o old new (FolderOwes journal_text (visible (o.state old).held) c false)) → (is_failed x ≡ false → IsCleared (o.state new).held) → IsCarried o a x before before old new
    carried_before new list why x is kept owed cleared = go why x is cleared
      where
        shut : StaysSafelyShut o old new
        shut = always_safely_shut o sane (visible (o.state old).held) old new (owed None)

        never : NeverOpen o old new
        never = never_open o sane old new (always_shut o sane (visible (o.state old).held) old new (owed None))

        go : (why : ActFault) (x : Ending T) → IsUnrunBefore list why x → (is_failed x ≡ false → IsCleared (o.state new).held) → IsCarried o a x before before old new
        go why x (inl (Failed at)) cleared = record { owed = owed (Some a); due = inl never; done = λ is. cc; kept = λ is. kept; unopened = λ is. shut; cleared = λ is unfailed. cleared unfailed; resumes = λ is. cc; unrecovered = refl; readable = refl; has_memory = refl }
        go why x (inl Spawn) cleared = record { owed = owed (Some a); due = inl never; done = λ is. cc; kept = λ is. kept; unopened = λ is. shut; cleared = λ is unfailed. cleared unfailed; resumes = λ is. cc; unrecovered = refl; readable = refl; has_memory = refl }
        go why x (inr is) cleared = subst (λ (e : Ending T). IsCarried o a e before before old new) (sym is)
            (record { owed = owed (Some a); due = inl never; done = λ is. cc; kept = λ is. kept; unopened = λ is. shut; cleared = λ is unfailed. cc; resumes = λ is. cc; unrecovered = refl; readable = refl; has_memory = refl })

    module _ (new : F) (now : List Carrier) (owed : Throughout o old new (FolderOwes journal_text (visible (o.state old).held) (Some a) false)) (due : DueOnceOpen o (visible (o.state old).held) a old new) where
      -- the commit wasn't
      pub carried_part : (why : CommitFault) (x : Ending T) → why ≡ commit_fault.Unfinished → x ≡ uncommitted_as why → IsResumable o before now new → IsCarried o a x before now old new
      carried_part why x unfinished is resumable = subst (λ (r : Ending T). IsCarried o a r before now old new) (sym (is ∙ ap (λ (w : CommitFault). uncommitted_as w) unfinished))
          (record { owed = owed; due = due; done = λ is. cc; kept = λ is. cc; unopened = λ is. cc; cleared = λ is unfailed. cc; resumes = λ is. resumable; unrecovered = refl; readable = refl; has_memory = refl })

      module _ (done : HasCommitted a (o.state new)) where
        -- an actuator after it wasn't
        pub carried_but : (list : List (List (List ℕ))) (why : ActFault) (x : Ending T) → IsUnrun list true why x → IsCarried o a x before now old new
        carried_but list why x (Failed at) = record { owed = owed; due = due; done = λ is. ended a (o.state new) done; kept = λ is. cc; unopened = λ is. cc; cleared = λ is unfailed. cc; resumes = λ is. cc; unrecovered = refl; readable = refl; has_memory = refl }
        carried_but list why x Spawn = record { owed = owed; due = due; done = λ is. ended a (o.state new) done; kept = λ is. cc; unopened = λ is. cc; cleared = λ is unfailed. cc; resumes = λ is. cc; unrecovered = refl; readable = refl; has_memory = refl }

        pub carried_all : (told : T) → IsCarried o a (ending.Done told) before now old new
        carried_all told = record { owed = owed; due = due; done = λ is. ended a (o.state new) done; kept = λ is. cc; unopened = λ is. cc; cleared = λ is unfailed. cc; resumes = λ is. cc; unrecovered = refl; readable = refl; has_memory = refl }

  -- ---- the whole

  module _ {T : Type 0} (means : Image → Image → Type 0) (old : F) (clean : IsSettled (o.state old)) (shut : (o.state old).held.look gate_name ≡ None) (before : List Carrier) where
    -- no change stands ready
    pub asked_early : (new : F) (x : Ending T) → IsEarly x → Throughout o old new (FolderOwes journal_text (visible (o.state old).held) None false) → visible (o.state new).held ≡ (visible (o.state old).held)
        → IsAsked o means x before before old new
    asked_early new x early owed seen = record {
      request = withdrawn o sane means (is_done x) early.undone old new clean shut owed;
      unseen = λ is. seen;
      unopened = λ is. always_safely_shut o sane (visible (o.state old).held) old new owed;
      resumes = λ is. absurd (clash _ is early.finished);
      unrecovered = early.unrecovered;
      readable = early.readable;
      out_of_memory = λ is. always_shut o sane (visible (o.state old).held) old new owed;
    }

    pub asked_ready : (mid new : F) (now : List Carrier) (x : Ending T) (a : Image) → means (visible (o.state old).held) a → ((c : Option Image) → Throughout o old mid (FolderOwes journal_text (visible (o.state old).held) c false))
        → visible (o.state mid).held ≡ (visible (o.state old).held) → IsCarried o a x before now mid new → IsAsked o means x before now old new
    asked_ready mid new now x a is_meant owed seen carried =
        let there : Throughout o mid new (FolderOwes journal_text (visible (o.state old).held) (Some a) false) = subst (λ (b : Image). Throughout o mid new (FolderOwes journal_text b (Some a) false)) seen carried.owed in
        let due : DueOnceOpen o (visible (o.state old).held) a mid new = subst (λ (b : Image). DueOnceOpen o b a mid new) seen carried.due in
        let closed = always_shut o sane (visible (o.state old).held) old mid (owed None) in
        record {
          request = record {
            safe = clean;
            shut = shut;
            after = Some a;
            is_meant = is_meant;
            owed = joins o old mid new (FolderOwes journal_text (visible (o.state old).held) (Some a) false) (owed (Some a)) there;
            due = due_then (visible (o.state old).held) a old mid new (never_open o sane old mid closed) due;
            done = carried.done;
          };
          unseen = λ is. swept_seen (o.state mid).held (o.state new).held (carried.kept is).now.agrees ∙ seen;
          unopened = λ is. joins o old mid new IsSafelyShut (always_safely_shut o sane (visible (o.state old).held) old mid (owed None)) (carried.unopened is);
          resumes = carried.resumes;
          unrecovered = carried.unrecovered;
          readable = carried.readable;
          out_of_memory = λ is. absurd (clash (is_out_of_memory x) is carried.has_memory);
        }
