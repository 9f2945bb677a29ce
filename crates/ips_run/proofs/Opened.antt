-- A run from its opening sync on, by its last phase.
use Rattle.std.proofs.Common.{◌≡◌, ◌⊎◌, inl, inr, ⊎_elim, arith, ℕ, ◌≤◌, Bool, true, false, cond, List, Option, Some, None, IfSome, is_some, refl, sym, ◌∙◌, ap, subst}
use Rattle.ips_outside.specs.Image.{Entry, Image}
use Rattle.ips_outside.specs.State.{State, IsSettled, settled, untouched}
use Rattle.ips_outside.specs.Outside.{Outside, IsOutside, Elapses, OneMore}
use Rattle.ips_folder.specs.Calls.{Throughout}
use Rattle.ips_folder.proofs.Runs.{started, goes_on, joins, weaker}
use Rattle.ips_steps.specs.Steps.{Step}
use Rattle.ips_steps.specs.Private.{gate_name, visible}
use Rattle.ips_steps.specs.Owed.{Owes, Old, FolderOwes, steps_left}
use Rattle.ips_steps.proofs.Lists.{clash}
use Rattle.ips_steps.proofs.Owing.{owes_synced, folder_old}
use Rattle.ips_kinds.specs.Tallies.{Carrier, all_counted}
use Rattle.ips_journal.specs.Text.{journal_text}
use Rattle.ips_commit.specs.Due.{IsSafelyOpen}
use Rattle.ips_commit.specs.Recovering.{IsJournalled, CanRollForward, IsUnfinished}
use Rattle.ips_history.specs.Due.{NeverOpen}
use Rattle.ips_history.specs.Directories.{shows, creates, fixes, with_directories, image_for}
use Rattle.ips_history.specs.Transition.{StillOwes, IsRequestRun, Creating, CreatingInPart, Transition, Kept, Asked, Created, CreatedInPart}
use Rattle.ips_history.specs.Run.{IsRecovered, StaysShut, HasOpened, IsRun}
use Rattle.ips_history.specs.declared.effect.Effect.{Effect}
use Rattle.ips_history.specs.declared.effect.Effect.TheVariants as effect
use Rattle.ips_history.proofs.Histories.{settled_private}
use Rattle.ips_run.specs.declared.ending.Ending.{Ending}
use Rattle.ips_run.specs.declared.ending.Ending.TheVariants as ending
use Rattle.ips_run.specs.Ending.{is_done, is_unneeded, recovery, is_left, is_bad_journal, is_out_of_memory, is_failed, claim_of, IsEarly}
use Rattle.ips_run.specs.Phases.{IsSafelyShut, StaysSafelyShut, IsAsked, IsBack, IsNotBefore, HasFailedInCommit}
use Rattle.ips_run.specs.Creating.{IsMaking, IsMakingInPart, IsCreated, Standing, Uncreated, Made, Failed}
use Rattle.ips_commit.specs.Pending.{IsBare}

-- where no other image is owed, nothing stands at the gate
none_shut : (b : Image) (due : Bool) (t : Image) → Owes journal_text b None due t → t.look gate_name ≡ None
none_shut b due t (Old gone seen) = gone

owed_shut : (b : Image) (s : State) → FolderOwes journal_text b None false s → s.held.look gate_name ≡ None
owed_shut b s owes = none_shut b false s.held owes.now

owed_safely_shut : (b : Image) (s : State) → FolderOwes journal_text b None false s → IsSafelyShut s
owed_safely_shut b s owes = (owed_shut b s owes, λ c may. none_shut b false c (owes.left c may))

pub owes_seen : (s : State) (a : Option Image) → IsSettled s → s.held.look gate_name ≡ None → FolderOwes journal_text (visible s.held) a false s
owes_seen s a clean shut = folder_old journal_text s (settled_private s clean) shut (clean.whole gate_name) a

-- a count that is the same hasn't fallen
pub no_fewer : (a b : ℕ) → b ≡ a → a ≤ b
no_fewer a b same = omega (arith, same)

pub synced_safe : (old s : State) → s ≡ settled old → IsSettled s
synced_safe old s is = subst IsSettled (sym is) (record { whole = λ q. refl; modes = λ q. refl })

-- a commit that failed in a run failed in one that began earlier
pub failed_since : {F : Type 0} (o : Outside F) (old at new : F) → IsNotBefore o old at → HasFailedInCommit o at new → HasFailedInCommit o old new
failed_since o old at new since failed = record {
  ready = failed.ready;
  steps = failed.steps;
  after = failed.after;
  staged = failed.staged;
  since = record { time = omega (arith, since.time, failed.since.time); faults = omega (arith, since.faults, failed.since.faults); changes = omega (arith, since.changes, failed.since.changes) };
  until = failed.until;
  rose = failed.rose;
  changed = failed.changed;
}

-- behind the opening sync and a look
pub since_opened : {F : Type 0} (o : Outside F) (old at mid : F) → o.clock old ≤ o.clock mid → o.faults old ≤ o.faults at → o.faults at ≤ o.faults mid
    → o.changes old ≤ o.changes at → o.changes mid ≡ o.changes at → IsNotBefore o old mid
since_opened o old at mid time first second more kept = record { time = time; faults = omega (arith, first, second); changes = omega (arith, more, kept) }

-- nothing more is made safe behind a sync
pub as_settled : (old s : State) → s ≡ settled old → s ≡ settled s
as_settled old s is = is ∙ ap (λ (r : State). settled r) (sym is)

pub creates_unfixed : (e : Effect) → creates e ≡ true → fixes e ≡ false
creates_unfixed effect.Shows is = refl
creates_unfixed effect.Changes is = refl
creates_unfixed effect.Creates is = refl
creates_unfixed effect.Fixes is = cc

module _ {F : Type 0} (o : Outside F) (sane : IsOutside o) where
  -- a call, and one more that changes nothing
  pub elapses_kept : (old at mid : F) → Elapses o old at → Elapses o at mid → o.state mid ≡ o.state at → Elapses o old mid
  elapses_kept old at mid first second kept = record {
    later = omega (arith, first.later, second.later);
    nothing_else = λ t s le was. ⊎_elim
        (λ earlier. ⊎_elim (λ a. inl a) (λ now. inr (now ∙ sym kept)) (first.nothing_else t s le earlier))
        (λ now. inr now)
        (second.nothing_else t s (omega (arith, le, first.later)) was);
    remembers = λ t s le was. second.remembers t s (omega (arith, le, first.later)) (first.remembers t s le was);
  }

  pub always_shut : (b : Image) (at new : F) → Throughout o at new (FolderOwes journal_text b None false) → StaysShut o at new
  always_shut b at new owed = weaker o at new (FolderOwes journal_text b None false) (λ s. s.held.look gate_name ≡ None) (owed_shut b) owed

  pub always_safely_shut : (b : Image) (at new : F) → Throughout o at new (FolderOwes journal_text b None false) → StaysSafelyShut o at new
  always_safely_shut b at new owed = weaker o at new (FolderOwes journal_text b None false) IsSafelyShut (owed_safely_shut b) owed

  pub stays_shut_of : (at new : F) → StaysSafelyShut o at new → StaysShut o at new
  stays_shut_of at new shut = weaker o at new IsSafelyShut (λ s. s.held.look gate_name ≡ None) (λ s is. is.0) shut

  pub never_open : (at new : F) → StaysShut o at new → NeverOpen o at new
  never_open at new shut = weaker o at new (λ s. s.held.look gate_name ≡ None) (λ s. IsSafelyOpen s → ⊥) (λ s none is. is.stands none) shut

  pub stays_owed : (at new : F) → Elapses o at new → o.state new ≡ o.state at → StillOwes o at new
  stays_owed at new time kept = λ b a due owes. goes_on o at at new (FolderOwes journal_text b a due)
      (started o at (FolderOwes journal_text b a due) (sane.only_now at) owes) time (subst (FolderOwes journal_text b a due) (sym kept) owes)

  pub stays_shut : (at new : F) → Elapses o at new → (o.state new).held ≡ (o.state at).held → (o.state at).held.look gate_name ≡ None → StaysShut o at new
  stays_shut at new time kept shut = goes_on o at at new (λ s. s.held.look gate_name ≡ None)
      (started o at (λ s. s.held.look gate_name ≡ None) (sane.only_now at) shut) time (ap (λ (t : Image). t.look gate_name) kept ∙ shut)

  pub then_owes : (old at new : F) → StillOwes o old at → StillOwes o at new → StillOwes o old new
  then_owes old at new first second = λ b a due owes.
      let front = first b a due owes in
      joins o old at new (FolderOwes journal_text b a due) front (second b a due (front.each (o.state at) (sane.counts_now at (o.clock old) front.later)))

  -- the opening sync, and what came behind it
  abbrev pub opened : (old at new : F) → Elapses o old at → o.state at ≡ settled (o.state old) → OneMore (o.changes old) (o.changes at) → o.changes at ≤ o.changes new → HasOpened o old new
  opened old at new time is_synced one later = record {
    at = at;
    synced = is_synced;
    until = goes_on o old old at (λ s. (s ≡ o.state old) ⊎ (s ≡ settled (o.state old)))
        (started o old (λ s. (s ≡ o.state old) ⊎ (s ≡ settled (o.state old))) (sane.only_now old) (inl refl)) time (inr is_synced);
    one = one;
    later = later;
  }

  module _ (means : Image → Image → Type 0) where
    -- a request of which nothing has come
    pub withdrawn : (done : Bool) → done ≡ false → (at new : F) → IsSettled (o.state at) → (o.state at).held.look gate_name ≡ None
        → Throughout o at new (FolderOwes journal_text (visible (o.state at).held) None false) → IsRequestRun o means done at new
    withdrawn done not_done at new clean shut owed = record {
      safe = clean;
      shut = shut;
      after = None;
      is_meant = tt;
      owed = owed;
      due = never_open at new (always_shut (visible (o.state at).held) at new owed);
      done = λ is. absurd (clash done is not_done);
    }

    module _ {T : Type 0} (effect : Effect) (x : Ending T) (before now : List Carrier) where
      none_recovered : (old new : F) → recovery x ≡ None → IfSome (recovery x) (λ forward. IsRecovered o forward before now old new)
      none_recovered old new none = subst (λ (r : Option Bool). IfSome r (λ forward. IsRecovered o forward before now old new)) (sym none) tt

      -- the opening sync has failed
      pub run_unopened : (old new : F) → Elapses o old new → o.state new ≡ o.state old → IsEarly x → is_out_of_memory x ≡ false → is_unneeded x ≡ false → is_failed x ≡ true → IsRun o means effect (claim_of x) before now old new
      run_unopened old new time kept early has_memory needed failed = record {
        transition = Kept early.undone (inl kept) (stays_owed old new time kept);
        recovered = none_recovered old new early.unrecovered;
        unseen = λ is. inl (ap (λ (s : State). visible s.held) kept);
        unopened = λ is shut. inl (stays_shut old new time (ap (λ (s : State). s.held) kept) shut);
        unneeded = λ none. absurd (clash (is_unneeded x) none needed);
        readable = λ is b a due owes. clash (is_bad_journal x) is early.readable;
        out_of_memory = λ is. absurd (clash (is_out_of_memory x) is has_memory);
        resumes = λ is. absurd (clash (is_left x) is early.finished);
        opened = inl (failed, kept);
      }

      -- the opening sync has answered
      module _ (old at new : F) (time : Elapses o old at) (is_synced : o.state at ≡ settled (o.state old)) (has_opened : HasOpened o old new) where
        opened_safe : IsSettled (o.state at)
        opened_safe = synced_safe (o.state old) (o.state at) is_synced

        same_held : (o.state at).held ≡ (o.state old).held
        same_held = ap (λ (s : State). s.held) is_synced

        same_gate : (o.state at).held.look gate_name ≡ (o.state old).held.look gate_name
        same_gate = ap (λ (t : Image). t.look gate_name) same_held

        owes_then : (b : Image) (a : Option Image) (due : Bool) → FolderOwes journal_text b a due (o.state old) → FolderOwes journal_text b a due (o.state at)
        owes_then b a due owes = subst (FolderOwes journal_text b a due) (sym is_synced) (owes_synced journal_text b a due (o.state old) owes)

        opening : StillOwes o old at
        opening = λ b a due owes. goes_on o old old at (FolderOwes journal_text b a due)
            (started o old (FolderOwes journal_text b a due) (sane.only_now old) owes) time (owes_then b a due owes)

        shut_since : (o.state at).held.look gate_name ≡ None → StaysShut o at new → StaysShut o old new
        shut_since shut since = joins o old at new (λ s. s.held.look gate_name ≡ None) (stays_shut old at time same_held (sym same_gate ∙ shut)) since

        transition_of : is_done x ≡ false → StillOwes o at new → Transition o means effect (is_done x) old new
        transition_of not_done still = go ((o.state at).held.look gate_name) refl
          where
            behind : (o.state at).held.look gate_name ≡ None → (b : Bool) → shows effect ≡ b → Transition o means effect (is_done x) old new
            behind shut true is = Kept not_done (inr (inr is)) (then_owes old at new opening still)
            behind shut false is = Asked at time.later is is_synced (λ done. absurd (clash (is_done x) done not_done)) opening (withdrawn (is_done x) not_done at new opened_safe shut
                (still (visible (o.state at).held) None false (owes_seen (o.state at) None opened_safe shut)))

            go : (e : Option Entry) → (o.state at).held.look gate_name ≡ e → Transition o means effect (is_done x) old new
            go None shut = behind shut (shows effect) refl
            go (Some e) there = Kept not_done (inr (inl (λ none. let bad : Some e ≡ None = sym there ∙ same_gate ∙ none in cc))) (then_owes old at new opening still)

        recovers : (forward : Bool) → IsRecovered o forward before now at new → IsRecovered o forward before now old new
        recovers forward r = record {
          still = then_owes old at new opening r.still;
          bare = r.bare;
          safe = r.safe;
          is = r.is ∙ ap (λ (t : Image). is_some (t.look gate_name)) same_held;
          on = λ is b a due owes. r.on is b a due (owes_then b (Some a) due owes);
          laid = λ is. subst (λ (t : Image). (steps : List Step) × (count : ℕ) × CanRollForward t steps count × (now ≡ all_counted (steps_left count steps) before)) same_held (r.laid is);
          back = λ is. r.back is ∙ ap visible same_held;
          unlaid = r.unlaid;
        }

        if_recovers : (r : Option Bool) → IfSome r (λ forward. IsRecovered o forward before now at new) → IfSome r (λ forward. IsRecovered o forward before now old new)
        if_recovers None is = is
        if_recovers (Some forward) is = recovers forward is

        pub run_back : IsBack o x before now at new → IsRun o means effect (claim_of x) before now old new
        run_back back = record {
          transition = transition_of back.undone back.still;
          recovered = if_recovers (recovery x) back.recovered;
          unseen = λ is. inl (back.unseen is ∙ ap visible same_held);
          unopened = λ is shut. let here = same_gate ∙ shut in inl (shut_since here (back.unopened is here));
          unneeded = λ none. absurd (clash (is_unneeded x) none back.needed);
          readable = λ is b a due owes. back.readable is b a due (owes_then b a due owes);
          out_of_memory = λ is. inl (back.out_of_memory is ∙ is_synced);
          resumes = λ is. record {
            begun = λ shut. absurd ((back.resumes is).0 (same_gate ∙ shut));
            again = λ there. subst (λ (t : Image). (steps : List Step) (count : ℕ) → IsJournalled t steps count → IsUnfinished t (o.state new) steps count before now) same_held (back.resumes is).1;
          };
          opened = inr has_opened;
        }

        bare_then : (fixes effect ≡ true → IsBare (o.state at).held) → fixes effect ≡ true → IsBare (o.state old).held
        bare_then bare fixing = subst IsBare same_held (bare fixing)

        pub run_asked : shows effect ≡ false → image_for effect (o.state old).held ≡ (o.state old).held → (fixes effect ≡ true → IsBare (o.state at).held) → IsAsked o means x before now at new
            → IsRun o means effect (claim_of x) before now old new
        run_asked changes same bare asked = record {
          transition = Asked at time.later changes is_synced (λ done. same) opening asked.request;
          recovered = none_recovered old new asked.unrecovered;
          unseen = λ is. inl (asked.unseen is ∙ ap visible same_held);
          unopened = λ is shut. inl (shut_since asked.request.shut (stays_shut_of at new (asked.unopened is)));
          unneeded = λ none. (sym same_gate ∙ asked.request.shut, bare_then bare);
          readable = λ is b a due owes. clash (is_bad_journal x) is asked.readable;
          out_of_memory = λ is. inr (shut_since asked.request.shut (asked.out_of_memory is));
          resumes = λ is. record {
            begun = λ shut. asked.resumes is;
            again = λ there. absurd (there (sym same_gate ∙ asked.request.shut));
          };
          opened = inr has_opened;
        }

        -- nothing but reading since then
        pub run_read : Elapses o at new → o.state new ≡ o.state at → IsEarly x → (is_unneeded x ≡ true → ((o.state at).held.look gate_name ≡ None) × (fixes effect ≡ true → IsBare (o.state at).held))
            → IsRun o means effect (claim_of x) before now old new
        run_read since kept early needless =
            let still = stays_owed at new since kept in
            let seen = ap (λ (s : State). s.held) kept in
            record {
              transition = transition_of early.undone still;
              recovered = none_recovered old new early.unrecovered;
              unseen = λ is. inl (ap visible (seen ∙ same_held));
              unopened = λ is shut. let here = same_gate ∙ shut in inl (shut_since here (stays_shut at new since seen here));
              unneeded = λ none. let at_sync = needless none in (sym same_gate ∙ at_sync.0, bare_then at_sync.1);
              readable = λ is b a due owes. clash (is_bad_journal x) is early.readable;
              out_of_memory = λ is. inl (kept ∙ is_synced);
              resumes = λ is. absurd (clash (is_left x) is early.finished);
              opened = inr has_opened;
            }

        -- ---- the directories of the records are made first

        abbrev creating : (mid : F) → IsMaking o at mid → Creating o old mid
        creating mid making = record {
          from = at;
          later = time.later;
          synced = is_synced;
          still = opening;
          dir = making.dir;
          is = making.is;
          absent = ap (λ (t : Image). t.look making.dir) (sym same_held) ∙ making.absent;
          moments = making.kept.moments;
        }

        creating_in_part : (mid : F) → IsMakingInPart o at mid → CreatingInPart o old mid
        creating_in_part mid part = record { creating = creating mid part.making; moments = part.moments }

        unfixed : creates effect ≡ true → fixes effect ≡ false
        unfixed is = creates_unfixed effect is

        run_made : creates effect ≡ true → (o.state at).held.look gate_name ≡ None → (mid : F) → IsMaking o at mid → StaysShut o at mid → o.state mid ≡ untouched (with_directories (o.state at).held) → IsAsked o means x before now mid new
            → IsRun o means effect (claim_of x) before now old new
        run_made is_creating gate mid making shut made asked =
            let made_of : o.state mid ≡ untouched (with_directories (o.state old).held) = made ∙ ap (λ (t : Image). untouched (with_directories t)) same_held in
            let since : StaysShut o mid new → StaysShut o old new = λ later. shut_since gate (joins o at mid new (λ s. s.held.look gate_name ≡ None) shut later) in
            record {
              transition = Created mid is_creating (creating mid making) made_of asked.request;
              recovered = none_recovered old new asked.unrecovered;
              unseen = λ is. inr (is_creating, inl (asked.unseen is ∙ ap (λ (s : State). visible s.held) made_of));
              unopened = λ is shut. inl (since (stays_shut_of mid new (asked.unopened is)));
              unneeded = λ none. (sym same_gate ∙ gate, λ fixing. absurd (clash (fixes effect) fixing (unfixed is_creating)));
              readable = λ is b a due owes. clash (is_bad_journal x) is asked.readable;
              out_of_memory = λ is. inr (since (asked.out_of_memory is));
              resumes = λ is. record {
                begun = λ shut. asked.resumes is;
                again = λ there. absurd (there (sym same_gate ∙ gate));
              };
              opened = inr has_opened;
            }

      -- a call failed before they were safe
      run_part : x ≡ ending.FolderFault false → creates effect ≡ true → (old new : F) → CreatingInPart o old new → HasOpened o old new → IsRun o means effect (claim_of x) before now old new
      run_part is is_creating old new creating has_opened = subst (λ (e : Ending T). IsRun o means effect (claim_of e) before now old new) (sym is) (record {
        transition = CreatedInPart is_creating refl creating;
        recovered = tt;
        unseen = λ refused. inr (is_creating, inr (refl, creating));
        unopened = λ refused shut. inr (is_creating, (refl, creating));
        unneeded = λ none. cc;
        readable = λ is b a due owes. cc;
        out_of_memory = λ is. cc;
        resumes = λ is. cc;
        opened = inr has_opened;
      })

      pub run_created : creates effect ≡ true → shows effect ≡ false → (old at new : F) → Elapses o old at → o.state at ≡ settled (o.state old) → HasOpened o old new → (o.state at).held.look gate_name ≡ None
          → IsCreated o means x before now at new → IsRun o means effect (claim_of x) before now old new
      run_created is_creating changes old at new time is_synced has_opened gate (Standing mid (since, kept) same asked) =
          let held : (o.state at).held ≡ (o.state old).held = ap (λ (s : State). s.held) is_synced in
          run_asked old mid new (elapses_kept old at mid time since kept) (kept ∙ is_synced) has_opened changes
          (subst (λ (b : Bool). cond b (with_directories (o.state old).held) (o.state old).held ≡ (o.state old).held) (sym is_creating) (subst (λ (t : Image). with_directories t ≡ t) held same))
          (λ fixing. absurd (clash (fixes effect) fixing (creates_unfixed effect is_creating))) asked
      run_created is_creating changes old at new time is_synced has_opened gate (Uncreated early (since, kept)) =
          run_read old at new time is_synced has_opened since kept early (λ none. (gate, λ fixing. absurd (clash (fixes effect) fixing (creates_unfixed effect is_creating))))
      run_created is_creating changes old at new time is_synced has_opened gate (Made mid made shut stands asked) =
          run_made old at new time is_synced has_opened is_creating gate mid made.making shut stands asked
      run_created is_creating changes old at new time is_synced has_opened gate (Failed is making) =
          run_part is is_creating old new (creating_in_part old at new time is_synced has_opened new making) has_opened
