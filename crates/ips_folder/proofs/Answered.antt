-- What a call on a folder in memory tells, by what it does to the record.
use Rattle.std.proofs.Common.{◌≡◌, ◌⊎◌, inl, inr, ⊎_elim, ℕ, Bool, true, false, cond, ◌||◌, List, [], ◌∷◌, ◌++◌, length, Option, Some, None, Result, Ok, Err, is_err, OnOk, OnErr, refl, sym, ◌∙◌, ap, subst, arith, length-append}
use Rattle.ips_outside.specs.State.{State, Changed}
use Rattle.ips_outside.specs.Outside.{Elapses, IsCall, Reads, OneMore}
use Rattle.std.proofs.lemmas.Bool.{false_from_ne_true}
use Rattle.std.proofs.lemmas.Bool.Decides.{nat_tests}
use Rattle.ips_outside.specs.Tally.{next_fails}
use Rattle.ips_folder.specs.declared.stop.Stop.{Stop}
use Rattle.ips_outside.specs.declared.tree.Tree.{Tree}
use Rattle.ips_outside.specs.Tree.{tree_image}
use Rattle.ips_folder.specs.Calls.{Writes, Syncs}
use Rattle.ips_folder.specs.declared.call.Call.{Call}
use Rattle.ips_folder.specs.declared.call.Call.TheVariants as call
use Rattle.ips_folder.specs.declared.log.CallLog.{CallLog}
use Rattle.ips_folder.specs.declared.memory.MemFolder.{MemFolder}
use Rattle.ips_folder.specs.History.{Moment, begun, effect, replay}
use Rattle.ips_folder.specs.Memory.{first_moment, moment, Since, mem_folder, tally_of, is_past, is_stopped, is_over, must_fail, IsCounted, Passes, Does, IsRecorded, IsSameRecord, IsMade, IsLate, IsRefused, IsActed}
use Rattle.ips_folder.proofs.Replays.{replay_push, since_push, since_kept}

-- what was said of `Ok` alone
failed_ok : {E : Type 0} (P : Type 0) (r : Result (Unit {0}) E) → is_err r ≡ true → OnOk r P
failed_ok P (Ok u) bad = absurd (cc)
failed_ok P (Err e) bad = tt

on_ok : {E : Type 0} {P : Type 0} (r : Result (Unit {0}) E) → P → OnOk r P
on_ok (Ok u) p = p
on_ok (Err e) p = tt

-- what was said of `Err` alone
served_err : {E : Type 0} (P : Type 0) (r : Result (Unit {0}) E) → is_err r ≡ false → OnErr r P
served_err P (Ok u) good = tt
served_err P (Err e) good = absurd (cc)

on_err : {E : Type 0} {P : Type 0} (r : Result (Unit {0}) E) → P → OnErr r P
on_err (Ok u) p = tt
on_err (Err e) p = p

-- after the stop is not before it
past_stopped : (stop : Option Stop) (made : ℕ) → is_past stop made ≡ true → is_stopped stop made ≡ true
past_stopped (Some stop) made past = grind (arith, nat_tests)
past_stopped None made past = cc

pub late_fails : (f : MemFolder) → is_over f ≡ true → must_fail f ≡ true
late_fails f over = ap (λ (b : Bool). next_fails (tally_of f) || b) (past_stopped f.stop f.calls.made over) ∙ or_last (next_fails (tally_of f))
  where
    or_last : (b : Bool) → (b || true) ≡ true
    or_last true = refl
    or_last false = refl

pub same_log : {k l : CallLog} → l ≡ k → IsSameRecord k l
same_log is = record { first = ap (λ (x : CallLog). x.first) is; calls = ap (λ (x : CallLog). x.calls.items) is }

pub not_late : (f : MemFolder) → must_fail f ≡ false → is_over f ≡ false
not_late f served = false_from_ne_true _ (λ over. let fails = late_fails f over in cc)

module _ (f g : MemFolder) where
  -- the record stays
  module _ (same : IsSameRecord f.log g.log) where
    pub moment_same : moment g ≡ moment f
    moment_same = ap (λ (l : List Call). replay l (first_moment g.log)) same.calls ∙ ap (λ (t : Tree). replay f.log.calls.items (begun (tree_image t))) same.first

    elapses_same : Elapses mem_folder f g
    elapses_same = record {
      later = omega (arith, ap (λ (l : List Call). length l) same.calls);
      nothing_else = λ t s le was. inl (subst (λ (x : Tree). Since f.log.calls.items (begun (tree_image x)) t s) same.first (subst (λ (l : List Call). Since l (first_moment g.log) t s) same.calls was));
      remembers = λ t s le was. subst (λ (l : List Call). Since l (first_moment g.log) t s) (sym same.calls) (subst (λ (x : Tree). Since f.log.calls.items (begun (tree_image x)) t s) (sym same.first) was);
    }

    called_same : (failed : Bool) → IsCounted f g failed → IsCall mem_folder f g (failed ≡ true)
    called_same failed counted = record { same_kind = refl; time = elapses_same; cause = counted.cause }

    pub reads : (failed : Bool) → IsCounted f g failed → g.changes ≡ f.changes → Reads mem_folder f g (failed ≡ true)
    reads failed counted none_made = record { call = called_same failed counted; kept = ap (λ (m : Moment). m.state) moment_same; none_made = none_made }

    -- where the failure is told by another answer
    pub reads_as : (failed told : Bool) → failed ≡ told → IsCounted f g failed → g.changes ≡ f.changes → Reads mem_folder f g (told ≡ true)
    reads_as failed told is counted none_made = subst (λ (b : Bool). Reads mem_folder f g (b ≡ true)) is (reads failed counted none_made)

  -- the record goes on with a call
  module _ (c : Call) (more : IsRecorded c f.log g.log) where
    moment_push : moment g ≡ effect c (moment f)
    moment_push = ap (λ (l : List Call). replay l (first_moment g.log)) more.calls ∙ ap (λ (t : Tree). replay (f.log.calls.items ++ c ∷ []) (begun (tree_image t))) more.first ∙ replay_push f.log.calls.items c (first_moment f.log)

    elapses_push : Elapses mem_folder f g
    elapses_push = record {
      later = omega (arith, ap (λ (l : List Call). length l) more.calls, length-append f.log.calls.items (c ∷ []));
      nothing_else = λ t s le was. ⊎_elim (λ past. inl past) (λ now. inr (now ∙ ap (λ (m : Moment). m.state) (replay_push f.log.calls.items c (first_moment f.log) ∙ sym moment_push)))
          (since_push f.log.calls.items c (first_moment f.log) t s (subst (λ (x : Tree). Since (f.log.calls.items ++ c ∷ []) (begun (tree_image x)) t s) more.first (subst (λ (l : List Call). Since l (first_moment g.log) t s) more.calls was)));
      remembers = λ t s le was. subst (λ (l : List Call). Since l (first_moment g.log) t s) (sym more.calls)
          (subst (λ (x : Tree). Since (f.log.calls.items ++ c ∷ []) (begun (tree_image x)) t s) (sym more.first) (since_kept f.log.calls.items c (first_moment f.log) t s was));
    }

    called_push : (failed : Bool) → IsCounted f g failed → IsCall mem_folder f g (failed ≡ true)
    called_push failed counted = record { same_kind = refl; time = elapses_push; cause = counted.cause }

  module _ {E : Type 0} (r : Result (Unit {0}) E) where
    -- a call without effect, which failed
    unchanged : (to : State) (free loose : List ℕ → Bool) → is_err r ≡ true → IsSameRecord f.log g.log → IsCounted f g (is_err r) → OneMore f.changes g.changes → Writes mem_folder free loose to f g r
    unchanged to free loose bad same counts one = record { one_made = one; call = called_same same (is_err r) counts; done = λ told. failed_ok _ r bad; only = λ told. inl (ap (λ (m : Moment). m.state) (moment_same same)) }

    -- memory was refused
    pub refused : (to : State) (free loose : List ℕ → Bool) → IsRefused f g (is_err r) → Writes mem_folder free loose to f g r
    refused to free loose lost = unchanged to free loose lost.answer lost.same lost.counts lost.one_made

    pub starves : (to : Moment) → IsRefused f g (is_err r) → Does to f g r
    starves to lost = record { tallied = lost.counts.tallied; ends = inr (record { answer = lost.answer; starved = lost.starved; moment = moment_same lost.same }) }

    module _ (to : Moment) (c : Call) (is : effect c (moment f) ≡ to) where
      pub writes : (free loose : List ℕ → Bool) → Changed free loose (moment f).state to.state → IsActed c f g (is_err r) → Writes mem_folder free loose to.state f g r
      writes free loose changed (inl made) =
          let now : mem_folder.state g ≡ to.state = ap (λ (m : Moment). m.state) (moment_push c made.recorded ∙ is) in
          record {
            call = called_push c made.recorded (is_err r) made.counts;
            done = λ told. on_ok r now;
            only = λ told. inr (subst (Changed free loose (mem_folder.state f)) (sym now) changed);
            one_made = made.one_made;
          }
      writes free loose changed (inr (inl late)) = unchanged to.state free loose (late.answer ∙ late_fails f late.after) late.same late.counts late.one_made
      writes free loose changed (inr (inr lost)) = refused to.state free loose lost

      pub does : IsActed c f g (is_err r) → Does to f g r
      does (inl made) = record {
        tallied = made.counts.tallied;
        ends = inl (record { answer = made.answer; starved = made.starved; moment = moment_push c made.recorded ∙ is ∙ ap (λ (b : Bool). cond b (moment f) to) (sym made.before) });
      }
      does (inr (inl late)) = record {
        tallied = late.counts.tallied;
        ends = inl (record { answer = late.answer; starved = late.starved; moment = moment_same late.same ∙ ap (λ (b : Bool). cond b (moment f) to) (sym late.after) });
      }
      does (inr (inr lost)) = starves to lost

    -- a sync that had to fail, or to which memory was refused
    pub syncs_not : is_err r ≡ true → IsSameRecord f.log g.log → IsCounted f g (is_err r) → OneMore f.changes g.changes → Syncs mem_folder f g r
    syncs_not bad same counts one = record { one_made = one; call = called_same same (is_err r) counts; done = λ told. failed_ok _ r bad; kept = on_err r (ap (λ (m : Moment). m.state) (moment_same same)) }

    -- one that was to be carried out
    pub syncs : must_fail f ≡ false → IsActed call.Sync f g (is_err r) → Syncs mem_folder f g r
    syncs served (inl made) =
        let now = moment_push call.Sync made.recorded in
        record {
          call = called_push call.Sync made.recorded (is_err r) made.counts;
          done = λ told. on_ok r (ap (λ (m : Moment). m.state) now);
          kept = served_err _ r (made.answer ∙ served);
          one_made = made.one_made;
        }
    syncs served (inr (inl late)) = syncs_not (late.answer ∙ late_fails f late.after) late.same late.counts late.one_made
    syncs served (inr (inr lost)) = syncs_not lost.answer lost.same lost.counts lost.one_made
