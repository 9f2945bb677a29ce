-- What a run promises, by its phases.
use Rattle.std.proofs.Common.{◌≡◌, ⊎_elim, ℕ, Bool, false, IsTrue, List, [], ◌∷◌, None, Ok, Err, refl, sym, ◌∙◌, subst}
use Rattle.ips_text.specs.declared.refusal.Or.{Or}
use Rattle.ips_text.specs.declared.refusal.Or.TheVariants as or
use Rattle.ips_outside.specs.Image.{Image}
use Rattle.ips_outside.specs.State.{IsSettled}
use Rattle.ips_outside.specs.Outside.{Outside, IsOutside, HasCause, Reads}
use Rattle.ips_outside.proofs.Faults.{no_cause, cause_as, cause_behind}
use Rattle.ips_outside.proofs.Reading.{reads_none, reads_as}
use Rattle.ips_folder.proofs.Runs.{started}
use Rattle.ips_steps.specs.Private.{gate_name}
use Rattle.ips_kinds.specs.Tallies.{Carrier}
use Rattle.ips_journal.specs.Text.{journal_text}
use Rattle.ips_commit.specs.declared.fault.CommitFault.{CommitFault}
use Rattle.ips_syntax.specs.declared.table.Why.{Why}
use Rattle.ips_put.specs.Settling.{Settled, Settles}
use Rattle.ips_sends.specs.Sends.{IsSend}
use Rattle.ips_sends.specs.Whole.{AreWholeOrOut}
use Rattle.ips_judged.specs.declared.verdict.Asked.{Asked}
use Rattle.ips_judged.specs.Answers.{IsAsked}
use Rattle.ips_published.specs.Ending.{Ending}
use Rattle.ips_published.specs.Publishing.{attempt}
use Rattle.ips_published.specs.Answers.{Ends, IsUnjudged}
use Rattle.ips_send_words.specs.Words.{Asks, IsUsage}
use Rattle.ips_send_words.specs.declared.request.Request.{Request}
use Rattle.ips_send_words.specs.declared.request.Request.TheVariants.{Create, Publish}
use Rattle.ips_send_report.specs.declared.outcome.SendOutcome.{SendOutcome}
use Rattle.ips_send_report.specs.declared.outcome.SendOutcome.TheVariants as outcome
use Rattle.ips_publish.specs.Told.{unsettled_as, created_as, published_as, is_published, BlamesFolder, IsEarly, IsToldFor}
use Rattle.ips_publish.specs.Comes.{EndsMaking, Does, Makes, Publishes, Comes, Misworded, Starved, Unsettled, Done, Untold}
use Rattle.ips_publish.specs.Stops.{Stops, NoneBegun, OneBegun, MadeInPart}
use Rattle.ips_publish.specs.Sent.{IsSent}
use Rattle.ips_publish.proofs.Outcomes.{Made, early_unpublished, early_unblamed, early_unread, unsettled_unpublished, unsettled_unread}
use Rattle.ips_publish.proofs.Causes.{FailsSettling, isnt_settled, unsettled_cause, settled_unfailed}
use Rattle.ips_publish.proofs.Stopping.{KeepsAll, nothing_done, has_settled, begins_none, done_stops}

module _ {S F : Type 0} (q : Outside S) (o : Outside F) (sane : IsOutside o) where
  -- ---- a request

  -- a repository is made, or not
  pub makes_so : (source : S) (at new : F) (request : Request) (publisher given : List ℕ) (x : Made) (told : SendOutcome) → request ≡ Create publisher → given ≡ publisher → told ≡ created_as x
      → (IsTrue (o.tells at) → EndsMaking o given at new x) → Does q o source at new request told
  makes_so source at new request publisher given x told asked same is ends =
      subst (λ (r : Request). Does q o source at new r told) (sym asked)
      (subst (λ (y : SendOutcome). Does q o source at new (Create publisher) y) (sym is) (Makes publisher x (λ tells. subst (λ (p : List ℕ). EndsMaking o p at new x) same (ends tells))))

  -- a package is published, or not
  pub publishes_so : (source : S) (at new : F) (a : Asked) (is : IsAsked a) (x : Ending) (told : SendOutcome) → published_as a x ≡ told
      → (IsTrue (q.tells source) → IsTrue (o.tells at) → Ends o (q.state source).held a is at new x) → Does q o source at new (Publish a.publisher a.stem a.version a.path) told
  publishes_so source at new a is x told same ends = subst (λ (y : SendOutcome). Does q o source at new (Publish a.publisher a.stem a.version a.path) y) same (Publishes a is x ends)

  -- memory runs out before anything is asked
  pub publishes_none : (source : S) (at : F) (a : Asked) → IsAsked a → Does q o source at at (Publish a.publisher a.stem a.version a.path) outcome.OutOfMemory
  publishes_none source at a is = Publishes a is (Err or.OutOfMemory) (λ tells told. IsUnjudged (Err or.OutOfMemory) tt (started o at (λ s. s ≡ o.state at) (sane.only_now at) refl))

  -- ---- a run

  module _ (words : List (List ℕ)) (moment : ℕ) (source : S) (old : F) (before : List Carrier) where
    -- nothing is asked of the target
    unsent : (x : SendOutcome) → Comes q o words moment source old old before before x → is_published x ≡ false → (x ≡ outcome.SourceFault → ⊥) → (BlamesFolder x → ⊥)
        → IsSent q o words moment source source old old before before x
    unsent x comes unpublished unread unblamed = record {
      comes = comes;
      stops = λ tells told. NoneBegun unpublished (begins_none o sane old old (nothing_done o sane old));
      reads = reads_none q source (x ≡ outcome.SourceFault) unread;
      cause = no_cause (o.faults old) (BlamesFolder x) unblamed;
      same_kind = refl;
    }

    pub misworded : (place : ℕ) (why : Why) → IsUsage moment words place why → IsSent q o words moment source source old old before before (outcome.Usage place why)
    misworded place why usage = unsent (outcome.Usage place why) (Misworded place why usage refl refl) refl (λ is. cc) (λ blames. blames)

    pub starved : IsSent q o words moment source source old old before before outcome.OutOfMemory
    starved = unsent outcome.OutOfMemory (Starved refl refl) refl (λ is. cc) (λ blames. blames)

    module _ (request : Request) (asks : Asks moment words request) (at : F) (mid : List Carrier) (same_kind : o.tells at ≡ o.tells old) (all : IsTrue (o.tells old) → KeepsAll o old at) where
      -- it isn't settled
      pub unsettled : (why : Or CommitFault) (x : SendOutcome) → x ≡ unsettled_as why → (IsTrue (o.tells old) → Settles o old at before mid (isnt_settled why)) → HasCause (o.faults old) (o.faults at) (FailsSettling (isnt_settled why))
          → IsSent q o words moment source source old at before mid x
      unsettled why x is how cause = subst (λ (y : SendOutcome). IsSent q o words moment source source old at before mid y) (sym is) (record {
        comes = Unsettled request why asks how;
        stops = λ tells told. NoneBegun (unsettled_unpublished why) (begins_none o sane old at (all told));
        reads = reads_none q source (unsettled_as why ≡ outcome.SourceFault) (unsettled_unread why);
        cause = unsettled_cause (o.faults old) (o.faults at) why cause;
        same_kind = same_kind;
      })

      -- it is settled, and then the request is done, or not
      pub settled : (settling : Settled) → settling ≡ Ok tt → (IsTrue (o.tells old) → Settles o old at before mid settling) → (IsTrue (o.tells old) → IsSettled (o.state at))
          → (IsTrue (o.tells old) → (o.state at).held.look gate_name ≡ None) → HasCause (o.faults old) (o.faults at) (FailsSettling settling) → (source_new : S) (new : F) (now : List Carrier) (x : SendOutcome)
          → Does q o source at new request x → Reads q source source_new (x ≡ outcome.SourceFault) → HasCause (o.faults at) (o.faults new) (BlamesFolder x) → o.tells new ≡ o.tells at
          → IsSent q o words moment source source_new old new before now x
      settled settling is how safe shut first source_new new now x does reads cause same = record {
        comes = Done request at mid x asks (λ told. record {
          settles = subst (λ (r : Settled). Settles o old at before mid r) is (how told);
          has = has_settled o sane old at (all told) (safe told) (shut told);
          same_kind = same_kind;
        }) does;
        stops = λ tells told. done_stops o sane (q.state source).held words moment old at new (all told) (has_settled o sane old at (all told) (safe told) (shut told)) q source request x does refl tells (same_kind ∙ told) asks;
        reads = reads;
        cause = cause_behind (o.faults old) (o.faults at) (o.faults new) (FailsSettling settling) (BlamesFolder x) (BlamesFolder x) first (settled_unfailed settling is) cause (λ blames. blames) (λ blames. blames);
        same_kind = same ∙ same_kind;
      }

    -- ---- what is told of it

    module _ (source_new : S) (new : F) (now : List Carrier) where
      untold_stops : (proto : Image) (x : SendOutcome) → IsEarly x → Stops o proto words moment old new x → Stops o proto words moment old new outcome.OutOfMemory
      untold_stops proto x early (NoneBegun unpublished is) = NoneBegun refl is
      untold_stops proto x early (OneBegun a is put at asks has judges sends) =
          OneBegun a is put at asks has judges (subst (λ (answered : Bool). IsSend journal_text o AreWholeOrOut (attempt a is put false ∷ []) (attempt a is put answered ∷ []) old new) (early_unpublished x early) sends)
      untold_stops proto x early (MadeInPart at blames has makes) = absurd (early_unblamed x early blames)

      -- memory for its report runs out
      untold : (x : SendOutcome) → IsEarly x → IsSent q o words moment source source_new old new before now x → IsSent q o words moment source source_new old new before now outcome.OutOfMemory
      untold x early sent = record {
        comes = Untold x early sent.comes;
        stops = λ tells told. untold_stops (q.state source).held x early (sent.stops tells told);
        reads = reads_as q source source_new (x ≡ outcome.SourceFault) (outcome.OutOfMemory ≡ outcome.SourceFault) sent.reads (λ is. absurd (early_unread x early is)) (λ is. cc);
        cause = cause_as (o.faults old) (o.faults new) (BlamesFolder x) ⊥ sent.cause (early_unblamed x early) (λ never. absurd never);
        same_kind = sent.same_kind;
      }

      pub told_so : (x told : SendOutcome) → IsToldFor x told → IsSent q o words moment source source_new old new before now x → IsSent q o words moment source source_new old new before now told
      told_so x told which sent =
          ⊎_elim
          (λ same. subst (λ (y : SendOutcome). IsSent q o words moment source source_new old new before now y) (sym same) sent)
          (λ instead. subst (λ (y : SendOutcome). IsSent q o words moment source source_new old new before now y) (sym instead.1) (untold x instead.0 sent))
          which
