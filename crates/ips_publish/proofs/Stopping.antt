-- What is so of attempts, wherever a run is stopped.
use Rattle.std.proofs.Common.{◌≡◌, ⊎_elim, ℕ, Bool, true, false, IsTrue, List, [], ◌∷◌, None, sym, subst}
use Rattle.ips_outside.specs.Image.{Image}
use Rattle.ips_outside.specs.State.{State, IsSettled}
use Rattle.ips_outside.specs.Outside.{Outside, IsOutside}
use Rattle.ips_folder.specs.Calls.{Throughout}
use Rattle.ips_folder.proofs.Runs.{started, joins, weaker}
use Rattle.ips_steps.specs.Private.{gate_name}
use Rattle.ips_journal.specs.Text.{journal_text}
use Rattle.ips_sends.specs.Keeps.{Keeps}
use Rattle.ips_sends.specs.Sends.{IsSend, HasSettled}
use Rattle.ips_sends.specs.Whole.{Attempt, AreWholeOrOut}
use Rattle.ips_sends.proofs.Stops.{nothing_begun, behind}
use Rattle.ips_create.specs.Making.{Creates}
use Rattle.ips_judged.specs.declared.verdict.Asked.{Asked}
use Rattle.ips_judged.specs.Answers.{IsAsked}
use Rattle.ips_published.specs.Ending.{Ending}
use Rattle.ips_published.specs.Publishing.{attempt}
use Rattle.ips_published.specs.Answers.{Ends, IsRefused, IsUnjudged, IsMadeInPart, IsUnput, IsUnfinished, IsPublished}
use Rattle.ips_send_words.specs.Words.{Asks}
use Rattle.ips_send_words.specs.declared.request.Request.{Request}
use Rattle.ips_send_words.specs.declared.request.Request.TheVariants.{Publish}
use Rattle.ips_send_report.specs.declared.outcome.SendOutcome.{SendOutcome}
use Rattle.ips_publish.specs.Told.{created_as, published_as, BlamesFolder}
use Rattle.ips_publish.specs.Comes.{EndsMaking, Does, Makes, Publishes}
use Rattle.ips_publish.specs.Stops.{Stops, NoneBegun, OneBegun, MadeInPart}
use Rattle.ips_publish.proofs.Outcomes.{Made, made_unpublished, refused_unpublished, stopped_unpublished}

-- what is said of attempts is kept at each moment
abbrev pub KeepsAll : {F : Type 0} → Outside F → F → F → Type 0
KeepsAll o old new = (xs : List Attempt) → Keeps journal_text (AreWholeOrOut xs) (o.state old) → Throughout o old new (Keeps journal_text (AreWholeOrOut xs))

module _ {F : Type 0} (o : Outside F) (sane : IsOutside o) where
  -- what holds at each moment holds now
  pub holds_now : (old new : F) (P : State → Type 0) → Throughout o old new P → P (o.state new)
  holds_now old new P run = run.each (o.state new) (sane.counts_now new (o.clock old) run.later)

  -- no call
  pub nothing_done : (old : F) → KeepsAll o old old
  nothing_done old = λ xs was. started o old (Keeps journal_text (AreWholeOrOut xs)) (sane.only_now old) was

  -- nothing is changed
  pub unchanged : (old new : F) → Throughout o old new (λ s. s ≡ o.state old) → KeepsAll o old new
  unchanged old new stays = λ xs was.
      weaker o old new (λ s. s ≡ o.state old) (Keeps journal_text (AreWholeOrOut xs)) (λ s same. subst (λ (t : State). Keeps journal_text (AreWholeOrOut xs) t) (sym same) was) stays

  pub then_keeps : (old mid new : F) → KeepsAll o old mid → KeepsAll o mid new → KeepsAll o old new
  then_keeps old mid new first second = λ xs was.
      let run = first xs was in
      joins o old mid new (Keeps journal_text (AreWholeOrOut xs)) run (second xs (holds_now old mid (Keeps journal_text (AreWholeOrOut xs)) run))

  pub has_settled : (old at : F) → KeepsAll o old at → IsSettled (o.state at) → (o.state at).held.look gate_name ≡ None → HasSettled journal_text o AreWholeOrOut old at
  has_settled old at all safe shut = record { safe = safe; shut = shut; kept = λ xs was. holds_now old at (Keeps journal_text (AreWholeOrOut xs)) (all xs was) }

  -- a run that begins no attempt
  pub begins_none : (old new : F) → KeepsAll o old new → IsSend {A = Attempt} journal_text o AreWholeOrOut [] [] old new
  begins_none old new all = nothing_begun journal_text o AreWholeOrOut sane old new all

  module _ (proto : Image) (words : List (List ℕ)) (moment : ℕ) (old at new : F) (all : KeepsAll o old at) (has : HasSettled journal_text o AreWholeOrOut old at) where
    abbrev StopsAs : SendOutcome → Type 0
    StopsAs x = Stops o proto words moment old new x

    -- a repository is made, or not
    making_keeps : (publisher : List ℕ) → Creates o publisher at new → IsSend {A = Attempt} journal_text o AreWholeOrOut [] [] old new
    making_keeps publisher makes = record {
      at = at;
      before = all;
      from = makes.from;
      first = makes.first;
      still = λ xs was. makes.kept xs (has.kept xs was);
      at_end = λ xs was. holds_now makes.from new (Keeps journal_text (AreWholeOrOut xs)) (makes.kept xs (has.kept xs was));
    }

    made_stops : (publisher : List ℕ) (x : Made) → EndsMaking o publisher at new x → StopsAs (created_as x)
    made_stops publisher x ends =
        ⊎_elim
        (λ makes. NoneBegun (made_unpublished x) (making_keeps publisher makes))
        (λ part. MadeInPart at (subst (λ (y : Made). BlamesFolder (created_as y)) (sym part.1) tt) has part.0)
        ends.creates

    -- nothing is changed since
    nothing_changed : Throughout o at new (λ s. s ≡ o.state at) → IsSend {A = Attempt} journal_text o AreWholeOrOut [] [] old new
    nothing_changed stays = begins_none old new (then_keeps old at new all (unchanged at new stays))

    -- a package is published, or not
    published_stops : (a : Asked) (is : IsAsked a) → Asks moment words (Publish a.publisher a.stem a.version a.path) → (x : Ending) → Ends o proto a is at new x → StopsAs (published_as a x)
    published_stops a is asks x (IsRefused why judges stays) = NoneBegun (refused_unpublished why) (nothing_changed stays)
    published_stops a is asks x (IsUnjudged y stopped stays) = NoneBegun (stopped_unpublished a y stopped) (nothing_changed stays)
    published_stops a is asks x (IsMadeInPart put judges makes) = MadeInPart at tt has makes
    published_stops a is asks x (IsUnput put y judges stopped keeps leaves) =
        OneBegun a is put at asks has judges
        (subst (λ (answered : Bool). IsSend journal_text o AreWholeOrOut (attempt a is put false ∷ []) (attempt a is put answered ∷ []) old new) (sym (stopped_unpublished a y stopped))
        (behind journal_text o AreWholeOrOut sane (attempt a is put false ∷ []) (attempt a is put false ∷ []) old at new all keeps))
    published_stops a is asks x (IsUnfinished put judges keeps leaves) =
        OneBegun a is put at asks has judges (behind journal_text o AreWholeOrOut sane (attempt a is put false ∷ []) (attempt a is put false ∷ []) old at new all keeps)
    published_stops a is asks x (IsPublished put judges keeps leaves) =
        OneBegun a is put at asks has judges (behind journal_text o AreWholeOrOut sane (attempt a is put false ∷ []) (attempt a is put true ∷ []) old at new all keeps)

    -- a request is done, or not
    pub done_stops : {S : Type 0} (q : Outside S) (source : S) (request : Request) (x : SendOutcome) → Does q o source at new request x → (q.state source).held ≡ proto → IsTrue (q.tells source) → IsTrue (o.tells at) → Asks moment words request → StopsAs x
    done_stops q source request x (Makes publisher y ends) same tells told asks = made_stops publisher y (ends told)
    done_stops q source request x (Publishes a is y ends) same tells told asks = published_stops a is asks y (subst (λ (t : Image). Ends o t a is at new y) same (ends tells told))
