-- What a run of `send` does to what is said of the target, wherever it is stopped.
use Rattle.std.specs.Prelude.{ℕ, true, false, IsTrue, IsFalse, List, [], ◌∷◌, ◌++◌}
use Rattle.std.specs.List.{Contains}
use Rattle.ips_outside.specs.Image.{Image}
use Rattle.ips_outside.specs.Outside.{Outside}
use Rattle.ips_journal.specs.Text.{journal_text}
use Rattle.ips_sends.specs.Judged.{Put, Judges}
use Rattle.ips_sends.specs.Judged as judged
use Rattle.ips_sends.specs.Sends.{IsSend, HasSettled, Sends}
use Rattle.ips_sends.specs.Whole.{Attempt, AreWholeOrOut}
use Rattle.ips_send_words.specs.Words.{Asks}
use Rattle.ips_send_words.specs.declared.request.Request.TheVariants.{Publish}
use Rattle.ips_send_report.specs.declared.outcome.SendOutcome.{SendOutcome}
use Rattle.ips_judged.specs.declared.verdict.Asked.{Asked}
use Rattle.ips_judged.specs.Answers.{IsAsked, asked_of}
use Rattle.ips_lay.specs.Records.{MakesInPart}
use Rattle.ips_published.specs.Publishing.{attempt}
use Rattle.ips_publish.specs.Told.{BlamesFolder, is_published}

-- No attempt is begun, and nothing is told as published; or that which the words ask for is, with what was judged to be put, and it is answered exactly where it is told as
-- published. At every moment each attempt stands whole in the repository or not at all, this one too. Only where a call failed while directories of the records were made
-- and not yet made safe, nothing is said.
pub data Stops {F : Type 0} (o : Outside F) (proto : Image) (words : List (List ℕ)) (moment : ℕ) (old new : F) (x : SendOutcome) : Type 0 where
  NoneBegun : IsFalse (is_published x) → IsSend journal_text o AreWholeOrOut [] [] old new → Stops o proto words moment old new x
  OneBegun : (a : Asked) (is : IsAsked a) (put : Put) (at : F) → Asks moment words (Publish a.publisher a.stem a.version a.path) → HasSettled journal_text o AreWholeOrOut old at
      → Judges proto (o.state at).held (asked_of a) (judged.Publish put) → IsSend journal_text o AreWholeOrOut (attempt a is put false ∷ []) (attempt a is put (is_published x) ∷ []) old new
      → Stops o proto words moment old new x
  MadeInPart : (at : F) → BlamesFolder x → HasSettled journal_text o AreWholeOrOut old at → MakesInPart o at new → Stops o proto words moment old new x

-- A history goes on with a run: of the attempts that it began some are known, as they ended; and where it is told as published, that which the words ask for is one of them, and was answered.
pub record GoesOn {F : Type 0} (o : Outside F) (words : List (List ℕ)) (moment : ℕ) (xs : List Attempt) (new : F) (x : SendOutcome) : Type 0 where
  pub ended : List Attempt
  pub sends : Sends journal_text o AreWholeOrOut (ended ++ xs) (o.state new)
  pub answered : IsTrue (is_published x) → (a : Asked) × (is : IsAsked a) × (put : Put) × Asks moment words (Publish a.publisher a.stem a.version a.path) × Contains ended (attempt a is put true)

-- A call failed while directories of the records were made and not yet made safe: nothing is said of the history from there.
pub record BreaksOff {F : Type 0} (o : Outside F) (old new : F) (x : SendOutcome) : Type 0 where
  pub blames : BlamesFolder x
  pub at : F
  pub has : HasSettled journal_text o AreWholeOrOut old at
  pub makes : MakesInPart o at new
