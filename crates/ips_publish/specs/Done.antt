-- What is so where it is told that something is done.
use Rattle.std.specs.Prelude.{◌≡◌, ℕ, false, List, Ok}
use Rattle.ips_outside.specs.Image.{Image}
use Rattle.ips_outside.specs.State.{settled}
use Rattle.ips_outside.specs.Outside.{Outside}
use Rattle.ips_steps.specs.Private.{visible}
use Rattle.ips_kinds.specs.Tallies.{Carrier}
use Rattle.ips_catalog.specs.Listed.{Listed}
use Rattle.ips_repo.specs.Opening.{opening}
use Rattle.ips_listing.specs.Text.{with_version}
use Rattle.ips_sends.specs.Judged.{Put, Judges}
use Rattle.ips_sends.specs.Judged as verdict
use Rattle.ips_sends.specs.Published.{fmri_text}
use Rattle.ips_send_words.specs.Words.{Asks}
use Rattle.ips_send_words.specs.declared.request.Request.TheVariants.{Create, Publish}
use Rattle.ips_create.specs.Created.{IsCreated}
use Rattle.ips_judged.specs.declared.verdict.Asked.{Asked}
use Rattle.ips_judged.specs.Answers.{IsAsked, asked_of}
use Rattle.ips_published.specs.Publishing.{attempt, LeavesUnput, HasPublished}
use Rattle.ips_published.specs.Answers.{KeepsAttempt}
use Rattle.ips_publish.specs.Comes.{IsSettledAt}

-- A repository of the publisher that the words name is made of what was found once the target was settled.
pub record SaysCreated {F : Type 0} (o : Outside F) (words : List (List ℕ)) (moment : ℕ) (old new : F) (before : List Carrier) : Type 0 where
  pub publisher : List ℕ
  pub asks : Asks moment words (Create publisher)
  pub at : F
  pub mid : List Carrier
  pub settled : IsSettledAt o old at before mid
  pub created : IsCreated publisher (o.state at).held (o.state new)

-- The version that the words name, whose name is told, is published over what was found once the target was settled, as it was judged that it can be.
pub record SaysPublished {F : Type 0} (o : Outside F) (proto : Image) (words : List (List ℕ)) (moment : ℕ) (old new : F) (before : List Carrier) (fmri : List ℕ) : Type 0 where
  pub asked : Asked
  pub is : IsAsked asked
  pub asks : Asks moment words (Publish asked.publisher asked.stem asked.version asked.path)
  pub named : fmri ≡ fmri_text asked.publisher asked.stem asked.version
  pub at : F
  pub mid : List Carrier
  pub settled : IsSettledAt o old at before mid
  pub put : Put
  pub judged : Judges proto (o.state at).held (asked_of asked) (verdict.Publish put)
  pub published : HasPublished o asked is put at new
  -- the repository opens as it did, with just this version more
  pub catalog : List Listed
  pub opened : opening asked.publisher (o.state at).held ≡ Ok catalog
  pub opens : opening asked.publisher (visible (o.state new).held) ≡ Ok (with_version asked.stem asked.version catalog)

-- Memory ran out with nothing asked of the target, or where it was only synced; or, once it was settled, with nothing changed since, or behind a gate that has stayed closed
-- since the records stand. So it didn't from the first change of a recovery to its end, nor from the gate's call on.
pub data StarvesEarly {F : Type 0} (o : Outside F) (old new : F) (before : List Carrier) : Type 0 where
  Unasked : o.state new ≡ o.state old → StarvesEarly o old new before
  Synced : o.state new ≡ settled (o.state old) → StarvesEarly o old new before
  Unchanged : (at : F) (mid : List Carrier) → IsSettledAt o old at before mid → o.state new ≡ o.state at → StarvesEarly o old new before
  Unput : (a : Asked) (is : IsAsked a) (put : Put) (at : F) (mid : List Carrier) → IsSettledAt o old at before mid → (keeps : KeepsAttempt o (attempt a is put false) (attempt a is put false) at new) → LeavesUnput o a put at keeps.from new
      → StarvesEarly o old new before
