-- Calls that change nothing, before a publication ends.
use Rattle.std.proofs.Common.{◌≡◌, List, IfSome, refl, sym, ap, subst, ◌∙◌}
use Rattle.ips_outside.specs.Image.{Image}
use Rattle.ips_outside.specs.State.{State, nowhere}
use Rattle.ips_outside.specs.Outside.{Outside, IsOutside, Elapses, Reads}
use Rattle.ips_folder.specs.Calls.{ChangesOnly, Throughout}
use Rattle.ips_folder.proofs.Runs.{started, goes_on, joins, weaker, one_read, keeps_then}
use Rattle.ips_ways.specs.Ways.{is_missing}
use Rattle.ips_lay.specs.Records.{MakesInPart, record_dirs}
use Rattle.ips_sends.specs.Whole.{Attempt}
use Rattle.ips_sends.specs.Judged.{Publish, Judges}
use Rattle.ips_sends.specs.Judged as judged
use Rattle.ips_judged.specs.declared.verdict.Asked.{Asked}
use Rattle.ips_judged.specs.Answers.{IsAsked, asked_of, refusal_of}
use Rattle.ips_published.specs.Ending.{Ending}
use Rattle.ips_published.specs.Publishing.{DiffersBeside, IsPublishedOver}
use Rattle.ips_published.specs.Answers.{Ends, StaysSame, KeepsAttempt, IsRefused, IsUnjudged, IsMadeInPart, IsUnput, IsUnfinished, IsPublished}
use Rattle.ips_published.proofs.Lead.{Says}

module _ {F : Type 0} (o : Outside F) (sane : IsOutside o) where
  -- nothing is changed at any moment
  pub stays_same : (old new : F) → o.state new ≡ o.state old → Elapses o old new → StaysSame o old new
  stays_same old new same time = goes_on o old old new (λ (s : State). s ≡ o.state old) (started o old (λ (s : State). s ≡ o.state old) (sane.only_now old) refl) time same

  module _ (old mid : F) (failure : Type 0) (reads : Reads o old mid failure) where
    same : o.state mid ≡ o.state old
    same = reads.kept

    keeps_all : (xs : List Attempt) → Says xs (o.state old) → Throughout o old mid (Says xs)
    keeps_all xs was = goes_on o old old mid (Says xs) (started o old (Says xs) (sane.only_now old) was) reads.call.time (subst (Says xs) (sym same) was)

    keeps_later : (begun ended : Attempt) (new : F) → KeepsAttempt o begun ended mid new → KeepsAttempt o begun ended old new
    keeps_later begun ended new is = record {
      at = is.at;
      before = λ xs was. joins o old mid is.at (Says xs) (keeps_all xs was) (is.before xs (subst (Says xs) (sym same) was));
      from = is.from;
      first = is.first;
      still = λ xs was. is.still xs (subst (Says xs) (sym same) was);
      at_end = λ xs was. is.at_end xs (subst (Says xs) (sym same) was);
    }

    same_later : (new : F) → StaysSame o mid new → StaysSame o old new
    same_later new run =
        joins o old mid new (λ (s : State). s ≡ o.state old) (stays_same old mid same reads.call.time)
        (weaker o mid new (λ (s : State). s ≡ o.state mid) (λ (s : State). s ≡ o.state old) (λ s is. is ∙ same) run)

    makes_later : (new : F) → MakesInPart o mid new → MakesInPart o old new
    makes_later new part = record {
      makes = record { dir = part.makes.dir; is = part.makes.is; absent = sym (ap (λ (s : State). s.held.look part.makes.dir) same) ∙ part.makes.absent };
      only = keeps_then o (is_missing (o.state old).held record_dirs) nowhere old mid new (one_read o sane (is_missing (o.state old).held record_dirs) nowhere old mid failure reads)
          (subst (λ (s : State). ChangesOnly o (is_missing s.held record_dirs) nowhere mid new) same part.only);
    }

    -- it ends so behind them too
    pub ends_later : (proto : Image) (a : Asked) (is : IsAsked a) (new : F) (x : Ending) → Ends o proto a is mid new x → Ends o proto a is old new x
    unfolding keeps_later
    ends_later proto a is new x (IsRefused r judges run) =
        IsRefused r (subst (λ (s : State). Judges proto s.held (asked_of a) (judged.Refused (refusal_of r))) same judges) (same_later new run)
    ends_later proto a is new x (IsUnjudged y stopped run) = IsUnjudged y stopped (same_later new run)
    ends_later proto a is new x (IsMadeInPart put judges makes) = IsMadeInPart put (subst (λ (s : State). Judges proto s.held (asked_of a) (Publish put)) same judges) (makes_later new makes)
    ends_later proto a is new x (IsUnput put y judges stopped keeps leaves) =
        IsUnput put y (subst (λ (s : State). Judges proto s.held (asked_of a) (Publish put)) same judges) stopped (keeps_later _ _ new keeps)
        (record { shut = leaves.shut; seen = subst (λ (s : State). DiffersBeside a put s.held (o.state new).held) same leaves.seen })
    ends_later proto a is new x (IsUnfinished put judges keeps leaves) =
        IsUnfinished put (subst (λ (s : State). Judges proto s.held (asked_of a) (Publish put)) same judges) (keeps_later _ _ new keeps)
        (record {
          before = leaves.before;
          seen = subst (λ (s : State). DiffersBeside a put s.held leaves.before) same leaves.seen;
          after = leaves.after;
          published = subst (λ (s : State). IfSome leaves.after (IsPublishedOver a is put s.held)) same leaves.published;
          owed = leaves.owed;
        })
    ends_later proto a is new x (IsPublished put judges keeps has) =
        IsPublished put (subst (λ (s : State). Judges proto s.held (asked_of a) (Publish put)) same judges) (keeps_later _ _ new keeps)
        (record { after = has.after; committed = has.committed; published = subst (λ (s : State). IsPublishedOver a is put s.held has.after) same has.published })
