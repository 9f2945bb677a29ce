-- What is made of a folder that was looked at first.
use Rattle.std.proofs.Common.{◌≡◌, ◌⊎◌, inl, inr, ℕ, ◌-◌, Bool, true, false, List, [], length, take, drop, take_all, length-drop, Result, Ok, Err, refl, sym, ap, subst, ◌∙◌, arith}
use Rattle.std.proofs.lemmas.List.{take-map, drop-map}
use Rattle.ips_text.specs.Kept.{Kept}
use Rattle.ips_text.specs.declared.refusal.Or.{Or}
use Rattle.ips_text.specs.declared.refusal.Or.TheVariants.{Bad, OutOfMemory}
use Rattle.ips_text.specs.Reading.{IfBad}
use Rattle.ips_outside.specs.Children.{path_bytes}
use Rattle.ips_outside.specs.Image.{Image}
use Rattle.ips_outside.specs.State.{State, IsSettled, nowhere}
use Rattle.ips_outside.specs.Outside.{Outside, IsOutside, Reads}
use Rattle.ips_outside.proofs.Moments.{within_self}
use Rattle.ips_folder.specs.Calls.{Throughout, ChangesOnly}
use Rattle.ips_folder.proofs.Runs.{started, goes_on, joins, begun, keeps_then, one_read}
use Rattle.ips_journal.specs.Text.{journal_text}
use Rattle.ips_steps.proofs.Lists.{clash}
use Rattle.ips_repo.specs.Places.{catalog_place}
use Rattle.ips_repo.specs.Mark.{is_repository}
use Rattle.ips_listing.specs.Text.{catalog_text}
use Rattle.ips_ways.specs.Ways.{HasBegun, IsFree, is_missing}
use Rattle.ips_lay.specs.Records.{MakesInPart, record_dirs}
use Rattle.ips_sends.specs.Keeps.{Keeps}
use Rattle.ips_sends.specs.Sends.{MakesRecords}
use Rattle.ips_sends.specs.Whole.{Attempt, AreWholeOrOut}
use Rattle.ips_create.specs.Created.{Layout, layout_of, place_dirs, all_dirs, IsFault, SaysOfMaking, is_begun, has_begun}
use Rattle.ips_create.specs.Making.{IsMarkedLast, Makes, is_laid}
use Rattle.ips_create.specs.Judging.{SaysOfChecking}
use Rattle.ips_create.specs.Ready.{laid_out}
use Rattle.ips_create.specs.declared.fault.CreateFault.{CreateFault}
use Rattle.ips_create.specs.declared.fault.CreateFault.TheVariants.{Exists, Blocked, FolderFault}
use Rattle.ips_create.proofs.Moments.{unmarked_last}

-- ---- the list of the directories, cut behind those of the records

module _ (p : List ℕ) (items : List Kept) (are : path_bytes items ≡ all_dirs (layout_of p)) where
  pub records_are : path_bytes (take 2 items) ≡ record_dirs
  records_are = sym (take-map (λ (k : Kept). k.bytes) 2 items) ∙ ap (take 2) are

  -- those behind
  abbrev rest : List Kept
  rest = take (length items - 2) (drop 2 items)

  places_are : path_bytes rest ≡ place_dirs p
  places_are = ap path_bytes (take_all (length items - 2) (drop 2 items) (omega (arith, length-drop 2 items))) ∙ sym (drop-map (λ (k : Kept). k.bytes) 2 items) ∙ ap (drop 2) are

  pub layout_is : (catalog text : List ℕ) → catalog ≡ catalog_place p → text ≡ catalog_text p [] → laid_out (path_bytes rest) catalog text ≡ layout_of p
  layout_is catalog text at is = ap (λ (dirs : List (List ℕ)). laid_out dirs catalog text) places_are ∙ ap (λ (path : List ℕ). laid_out (place_dirs p) path text) at ∙ ap (laid_out (place_dirs p) (catalog_place p)) is

-- ---- calls that only read

module _ {F : Type 0} (o : Outside F) (sane : IsOutside o) (old mid : F) (failure : Type 0) (reads : Reads o old mid failure) where
  throughout : (P : State → Type 0) → P (o.state old) → Throughout o old mid P
  throughout P here = goes_on o old old mid P (started o old P (sane.only_now old) here) reads.call.time (subst P (sym reads.kept) here)

  -- nothing is made
  pub makes_none : (l : Layout) → Makes o l old mid
  makes_none l = record {
    from = old;
    first = inl refl;
    records = begun o (is_missing (o.state old).held record_dirs) nowhere old (sane.only_now old);
    rest = one_read o sane (is_laid l (o.state old).held) (is_laid l (o.state old).held) old mid failure reads;
    kept = λ xs was. throughout (Keeps journal_text (AreWholeOrOut xs)) was;
  }

  pub marked_none : (l : Layout) → IsSettled (o.state old) → is_repository (o.state old).held ≡ false → Throughout o old mid (IsMarkedLast l)
  marked_none l safe unmarked = throughout (IsMarkedLast l) (unmarked_last l nowhere nowhere (o.state old) (o.state old) safe (within_self nowhere nowhere (o.state old)) refl refl unmarked)

  pub begun_none : HasBegun (o.changes old) (o.changes mid) false
  begun_none = record { none = λ e. reads.none_made; some = λ e. cc }

  -- ---- and then it is made

  records_behind : (from : F) → MakesRecords o mid from → MakesRecords o old from
  records_behind from makes = record { dir = makes.dir; is = makes.is; absent = ap (λ (s : State). s.held.look makes.dir) (sym reads.kept) ∙ makes.absent }

  only_behind : (from : F) → ChangesOnly o (is_missing (o.state mid).held record_dirs) nowhere mid from → ChangesOnly o (is_missing (o.state old).held record_dirs) nowhere old from
  only_behind from run =
      let records : List ℕ → Bool = is_missing (o.state old).held record_dirs in
      keeps_then o records nowhere old mid from (one_read o sane records nowhere old mid failure reads) (subst (λ (s : State). ChangesOnly o (is_missing s.held record_dirs) nowhere mid from) reads.kept run)

  pub part_behind : (new : F) → MakesInPart o mid new → MakesInPart o old new
  part_behind new part = record { makes = records_behind new part.makes; only = only_behind new part.only }

  module _ (l : Layout) (new : F) where
    laid_behind : (from : F) → ChangesOnly o (is_laid l (o.state mid).held) (is_laid l (o.state mid).held) from new → ChangesOnly o (is_laid l (o.state old).held) (is_laid l (o.state old).held) from new
    laid_behind from run = subst (λ (s : State). ChangesOnly o (is_laid l s.held) (is_laid l s.held) from new) reads.kept run

    abbrev KeepsFrom : F → Type 0
    KeepsFrom from = (xs : List Attempt) → Keeps journal_text (AreWholeOrOut xs) (o.state mid) → Throughout o from new (Keeps journal_text (AreWholeOrOut xs))

    from_there : (from : F) → (from ≡ mid) ⊎ MakesRecords o mid from → ChangesOnly o (is_missing (o.state mid).held record_dirs) nowhere mid from → ChangesOnly o (is_laid l (o.state mid).held) (is_laid l (o.state mid).held) from new → KeepsFrom from → Makes o l old new
    from_there from (inl is) records rest kept =
        let laid : List ℕ → Bool = is_laid l (o.state old).held in
        record {
          from = old;
          first = inl refl;
          records = begun o (is_missing (o.state old).held record_dirs) nowhere old (sane.only_now old);
          rest = keeps_then o laid laid old mid new (one_read o sane laid laid old mid failure reads) (subst (λ (f : F). ChangesOnly o laid laid f new) is (laid_behind from rest));
          kept = λ xs was. joins o old mid new (Keeps journal_text (AreWholeOrOut xs)) (throughout (Keeps journal_text (AreWholeOrOut xs)) was)
              (subst KeepsFrom is kept xs (subst (Keeps journal_text (AreWholeOrOut xs)) (sym reads.kept) was));
        }
    from_there from (inr makes) records rest kept = record {
      from = from;
      first = inr (records_behind from makes);
      records = only_behind from records;
      rest = laid_behind from rest;
      kept = λ xs was. kept xs (subst (Keeps journal_text (AreWholeOrOut xs)) (sym reads.kept) was);
    }

    pub makes_behind : Makes o l mid new → Makes o l old new
    makes_behind m = from_there m.from m.first m.records m.rest m.kept

    pub marked_behind : IsSettled (o.state old) → is_repository (o.state old).held ≡ false → Throughout o mid new (IsMarkedLast l) → Throughout o old new (IsMarkedLast l)
    marked_behind safe unmarked run = joins o old mid new (IsMarkedLast l) (marked_none l safe unmarked) run

    -- the same layout
    pub renamed : {X : Type 0} (m : Layout) → m ≡ l → Makes o m mid new ⊎ X → Makes o l mid new ⊎ X
    renamed m is (inl makes) = inl (subst (λ (k : Layout). Makes o k mid new) is makes)
    renamed m is (inr x) = inr x

    -- either way, as it is answered
    pub either_behind : (why : CreateFault) → Makes o l mid new ⊎ (MakesInPart o mid new × ((let r : Result (Unit {0}) CreateFault = Err why in r) ≡ Err (FolderFault true)))
        → Makes o l old new ⊎ (MakesInPart o old new × ((let r : Result (Unit {0}) (Or CreateFault) = Err (Bad why) in r) ≡ Err (Bad (FolderFault true))))
    either_behind why (inl m) = inl (makes_behind m)
    either_behind why (inr (part, is)) = inr (part_behind new part, ap (λ (r : Result (Unit {0}) CreateFault). of_bad r) is)
      where
        of_bad : Result (Unit {0}) CreateFault → Result (Unit {0}) (Or CreateFault)
        of_bad (Ok x) = Ok x
        of_bad (Err w) = Err (Bad w)

    pub done_behind : Makes o l mid new ⊎ (MakesInPart o mid new × ((let r : Result (Unit {0}) CreateFault = Ok tt in r) ≡ Err (FolderFault true))) → Makes o l old new
    done_behind (inl m) = makes_behind m
    done_behind (inr (part, is)) = absurd cc

-- ---- why it isn't made

-- what is said before the calls that may change something
pub says_first : (l : Layout) (t : Image) (why : CreateFault) → SaysOfChecking t (all_dirs l) why → is_begun why ≡ false → SaysOfMaking l t why
says_first l t Exists says not = says
says_first l t (Blocked path) says not = says
says_first l t (FolderFault unfinished) says not = λ e. clash unfinished e not

-- what is said of them
pub says_then : (l : Layout) (t : Image) (why : CreateFault) → IsFault why → is_repository t ≡ false → IsFree t (all_dirs l) → SaysOfMaking l t why
says_then l t Exists fault unmarked free = absurd fault
says_then l t (Blocked path) fault unmarked free = absurd fault
says_then l t (FolderFault unfinished) fault unmarked free = λ e. (unmarked, free)

-- the same as they are answered
pub says_refused : (l : Layout) (t : Image) (dirs : List (List ℕ)) → dirs ≡ all_dirs l → (e : Or CreateFault) → IfBad {X = Unit {0}} (Err e) (SaysOfChecking t dirs) → IfBad {X = Unit {0}} (Err e) (λ why. is_begun why ≡ false) → IfBad {X = Unit {0}} (Err e) (SaysOfMaking l t)
says_refused l t dirs are (Bad why) says not = says_first l t why (subst (λ (d : List (List ℕ)). SaysOfChecking t d why) are says) not
says_refused l t dirs are OutOfMemory says not = tt

pub refused_unbegun : (e : Or CreateFault) → IfBad {X = Unit {0}} (Err e) (λ why. is_begun why ≡ false) → has_begun (Err e) ≡ false
refused_unbegun (Bad why) not = not
refused_unbegun OutOfMemory not = refl
