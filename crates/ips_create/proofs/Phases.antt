-- The phases in which a repository is made.
use Rattle.std.proofs.Common.{◌≡◌, ◌⊎◌, inl, inr, ℕ, ◌≤◌, Bool, true, false, List, Some, None, Result, Err, refl, sym, ap, subst, ◌∙◌}
use Rattle.std.specs.List.{Contains}
use Rattle.std.proofs.lemmas.Bool.{or_parts}
use Rattle.ips_text.specs.Ancestry.{covers}
use Rattle.ips_outside.specs.Image.{Image, File, is_dir, has_parent, dir_or_none, file_bytes}
use Rattle.ips_outside.specs.State.{IsSettled, ChangedWithin, nowhere}
use Rattle.ips_outside.specs.Outside.{Outside, IsOutside, Elapses, Rose}
use Rattle.ips_outside.proofs.Faults.{rose_since}
use Rattle.ips_folder.specs.Calls.{Throughout, ChangesOnly}
use Rattle.ips_folder.proofs.Runs.{joins, weaker, begun, stays, keeps_then, keeps_wider}
use Rattle.ips_steps.specs.Private.{gate_name}
use Rattle.ips_journal.specs.Text.{journal_text}
use Rattle.ips_repo.specs.Places.{mark_place}
use Rattle.ips_repo.specs.Mark.{is_repository}
use Rattle.ips_ways.specs.Ways.{HasBegun, any_missing, gives_way, is_missing, with_dirs}
use Rattle.ips_lay.specs.Records.{MakesInPart, record_dirs}
use Rattle.ips_lay.proofs.Recorded.{makes_records}
use Rattle.ips_sends.specs.Keeps.{Keeps}
use Rattle.ips_sends.specs.Sends.{MakesRecords}
use Rattle.ips_sends.specs.Whole.{AreWholeOrOut}
use Rattle.ips_create.specs.Created.{Layout, all_dirs, mark_text, IsMade}
use Rattle.ips_create.specs.Making.{StandsBut, IsMarkedLast, Makes, is_laid}
use Rattle.ips_create.specs.Ready.{IsLayout, IsReady, is_put}
use Rattle.ips_create.specs.declared.fault.CreateFault.{CreateFault}
use Rattle.ips_create.specs.declared.fault.CreateFault.TheVariants.{FolderFault}
use Rattle.ips_create.proofs.Moments.{marked_by, unmarked_last, stands_last, records_off_mark, put_off_mark, laid_off_gate, put_laid, mark_laid, kept_within}

module _ {F : Type 0} (o : Outside F) (sane : IsOutside o) (l : Layout) (is : IsLayout l) (old : F) (ready : IsReady l (o.state old).held) (safe : IsSettled (o.state old)) where
  abbrev t : Image
  t = (o.state old).held

  abbrev laid : List ℕ → Bool
  laid = is_laid l t

  abbrev records : List ℕ → Bool
  records = is_missing t record_dirs

  -- ---- the directories of the records

  pub first_marked : (one : F) → ChangesOnly o records nowhere old one → Throughout o old one (IsMarkedLast l)
  first_marked one run = weaker o old one (ChangedWithin records nowhere (o.state old)) (IsMarkedLast l)
      (λ s w. unmarked_last l records nowhere (o.state old) s safe w (records_off_mark l is t) refl ready.unmarked) run.moments

  still_unmarked : (one : F) → ChangesOnly o records nowhere old one → is_repository (o.state one).held ≡ false
  still_unmarked one run = marked_by t (o.state one).held (run.now.agrees.look mark_place (records_off_mark l is t) refl) ∙ ready.unmarked

  -- From this moment on the rest is made; up to it directories of the records were, of which one was missing, or nothing.
  pub record Start (one : F) : Type 0 where
    pub from : F
    pub first : (from ≡ old) ⊎ MakesRecords o old from
    pub up_to : ChangesOnly o records nowhere old from
    pub clean : IsSettled (o.state from)
    pub shut : (o.state from).held.look gate_name ≡ None
    pub on : ChangesOnly o laid laid from one

  none_yet : ChangesOnly o records nowhere old old
  none_yet = begun o records nowhere old (sane.only_now old)

  -- nothing was changed so far
  pub still_start : (one : F) → Elapses o old one → o.state one ≡ o.state old → Start one
  still_start one time same = record {
    from = old;
    first = inl refl;
    up_to = none_yet;
    clean = safe;
    shut = ready.shut;
    on = stays o laid laid old old one (begun o laid laid old (sane.only_now old)) time same;
  }

  -- they are made
  pub made_start : (one : F) → any_missing t record_dirs ≡ true → ChangesOnly o records nowhere old one → IsSettled (o.state one) → (o.state one).held ≡ with_dirs record_dirs t → Start one
  made_start one missing run clean held = record {
    from = one;
    first = inr (makes_records o old one missing);
    up_to = run;
    clean = clean;
    shut = ap (λ (u : Image). u.look gate_name) held ∙ ready.shut_then;
    on = begun o laid laid one (sane.only_now one);
  }

  pub start_of : (one : F) (made : Bool) → (made ≡ false → Elapses o old one) → (made ≡ false → o.state one ≡ o.state old) → (made ≡ true → any_missing t record_dirs ≡ true) → ChangesOnly o records nowhere old one → IsSettled (o.state one)
      → (o.state one).held ≡ with_dirs record_dirs t → Start one
  start_of one true time same missing run clean held = made_start one (missing refl) run clean held
  start_of one false time same missing run clean held = still_start one (time refl) (same refl)

  pub start_then : (one two : F) → Start one → ChangesOnly o laid laid one two → Start two
  start_then one two s run = record { from = s.from; first = s.first; up_to = s.up_to; clean = s.clean; shut = s.shut; on = keeps_then o laid laid s.from one two s.on run }

  pub makes_from : (new : F) → Start new → Makes o l old new
  makes_from new s = record {
    from = s.from;
    first = s.first;
    records = s.up_to;
    rest = s.on;
    kept = λ xs was. weaker o s.from new (ChangedWithin laid laid (o.state s.from)) (Keeps journal_text (AreWholeOrOut xs))
        (λ u w. kept_within xs (o.state old) (o.state s.from) u laid laid was ready.shut ready.unmarked s.clean s.shut w (laid_off_gate l is t) (laid_off_gate l is t)) s.on.moments;
  }

  -- they aren't, and nothing else is
  pub unmade : (one : F) (begun : Bool) → (begun ≡ false → Elapses o old one) → (begun ≡ false → o.state one ≡ o.state old) → (begun ≡ true → any_missing t record_dirs ≡ true) → ChangesOnly o records nowhere old one
      → Makes o l old one ⊎ (MakesInPart o old one × ((let r : Result (Unit {0}) CreateFault = Err (FolderFault begun) in r) ≡ Err (FolderFault true)))
  unmade one false time same missing run = inl (makes_from one (still_start one (time refl) (same refl)))
  unmade one true time same missing run = inr (record { makes = makes_records o old one (missing refl); only = run }, refl)

  -- ---- the rest, but for the mark

  module _ (one : F) (up_to : ChangesOnly o records nowhere old one) (clean : IsSettled (o.state one)) (held : (o.state one).held ≡ with_dirs record_dirs t) where
    abbrev u : Image
    u = (o.state one).held

    abbrev put : List ℕ → Bool
    put = is_put l.catalog l.dirs u

    older : (r : List ℕ) → gives_way r (u.look r) ≡ true → gives_way r (t.look r) ≡ true
    older r way = ready.older r (sym (ap (λ (v : Image). gives_way r (v.look r)) held) ∙ way)

    pub rest_laid : (two : F) → ChangesOnly o put put one two → ChangesOnly o laid laid one two
    rest_laid two run = keeps_wider o put put laid laid one two (put_laid l t u older) (put_laid l t u older) run

    pub second_marked : (two : F) → ChangesOnly o put put one two → Throughout o old two (IsMarkedLast l)
    second_marked two run = joins o old one two (IsMarkedLast l) (first_marked one up_to)
        (weaker o one two (ChangedWithin put put (o.state one)) (IsMarkedLast l)
        (λ s w. unmarked_last l put put (o.state one) s clean w (put_off_mark l is u) (put_off_mark l is u) (still_unmarked one up_to)) run.moments)

    -- the directory of the catalog stands then
    pub catalog_parent : has_parent (with_dirs l.dirs u) l.catalog ≡ true
    catalog_parent = ap (dir_or_none (with_dirs l.dirs u)) is.parent_is ∙ ap (λ (v : Image). is_dir ((with_dirs l.dirs v).look is.dir)) held ∙ ready.stand is.dir is.among

    module _ (two : F) (written : (o.state two).held.look l.catalog ≡ Some (File 420 l.text)) (others : (q : List ℕ) → covers l.catalog q ≡ false → (o.state two).held.look q ≡ (with_dirs l.dirs u).look q) where
      dirs_then : (d : List ℕ) → Contains (all_dirs l) d → is_dir ((o.state two).held.look d) ≡ true
      dirs_then d has = ap is_dir (others d (is.catalog_dirs d has)) ∙ ap (λ (v : Image). is_dir ((with_dirs l.dirs v).look d)) held ∙ ready.stand d has

      stands : StandsBut l (o.state two).held
      stands = (ap file_bytes written, dirs_then)

      -- ---- the mark

      module _ (clean_two : IsSettled (o.state two)) (new : F) (run : ChangesOnly o (covers mark_place) (covers mark_place) two new) where
        third_marked : Throughout o old two (IsMarkedLast l) → Throughout o old new (IsMarkedLast l)
        third_marked so_far = joins o old two new (IsMarkedLast l) so_far
            (weaker o two new (ChangedWithin (covers mark_place) (covers mark_place) (o.state two)) (IsMarkedLast l) (λ s w. stands_last l is (o.state two) s clean_two w stands) run.moments)

        mark_put : ChangesOnly o laid laid two new
        mark_put = keeps_wider o (covers mark_place) (covers mark_place) laid laid two new (mark_laid l t) (mark_laid l t) run

        -- either way, behind all before
        pub makes_all : Start one → ChangesOnly o put put one two → Makes o l old new
        makes_all start rest = makes_from new (start_then two new (start_then one two start (rest_laid two rest)) mark_put)

        pub marked_all : ChangesOnly o put put one two → Throughout o old new (IsMarkedLast l)
        marked_all rest = third_marked (second_marked two rest)

        same : (q : List ℕ) → covers mark_place q ≡ false → (o.state new).held.look q ≡ (o.state two).held.look q
        same q off = run.now.agrees.look q off off

        pub made_at : (o.state new).held.look mark_place ≡ Some (File 420 mark_text) → IsSettled (o.state new) → IsMade l t (o.state new)
        made_at mark clean_new = record {
          unmarked = ready.unmarked;
          free = ready.free;
          mark = mark;
          catalog = same l.catalog is.mark_listed ∙ written;
          dirs = λ d has. ap is_dir (same d (is.mark_dirs d has)) ∙ dirs_then d has;
          others = λ q m c. same q m ∙ others q c ∙ ap (λ (v : Image). (with_dirs l.dirs v).look q) held;
          safe = clean_new;
        }

-- ---- the rest, call by call

module _ {F : Type 0} (o : Outside F) (catalog : List ℕ) (dirs : List (List ℕ)) (old one : F) where
  abbrev put_here : List ℕ → Bool
  put_here = is_put catalog dirs (o.state old).held

  pub dirs_put : ChangesOnly o (is_missing (o.state old).held dirs) nowhere old one → ChangesOnly o put_here put_here old one
  dirs_put run = keeps_wider o (is_missing (o.state old).held dirs) nowhere put_here put_here old one (λ q off. (or_parts (covers catalog q) (is_missing (o.state old).held dirs q) off).1) (λ q off. refl) run

  pub catalog_put : (new : F) → ChangesOnly o put_here put_here old one → ChangesOnly o (covers catalog) (covers catalog) one new → ChangesOnly o put_here put_here old new
  catalog_put new first run = keeps_then o put_here put_here old one new first
      (keeps_wider o (covers catalog) (covers catalog) put_here put_here one new (λ q off. (or_parts (covers catalog q) (is_missing (o.state old).held dirs q) off).0)
      (λ q off. (or_parts (covers catalog q) (is_missing (o.state old).held dirs q) off).0) run)

-- ---- directories that are those of the records

module _ {F : Type 0} (o : Outside F) (dirs : List (List ℕ)) (are : dirs ≡ record_dirs) (old one : F) where
  pub run_of : ChangesOnly o (is_missing (o.state old).held dirs) nowhere old one → ChangesOnly o (is_missing (o.state old).held record_dirs) nowhere old one
  run_of run = subst (λ (d : List (List ℕ)). ChangesOnly o (is_missing (o.state old).held d) nowhere old one) are run

  pub held_of : (o.state one).held ≡ with_dirs dirs (o.state old).held → (o.state one).held ≡ with_dirs record_dirs (o.state old).held
  held_of held = held ∙ ap (λ (d : List (List ℕ)). with_dirs d (o.state old).held) are

  pub missing_of : (made : Bool) → (made ≡ true → any_missing (o.state old).held dirs ≡ true) → made ≡ true → any_missing (o.state old).held record_dirs ≡ true
  missing_of made missing is = sym (ap (λ (d : List (List ℕ)). any_missing (o.state old).held d) are) ∙ missing is

-- calls that may change something: one was made at last
pub begun_at_last : (a b d : ℕ) → a ≤ b → Rose b d → HasBegun a d true
begun_at_last a b d le rose = record { none = λ e. cc; some = λ e. rose_since a b d le rose }
