-- A list of steps staged behind a closed gate.
use Rattle.std.proofs.Common.{◌≡◌, inl, inr, ⊎_elim, ℕ, ◌≤◌, Bool, true, false, cond, ◌||◌, List, [], length, ◌++◌, Option, Some, None, Result, refl, sym, ◌∙◌, ap, subst, arith, is_none}
use Rattle.std.specs.Fmt.{decimal}
use Rattle.std.proofs.lemmas.Bool.{or_parts, or_right, and_parts, not-true, cases_lt}
use Rattle.ips_text.specs.Ancestry.{covers, is_below, parent, same_path}
use Rattle.ips_text.proofs.Ancestry.{uncovered}
use Rattle.ips_outside.specs.Image.{Image, IsImage, Agrees, Dir, is_dir, file_bytes, has_parent, dir_or_none, Entry}
use Rattle.ips_outside.specs.Change.{with_entry_at}
use Rattle.ips_outside.specs.State.{State, ChangedWithin, IsSettled, nowhere, settled}
use Rattle.ips_outside.specs.Outside.{Outside, IsOutside, Elapses, Reads, Rose, risen}
use Rattle.ips_outside.proofs.Formed.{placed_formed}
use Rattle.ips_outside.proofs.Moments.{agrees_less, agrees_on, placed_within, within_self, within_then, within_wider}
use Rattle.ips_outside.proofs.Placed.{look_placed}
use Rattle.ips_folder.specs.Calls.{CanMake, Writes, ChangesOnly, Throughout}
use Rattle.ips_folder.proofs.Runs.{started, goes_on, joins, weaker, keeps_then, keeps_wider}
use Rattle.ips_steps.specs.Steps.{Step, Stage, stage_name, stage_path, stage_of, freed, met, all_laid, possible, after, feasible}
use Rattle.ips_steps.specs.Private.{records_name, journal_name, gate_name, mark_front, mark_name, begins, is_private, visible}
use Rattle.ips_steps.specs.Journal.{IsJournal}
use Rattle.ips_steps.specs.Owed.{FolderOwes, IsPrivate}
use Rattle.ips_steps.proofs.Again.{again_but}
use Rattle.ips_steps.proofs.ByName.{means_the_steps}
use Rattle.ips_steps.proofs.Linked.{own_alike}
use Rattle.ips_steps.proofs.Lists.{clash}
use Rattle.ips_steps.proofs.PrivateNames.{all_clear, begins_below, begins_front, journal_private, visible_agrees, stage_parent, journal_parent, gate_parent}
use Rattle.ips_steps.proofs.Owing.{folder_old}
use Rattle.ips_journal.specs.Text.{journal_text}
use Rattle.ips_journal.specs.declared.staged.Staged.{Staged}
use Rattle.ips_commit.specs.Pending.{IsBehindGate, HasNoOtherMark, IsSwept, is_swept}
use Rattle.ips_contents.specs.Contents.{StagedContents, AreStanding, AreSeen, AreAlone, HaveModes, HoldsOnly}
use Rattle.ips_commit.specs.Staging.{CanStage, HasStaged, IsCleared, IsFilled, IsStaged}
use Rattle.ips_commit.proofs.OwnNames.{swept_private, gate_unswept, records_unswept, stage_swept, journal_swept, behind_front}
use Rattle.ips_contents.proofs.Wrote.{wrote}
use Rattle.ips_commit.proofs.Owing.{nodes_of, unswept, swept_seen, swept_gone}
use Rattle.ips_contents.proofs.AllWritten.{standing_kept, content_kept, some_content}
use Rattle.ips_contents.proofs.Written.{own_modes}

-- a count that was counted up rose
pub rose_of : (before now : ℕ) → risen before ≤ now → Rose before now
rose_of before now up = elim (cases_lt before now) [
  | inl more ↦ inl more
  | inr less ↦ inr (omega (arith, up, less))
]

-- ---- what is swept, changed or set in its mode

pub with_modes : (old s : State) → ChangedWithin is_swept nowhere old s → ChangedWithin is_swept is_swept old s
with_modes old s w = within_wider is_swept nowhere is_swept is_swept old s (λ q off. off) (λ q off. refl) w

-- where nothing was touched before, private names alone are
own_touched : (old s : State) → IsSettled old → ChangedWithin is_swept is_swept old s → IsPrivate s
own_touched old s clean w = record {
  whole = λ q is. own q (is_swept q) refl (λ off. clash (s.whole q) is (w.whole q off (clean.whole q)));
  modes = λ q is. own q (is_swept q) refl (λ off. clash (s.modes q) is (w.modes q off (clean.modes q)));
}
  where
    own : (q : List ℕ) (b : Bool) → is_swept q ≡ b → (is_swept q ≡ false → ⊥) → is_private q ≡ true
    own q true is never = swept_private q is
    own q false is never = absurd (never is)

-- ---- what was left is taken away

module _ {F : Type 0} (o : Outside F) (sane : IsOutside o) (old : F) where
  abbrev Behind : State → Type 0
  Behind s = IsBehindGate (o.state old) s

  pub unbegun : Throughout o old old Behind
  unbegun = started o old Behind (sane.only_now old) (inl refl)

  -- a sync that failed
  pub unsynced : (new : F) → Elapses o old new → o.state new ≡ o.state old → Throughout o old new Behind
  unsynced new time kept = goes_on o old old new Behind unbegun time (inl kept)

  module _ (mid : F) (time : Elapses o old mid) (safe : o.state mid ≡ settled (o.state old)) where
    pub synced : Throughout o old mid Behind
    synced = goes_on o old old mid Behind unbegun time (inr (subst (ChangedWithin is_swept is_swept (settled (o.state old))) (sym safe) (within_self is_swept is_swept (settled (o.state old)))))

    -- then the folder was only read
    module _ (read : F) (failure : Type 0) (reads : Reads o mid read failure) where
      pub same_read : o.state read ≡ settled (o.state old)
      same_read = reads.kept ∙ safe

      pub synced_read : Throughout o old read Behind
      synced_read = goes_on o old mid read Behind synced reads.call.time (inr (subst (ChangedWithin is_swept is_swept (settled (o.state old))) (sym same_read) (within_self is_swept is_swept (settled (o.state old)))))

      -- and swept
      pub synced_swept : (new : F) → ChangesOnly o is_swept is_swept read new → Throughout o old new Behind
      synced_swept new run = joins o old read new Behind synced_read (weaker o read new (ChangedWithin is_swept is_swept (o.state read)) Behind (λ s w. inr (subst (λ (x : State). ChangedWithin is_swept is_swept x s) same_read w)) run.moments)

      pub swept_now : (new : F) → ChangesOnly o is_swept is_swept read new → ChangedWithin is_swept is_swept (settled (o.state old)) (o.state new)
      swept_now new run = subst (λ (x : State). ChangedWithin is_swept is_swept x (o.state new)) same_read run.now

  -- one more run
  pub behind_then : (mid new : F) → Throughout o old mid Behind → ChangedWithin is_swept is_swept (settled (o.state old)) (o.state mid) → ChangesOnly o is_swept is_swept mid new → Throughout o old new Behind
  behind_then mid new so_far here run =
      joins o old mid new Behind so_far (weaker o mid new (ChangedWithin is_swept is_swept (o.state mid)) Behind (λ s w. inr (within_then is_swept is_swept (settled (o.state old)) (o.state mid) s here w)) run.moments)

  -- since nothing was touched only what is swept was changed
  pub clean_behind : IsSettled (o.state old) → (new : F) → ChangesOnly o is_swept nowhere old new → Throughout o old new Behind
  clean_behind clean new run = weaker o old new (ChangedWithin is_swept nowhere (o.state old)) Behind (λ s w. inr (with_modes (settled (o.state old)) s (record {
    whole = λ q off safe. w.whole q off (clean.whole q);
    modes = λ q off safe. w.modes q off (clean.modes q);
    agrees = w.agrees;
  }))) run.moments

  -- ---- at every moment what is seen is owed

  module _ (told : o.tells old ≡ true) (new : F) (run : Throughout o old new Behind) where
    pub staging_seen : visible (o.state new).held ≡ visible (o.state old).held
    staging_seen = ⊎_elim (λ same. ap (λ (s : State). visible s.held) same) (λ w. swept_seen (o.state old).held (o.state new).held (own_modes is_swept (o.state old).held (o.state new).held w.agrees)) (run.each (o.state new) (sane.counts_now new (o.clock old) run.later))

    pub staging_owed : (o.state old).held.look gate_name ≡ None → IsSettled (o.state old) → (a : Option Image) → Throughout o old new (FolderOwes journal_text (visible (o.state old).held) a false)
    staging_owed shut clean a = weaker o old new Behind (FolderOwes journal_text (visible (o.state old).held) a false) each run
      where
        sweeping : (base s : State) → base.held ≡ (o.state old).held → IsSettled base → ChangedWithin is_swept is_swept base s → FolderOwes journal_text (visible (o.state old).held) a false s
        sweeping base s same safe w =
            let h = own_modes is_swept base.held s.held w.agrees in
            subst (λ (x : Image). FolderOwes journal_text x a false s) (swept_seen base.held s.held h ∙ ap visible same)
            (folder_old journal_text s (own_touched base s safe w) (h.look gate_name gate_unswept refl ∙ ap (λ (t : Image). t.look gate_name) same ∙ shut)
            (w.whole gate_name gate_unswept (safe.whole gate_name)) a)

        each : (s : State) → Behind s → FolderOwes journal_text (visible (o.state old).held) a false s
        each s behind = ⊎_elim
            (λ same. sweeping (o.state old) s refl clean (subst (ChangedWithin is_swept is_swept (o.state old)) (sym same) (within_self is_swept is_swept (o.state old))))
            (λ w. sweeping (settled (o.state old)) s refl (record { whole = λ q. refl; modes = λ q. refl }) w)
            behind

-- nothing stands where staging writes
pub cleared_by : (marks : List (List ℕ)) (t v : Image) → HasNoOtherMark t marks → IsSwept marks t v → IsCleared v
cleared_by marks t v others swept q is = swept_gone marks t v others swept q is

-- ---- what stays

pub standing_swept : (t u : Image) → Agrees is_swept nowhere t u → (staged : List Staged) → AreSeen staged → AreStanding t staged → AreStanding u staged
standing_swept t u h staged seen there n s at = standing_kept is_swept unswept t u h s (seen n s at) (there n s at)

pub contents_swept : (tells : Bool) (repository : Image) (publisher : List ℕ) (t u : Image) → Agrees is_swept nowhere t u → (staged : List Staged) → AreSeen staged
    → (contents : ℕ → Option (List ℕ)) → StagedContents tells repository publisher u staged contents → StagedContents tells repository publisher t staged contents
contents_swept tells repository publisher t u h staged seen contents are n s at =
    let there = are n s at in
    (there.0, there.1, content_kept is_swept unswept tells repository publisher t u h s (seen n s at) there.0 there.2)

pub records_swept : (t u : Image) → Agrees is_swept nowhere t u → is_dir (t.look records_name) ≡ true → is_dir (u.look records_name) ≡ true
records_swept t u h dir = ap is_dir (h.look records_name records_unswept refl) ∙ dir

pub filled_swept : (tells : Bool) (repository : Image) (publisher : List ℕ) (steps : List Step) (staged : List Staged) (t u : Image) (s : State) → Agrees is_swept nowhere t u → AreSeen staged
    → IsFilled tells repository publisher steps staged u s → IsFilled tells repository publisher steps staged t s
filled_swept tells repository publisher steps staged t u s h seen filled = record {
  safe = filled.safe;
  journal = filled.journal;
  stage = filled.stage;
  only = filled.only;
  contents = contents_swept tells repository publisher t u h staged seen (stage_of s.held) filled.contents;
  modes = filled.modes;
  alone = filled.alone;
  unmarked = filled.unmarked;
}

-- ---- the stage is made and filled

mark_stage : (d : List ℕ) → covers stage_name (mark_front ++ d) ≡ false
unfolding stage_name mark_front
mark_stage d = refl

mark_journal : (d : List ℕ) → covers journal_name (mark_front ++ d) ≡ false
unfolding journal_name mark_front
mark_journal d = refl

pub journal_staged : covers stage_name journal_name ≡ false
unfolding stage_name journal_name
journal_staged = refl

records_staged : covers stage_name records_name ≡ false
unfolding stage_name records_name
records_staged = refl

content_unlisted : (n : ℕ) → covers journal_name (stage_path n) ≡ false
unfolding stage_name journal_name
content_unlisted n = refl

stage_unlisted : covers journal_name stage_name ≡ false
unfolding stage_name journal_name
stage_unlisted = refl

stage_itself : begins stage_name stage_name ≡ true
unfolding stage_name
stage_itself = refl

front_unlisted : (d : List ℕ) → covers journal_name (stage_name ++ d) ≡ false
unfolding stage_name journal_name
front_unlisted d = refl

-- nothing in the stage is the journal
below_unlisted : (q : List ℕ) → is_below stage_name q ≡ true → covers journal_name q ≡ false
below_unlisted q below =
    let cut = behind_front stage_name q (begins_below stage_name stage_name q stage_itself (and_parts (covers stage_name q) _ below).0) in
    ap (covers journal_name) cut.1 ∙ front_unlisted cut.0

pub journal_is_swept : is_swept journal_name ≡ true
unfolding stage_name journal_name
journal_is_swept = refl

stage_is_swept : is_swept stage_name ≡ true
unfolding stage_name
stage_is_swept = refl

mark_is_swept : (q : List ℕ) → begins mark_front q ≡ true → is_swept q ≡ true
mark_is_swept q is = or_right (covers stage_name q) _ (or_right (covers journal_name q) (begins mark_front q) is)

-- a name in the records' folder, at which nothing stands
can_make_own : (t : Image) (own p : List ℕ) → p ≡ own → parent own ≡ Some records_name → t.look own ≡ None → is_dir (t.look records_name) ≡ true → CanMake t p
can_make_own t own p at above none dir = record {
  absent = ap t.look at ∙ none;
  parent = ap (has_parent t) at ∙ ap (dir_or_none t) above ∙ dir;
}

pub can_make_stage : (t : Image) (p : List ℕ) → p ≡ stage_name → IsCleared t → is_dir (t.look records_name) ≡ true → CanMake t p
can_make_stage t p at cleared dir = can_make_own t stage_name p at stage_parent (cleared stage_name stage_is_swept) dir

pub can_make_journal : (t u : Image) (p : List ℕ) → p ≡ journal_name → Agrees (covers stage_name) nowhere t u → IsCleared t → is_dir (t.look records_name) ≡ true → CanMake u p
can_make_journal t u p at h cleared dir = can_make_own u journal_name p at journal_parent (h.look journal_name journal_staged refl ∙ cleared journal_name journal_is_swept) (ap is_dir (h.look records_name records_staged refl) ∙ dir)

pub made_entry : (p : List ℕ) (t u : Image) → p ≡ stage_name → u ≡ with_entry_at p (Some (Dir 448 false)) t → u.look stage_name ≡ Some (Dir 448 false)
made_entry p t u at made = ap u.look (sym at) ∙ ap (λ (w : Image). w.look p) made ∙ look_placed p (Some (Dir 448 false)) t

pub made_dir : (p : List ℕ) (t u : Image) → p ≡ stage_name → u ≡ with_entry_at p (Some (Dir 448 false)) t → is_dir (u.look stage_name) ≡ true
made_dir p t u at made = ap is_dir (made_entry p t u at made)

none_in_stage : (t : Image) (q : List ℕ) → is_below stage_name q ≡ true → (with_entry_at stage_name (Some (Dir 448 false)) t).look q ≡ None
none_in_stage t q below = let parts = and_parts (covers stage_name q) _ below in rw (not-true _ parts.1, parts.0) refl

pub made_empty : (p : List ℕ) (t u : Image) → p ≡ stage_name → u ≡ with_entry_at p (Some (Dir 448 false)) t → (q : List ℕ) → is_below stage_name q ≡ true → u.look q ≡ None
made_empty p t u at made q below = ap (λ (w : Image). w.look q) (made ∙ ap (λ (x : List ℕ). with_entry_at x (Some (Dir 448 false)) t) at) ∙ none_in_stage t q below

in_stage : (t u : Image) → Agrees (covers stage_name) nowhere t u → Agrees is_swept nowhere t u
in_stage t u h = agrees_less (covers stage_name) nowhere is_swept nowhere t u stage_swept (λ q l. l) h

pub standing_staged : (t u : Image) → Agrees (covers stage_name) nowhere t u → (staged : List Staged) → AreSeen staged → AreStanding t staged → AreStanding u staged
standing_staged t u h staged seen there = standing_swept t u (in_stage t u h) staged seen there

module _ {F : Type 0} (o : Outside F) (sane : IsOutside o) where
  pub stage_made : (p : List ℕ) → p ≡ stage_name → (old new : F) (to : State) {T E : Type 0} (result : Result T E) → o.tells old ≡ true → Writes o (covers p) nowhere to old new result → ChangesOnly o (covers stage_name) (covers stage_name) old new
  stage_made p at old new to result told w = keeps_wider o (covers stage_name) nowhere (covers stage_name) (covers stage_name) old new (λ q off. off) (λ q off. refl)
      (wrote o sane (covers stage_name) p (λ q off. ap (λ (x : List ℕ). covers x q) at ∙ off) old new to result told w)

  -- so what isn't in the stage is as before
  pub stage_agrees : (old new : F) → ChangesOnly o (covers stage_name) (covers stage_name) old new → Agrees (covers stage_name) nowhere (o.state old).held (o.state new).held
  stage_agrees old new run = own_modes (covers stage_name) (o.state old).held (o.state new).held run.now.agrees

  pub stage_kept : (old new : F) → ChangesOnly o (covers stage_name) (covers stage_name) old new → ChangesOnly o is_swept is_swept old new
  stage_kept old new run = keeps_wider o (covers stage_name) (covers stage_name) is_swept is_swept old new stage_swept stage_swept run

  pub journal_kept : (p : List ℕ) → p ≡ journal_name → (old mid new : F) → ChangesOnly o (covers stage_name) (covers stage_name) old mid → ChangesOnly o (covers p) nowhere mid new → ChangesOnly o is_swept is_swept old new
  journal_kept p at old mid new first run = keeps_then o is_swept is_swept old mid new (stage_kept old mid first)
      (keeps_wider o (covers p) nowhere is_swept is_swept mid new (λ q off. ap (λ (x : List ℕ). covers x q) at ∙ journal_swept q off) (λ q off. refl) run)

-- apart from the journal, what shares a content's file did so before it was written
without_journal : (t u : Image) → Agrees (covers journal_name) nowhere t u → (n : ℕ) (q : List ℕ) → (with_entry_at journal_name None u).same (stage_path n) q ≡ true → t.same (stage_path n) q ≡ true
without_journal t u h n q same = go (covers journal_name q) refl (sym at ∙ same)
  where
    at : (with_entry_at journal_name None u).same (stage_path n) q ≡ cond (covers journal_name q) false (u.same (stage_path n) q)
    at = rw (content_unlisted n, uncovered journal_name (stage_path n) (content_unlisted n)) refl

    go : (c : Bool) → covers journal_name q ≡ c → cond c false (u.same (stage_path n) q) ≡ true → t.same (stage_path n) q ≡ true
    go true is there = cc
    go false off there = sym (h.same (stage_path n) q (content_unlisted n) off) ∙ there

-- no mark is made
pub stage_unmarked : (t u : Image) → IsCleared t → Agrees (covers stage_name) nowhere t u → HasNoOtherMark u []
stage_unmarked t u cleared h q is others = let cut = behind_front mark_front q is in h.look q (ap (covers stage_name) cut.1 ∙ mark_stage cut.0) refl ∙ cleared q (mark_is_swept q is)

pub journal_unmarked : (t u v : Image) → IsCleared t → Agrees (covers stage_name) nowhere t u → Agrees (covers journal_name) nowhere u v → HasNoOtherMark v []
journal_unmarked t u v cleared h last q is others = let cut = behind_front mark_front q is in last.look q (ap (covers journal_name) cut.1 ∙ mark_journal cut.0) refl ∙ stage_unmarked t u cleared h q is others

pub all_filled : (tells : Bool) (repository : Image) (publisher : List ℕ) (steps : List Step) (staged : List Staged) (t u v : Image) (s : State) → IsCleared t → AreSeen staged
    → Agrees (covers stage_name) nowhere t u → Agrees (covers stage_name) nowhere t v → Agrees (covers journal_name) nowhere v s.held → StagedContents tells repository publisher u staged (stage_of v)
    → HaveModes steps v → AreAlone v → v.look stage_name ≡ Some (Dir 448 false) → HoldsOnly (length staged) v
    → file_bytes (s.held.look journal_name) ≡ Some (journal_text steps) → IsSettled s → IsFilled tells repository publisher steps staged t s
all_filled tells repository publisher steps staged t u v s cleared seen made filled last are modes alone stands only file safe = record {
  safe = safe;
  journal = file;
  stage = last.look stage_name stage_unlisted refl ∙ stands;
  only = λ q below there. only q below (λ none. there (last.look q (below_unlisted q below) refl ∙ none));
  contents = λ n x there.
      let old = contents_swept tells repository publisher t u (in_stage t u made) staged seen (stage_of v) are n x there in
      (old.0, ap file_bytes (last.look (stage_path n) (content_unlisted n) refl) ∙ old.1, old.2);
  modes = λ k n m p there. let old = modes k n m p there in (old.0, last.look (stage_path n) (content_unlisted n) refl ∙ old.1);
  alone = λ n q small same. alone n q small (without_journal v s.held last n q same);
  unmarked = λ q is. journal_unmarked t v s.held cleared filled last q is refl;
}

-- ---- the list stands ready

-- What was filled is what the steps mean on the image before: laid by a name they leave what they say with these contents.
pub has_staged : (tells : Bool) (repository : Image) (publisher : List ℕ) (steps : List Step) (staged : List Staged) (t : Image) (s : State) → IsImage t → IsImage s.held → IsJournal steps → CanStage steps staged t
    → Agrees is_swept nowhere t s.held → IsFilled tells repository publisher steps staged t s → HasStaged tells repository publisher steps staged t s
has_staged tells repository publisher steps staged t s formed formed_now lists can h filled = record {
  contents = contents;
  are = filled.contents;
  modes = filled.modes;
  stage = filled.stage;
  only = filled.only;
  is = record {
    safe = filled.safe;
    shut = h.look gate_name gate_unswept refl ∙ can.shut;
    unmarked = filled.unmarked;
    ready = record {
      lists = lists;
      is_sound = can.is_sound;
      journal = filled.journal;
      marked = record { stand = λ i lt. absurd (omega (arith, lt)); last = filled.unmarked (mark_name 1) (begins_front mark_front (decimal 1)) };
      can = sym alike.0 ∙ laid_by_name.0;
      means = sym alike.2 ∙ laid_by_name.1 ∙ ap (λ (c : Stage). visible (all_laid c steps u)) same_contents ∙ visible_agrees (all_laid contents steps t) (all_laid contents steps u) both.1;
    };
  };
}
  where
    contents : Stage
    contents = stage_of s.held

    -- the image without the journal
    u : Image
    u = with_entry_at journal_name None s.held

    apart : Agrees (covers journal_name) nowhere s.held u
    apart = placed_within journal_name None s.held

    same_contents : stage_of u ≡ contents
    same_contents = λ i n. ap file_bytes (apart.look (stage_path n) (content_unlisted n) refl) i

    possible_then : possible contents steps t ≡ true
    possible_then = can.can contents (some_content tells repository publisher t staged contents filled.contents)

    swept : Agrees is_swept nowhere t u
    swept = agrees_on is_swept nowhere t s.held u h (agrees_less (covers journal_name) nowhere is_swept nowhere s.held u journal_swept (λ q l. l) apart)

    wide : Agrees (λ q. freed steps q || is_private q) (met contents steps t) t u
    wide = agrees_less is_swept nowhere (λ q. freed steps q || is_private q) (met contents steps t) t u (λ q off. unswept q (or_parts (freed steps q) (is_private q) off).1) (λ q l. refl) swept

    both : (possible contents steps u ≡ true) × Agrees is_private nowhere (all_laid contents steps t) (all_laid contents steps u)
    both = again_but is_private contents steps t u (nodes_of t formed) can.is_sound (all_clear steps lists.names) possible_then wide

    laid_by_name : (feasible steps u ≡ true) × (visible (after steps u) ≡ visible (all_laid (stage_of u) steps u))
    laid_by_name = means_the_steps steps u (placed_formed journal_name None s.held formed_now (λ bad. cc) (λ bad. cc) refl) lists
        (subst (λ (c : Stage). possible c steps u ≡ true) (sym same_contents) both.0) filled.alone

    alike : (feasible steps u ≡ feasible steps s.held) × Agrees (covers journal_name) nowhere (after steps s.held) (after steps u) × (visible (after steps u) ≡ visible (after steps s.held))
    alike = own_alike (covers journal_name) journal_private content_unlisted stage_unlisted steps s.held u lists.names apart

-- ---- the gate can be made where a change stands ready

above_journal : covers records_name journal_name ≡ true
unfolding records_name journal_name
above_journal = refl

not_journal : same_path records_name journal_name ≡ false
unfolding records_name journal_name
not_journal = refl

stands_above : (e : Option Entry) (text : List ℕ) (d : Bool) → (is_none e || d) ≡ true → file_bytes e ≡ Some text → d ≡ true
stands_above None text d above there = cc
stands_above (Some e) text d above there = above

pub can_open : (steps : List Step) (a : Image) (s : State) → IsImage s.held → IsStaged steps a s → CanMake s.held gate_name
can_open steps a s formed staged = record {
  absent = staged.shut;
  parent = ap (dir_or_none s.held) gate_parent
      ∙ stands_above (s.held.look journal_name) _ (is_dir (s.held.look records_name)) (formed.below_dirs records_name journal_name above_journal not_journal) staged.ready.journal;
}

pub unmarked : (steps : List Step) (a : Image) (s : State) → IsStaged steps a s → HasNoOtherMark s.held []
unmarked steps a s staged = λ q is others. staged.unmarked q is
